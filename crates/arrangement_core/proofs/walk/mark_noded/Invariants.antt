use Rattle.std.proofs.Common.{◌≡◌, ◌-◌, map, take, get_or}
use Rattle.std.specs.Prelude.{IfSome}
use Rattle.plane_core.specs.declared.node.Node.{Node}
use Rattle.plane_core.specs.Places.{node_point}
use Rattle.noding_core.specs.Growth.{HasGrownBy, edge_marks}
use Rattle.arrangement_core.specs.Crossed.{LiesAfter}
use Rattle.arrangement_core.proofs.walk.mark_noded.Given as goal

abbrev pub invariant-loop-i : goal.invariant-loop-i
invariant-loop-i l = record {
  grown : HasGrownBy (edge_marks l.pair.first.now l.pair.second.now (record { edge = l.course.edge; nodes = map node_point (take l.i l.nodes) })) l.fn.matrix l.walk.matrix;
  after : (k : Node) → k ≡ get_or l.nodes (l.i - 1) k → IfSome l.walk.part (LiesAfter l.pair.first.now l.pair.second.now l.course.edge (node_point k));
}
