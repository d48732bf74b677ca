use Rattle.std.proofs.Common.{drop}
use Rattle.edge_index_core.specs.Runs.{AreRunBoxes}
use Rattle.edge_index_core.proofs.AroundLemmas.{IsAroundTo}
use Rattle.edge_index_core.proofs.around.runs_around.Given as goal

abbrev pub invariant-loop-shape : goal.invariant-loop-shape
invariant-loop-shape l = record {
  boxes : AreRunBoxes l.rest (drop l.shape-index l.boxes);
  around : IsAroundTo l.bounds l.fn.edges l.rest l.near.items;
}
