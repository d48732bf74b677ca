use Rattle.std.proofs.Common.{take}
use Rattle.std.specs.Prelude.{IfSome}
use Rattle.arrangement_core.specs.Seen.{IsSeen}
use Rattle.noding_core.specs.ReadOffs.{AreMarked, outline_edges}
use Rattle.arrangement_core.proofs.matrices.mark_some.Given as goal

abbrev pub invariant-loop-e : goal.invariant-loop-e
invariant-loop-e l = record {
  marked : AreMarked l.pair.first.now l.pair.second.now (outline_edges l.pair.first.now l.pair.second.now) l.points (take l.e-index l.edges) l.fn.matrix l.grown;
  seen : IfSome l.work.seen (IsSeen l.pair.second.now);
}
