use Rattle.std.proofs.Common.{drop}
use Rattle.edge_index_core.specs.Runs.{AreRunBoxes}
use Rattle.ring_core.proofs.RunLemmas.{IsProperTo}
use Rattle.ring_core.proofs.rings.are_runs_proper.Given as goal

abbrev pub invariant-loop-i : goal.invariant-loop-i
invariant-loop-i l = record {
  boxes : AreRunBoxes l.rest (drop l.i l.boxes);
  proper : IsProperTo l.fn.edges l.rest;
}
