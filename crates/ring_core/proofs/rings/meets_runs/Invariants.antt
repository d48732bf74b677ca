use Rattle.std.proofs.Common.{drop}
use Rattle.edge_index_core.specs.Runs.{AreRunBoxes}
use Rattle.ring_core.proofs.RunLemmas.{ComesTo}
use Rattle.ring_core.proofs.rings.meets_runs.Given as goal

abbrev pub invariant-loop-shape : goal.invariant-loop-shape
invariant-loop-shape l = record {
  boxes : AreRunBoxes l.rest (drop l.shape-index l.boxes);
  met : ComesTo l.e l.fn.edges l.rest;
}
