use Rattle.std.proofs.Common.{drop}
use Rattle.edge_index_core.specs.Runs.{AreRunBoxes}
use Rattle.geometry_distance_core.proofs.SearchLemmas.{IsAddedTo}
use Rattle.geometry_distance_core.proofs.search.with_runs.Given as goal

abbrev pub invariant-loop-shape : goal.invariant-loop-shape
invariant-loop-shape l = record {
  boxes : AreRunBoxes l.rest (drop l.shape-index l.boxes);
  added : IsAddedTo l.e l.fn.fs l.rest l.fn.nearest l.found;
}
