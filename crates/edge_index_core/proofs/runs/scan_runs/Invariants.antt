use Rattle.std.proofs.Common.{drop}
use Rattle.plane_core.specs.Places.{point_of}
use Rattle.edge_index_core.specs.Runs.{AreRunBoxes}
use Rattle.edge_index_core.proofs.RunLemmas.{IsScannedTo}
use Rattle.edge_index_core.proofs.runs.scan_runs.Given as goal

abbrev pub invariant-loop-shape : goal.invariant-loop-shape
invariant-loop-shape l = record {
  boxes : AreRunBoxes l.rest (drop l.shape-index l.boxes);
  scanned : IsScannedTo l.fn.edges l.rest (point_of l.p.place) l.scan;
}
