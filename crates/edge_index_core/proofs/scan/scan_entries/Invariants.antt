use Rattle.std.proofs.Common.{take}
use Rattle.plane_core.specs.Places.{point_of}
use Rattle.edge_index_core.specs.Scans.{AddsScan}
use Rattle.edge_index_core.proofs.scan.scan_entries.Given as goal

abbrev pub invariant-loop-entry : goal.invariant-loop-entry
invariant-loop-entry l = AddsScan l.edges (point_of l.p.place) (take l.entry-index l.entries) l.fn.scan l.grown
