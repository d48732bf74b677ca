use Rattle.std.proofs.Common.{take}
use Rattle.geometry_distance_core.specs.NearestPairs.{AddsPairs, of_all}
use Rattle.geometry_distance_core.proofs.measured.MeasuredGeometry.nearest_edges.Given as goal

abbrev pub invariant-loop-e : goal.invariant-loop-e
invariant-loop-e l = AddsPairs (of_all (take l.e-index l.e-items) l.other-inside.index.now.edges.edges.items) l.initial.nearest l.nearest
