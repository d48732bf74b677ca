use Rattle.std.proofs.Common.{take}
use Rattle.geometry_distance_core.specs.Measured.{ArePointEdges}
use Rattle.geometry_distance_core.proofs.index.point_edges.Given as goal

abbrev pub invariant-loop-v : goal.invariant-loop-v
invariant-loop-v l = ArePointEdges (take l.v-index l.points) l.edges.items
