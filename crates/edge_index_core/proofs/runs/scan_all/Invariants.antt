use Rattle.std.proofs.Common.{List, ◌++◌, take}
use Rattle.plane_core.specs.declared.edge.Edge.{Edge}
use Rattle.plane_core.specs.Places.{point_of}
use Rattle.plane_core.specs.Outlines.{IsScan}
use Rattle.edge_index_core.proofs.runs.scan_all.Given as goal

abbrev pub invariant-loop-e : goal.invariant-loop-e
invariant-loop-e l = (es : List Edge) → IsScan es (point_of l.p.place) l.fn.scan → IsScan (es ++ take l.e-index l.edges) (point_of l.p.place) l.grown
