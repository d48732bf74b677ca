use Rattle.std.proofs.Common.{take}
use Rattle.plane_core.specs.Places.{point_of}
use Rattle.plane_core.specs.Outlines.{IsScan}
use Rattle.plane_core.proofs.outline.scan_of.Given as goal

abbrev pub invariant-loop-e : goal.invariant-loop-e
invariant-loop-e l = IsScan (take l.e-index l.edges) (point_of l.p.place) l.scan
