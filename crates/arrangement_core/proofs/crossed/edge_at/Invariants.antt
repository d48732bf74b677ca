use Rattle.std.proofs.Common.{take}
use Rattle.plane_core.specs.Places.{point_of}
use Rattle.arrangement_core.specs.Crossed.{IsMet}
use Rattle.arrangement_core.proofs.crossed.edge_at.Given as goal

abbrev pub invariant-loop-f : goal.invariant-loop-f
invariant-loop-f l = IsMet (take l.f-index l.near) (point_of l.p.place) l.met
