use Rattle.std.proofs.Common.{take}
use Rattle.geometry_distance_core.specs.NearestPairs.{AddsPairs, of_each}
use Rattle.geometry_distance_core.proofs.search.with_each.Given as goal

abbrev pub invariant-loop-f : goal.invariant-loop-f
invariant-loop-f l = AddsPairs (of_each l.e (take l.f-index l.fs)) l.fn.nearest l.found
