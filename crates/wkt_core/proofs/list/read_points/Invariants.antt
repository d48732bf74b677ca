use Rattle.std.proofs.Common.{length, List}
use Rattle.wkt_core.specs.Grammar.{RawPoint}
use Rattle.wkt_core.specs.ListSteps.{Begun, TakesPoint}
use Rattle.wkt_core.specs.ReadLists.{IsReadOf}
use Rattle.wkt_core.proofs.list.read_points.Given as goal

abbrev pub invariant-loop-point : goal.invariant-loop-point
invariant-loop-point l = (done : List RawPoint) × (Begun (TakesPoint l.fn.scale) done l.initial.rest l.rest) × IsReadOf l.fn.scale l.list done

abbrev pub decreases-loop-point : goal.decreases-loop-point
decreases-loop-point l = length l.rest
