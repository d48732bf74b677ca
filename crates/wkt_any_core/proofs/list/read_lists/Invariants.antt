use Rattle.std.proofs.Common.{length}
use Rattle.wkt_core.specs.ListSteps.{TakesPoints}
use Rattle.wkt_any_core.specs.Held.{AddsPaths}
use Rattle.wkt_any_core.proofs.LoopLemmas.{SoFar}
use Rattle.wkt_any_core.proofs.list.read_lists.Given as goal

abbrev pub invariant-loop-after : goal.invariant-loop-after
invariant-loop-after l = SoFar (TakesPoints l.fn.scale) (λ xs. AddsPaths l.scale l.fn.paths xs l.paths) l.initial.rest l.rest

abbrev pub decreases-loop-after : goal.decreases-loop-after
decreases-loop-after l = length l.rest
