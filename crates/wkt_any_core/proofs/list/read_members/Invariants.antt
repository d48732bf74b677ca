use Rattle.std.proofs.Common.{length}
use Rattle.wkt_any_core.specs.Steps.{TakesMember}
use Rattle.wkt_any_core.specs.Held.{AddsPoints}
use Rattle.wkt_any_core.proofs.LoopLemmas.{SoFar}
use Rattle.wkt_any_core.proofs.list.read_members.Given as goal

abbrev pub invariant-loop-after : goal.invariant-loop-after
invariant-loop-after l = SoFar (TakesMember l.fn.scale) (λ xs. AddsPoints l.scale l.fn.paths xs l.paths) l.initial.rest l.rest

abbrev pub decreases-loop-after : goal.decreases-loop-after
decreases-loop-after l = length l.rest
