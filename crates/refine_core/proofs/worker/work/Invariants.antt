use Rattle.std.proofs.Common.{◌≡◌, ◌-◌, ◌<◌, ◌≤◌, ℕ, All, length}
use Rattle.deliver_core.specs.Boards.{IsSeatOf}
use Rattle.refine_core.specs.Parts.{IsPart, numbers_of}
use Rattle.refine_core.proofs.worker.work.Given as goal

abbrev pub invariant-loop-number : goal.invariant-loop-number
invariant-loop-number g l = record {
  seat : IsSeatOf l.job.board.now l.seat;
  numbers : numbers_of l.parts.items ≡ l.seat.drawn;
  parts : All (IsPart (g.C.Condition.stands l.job.condition.now) (g.C.Condition.answers l.job.condition.now) l.job.pairs.now) l.parts.items;
  few : (bound : ℕ) → All (λ number. number < bound) l.seat.drawn → length l.seat.drawn ≤ bound;
}

abbrev pub decreases-loop-number : goal.decreases-loop-number
decreases-loop-number g l = l.job.board.now.tasks - length l.seat.drawn
