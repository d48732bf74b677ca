use Rattle.std.proofs.Common.{take}
use Rattle.std.specs.Str.Parse.{digits_value}
use Rattle.number_core.specs.NumberSteps.{IsSaturated}
use Rattle.number_core.proofs.rounded.amount.Given as goal

abbrev pub invariant-loop-i : goal.invariant-loop-i
invariant-loop-i l = IsSaturated l.sum (digits_value 10 (take l.i l.digits))
