use Rattle.std.proofs.Common.{◌++◌}
use Rattle.std.specs.Str.Parse.{digits_value}
use Rattle.number_core.specs.Values.{kept}
use Rattle.number_core.specs.NumberSteps.{IsCapped}
use Rattle.number_core.proofs.rounded.digits_before.Given as goal

abbrev pub invariant-loop-i : goal.invariant-loop-i
invariant-loop-i l = IsCapped l.sum (digits_value 10 (kept l.i (l.digits ++ l.decimals)))
