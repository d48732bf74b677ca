use Rattle.std.proofs.Common.{◌≡◌, ◌-◌, ◌≤◌, ◌++◌, length, take, drop}
use Rattle.number_core.specs.NumberSteps.{digits_at, after_digits}
use Rattle.number_core.proofs.rounded.split_digits.Given as goal

abbrev pub invariant-loop-count : goal.invariant-loop-count
invariant-loop-count l = record {
  few : l.count ≤ length l.text;
  digits : take l.count l.text ++ digits_at (drop l.count l.text) ≡ digits_at l.text;
  rest : after_digits (drop l.count l.text) ≡ after_digits l.text;
}

abbrev pub decreases-loop-count : goal.decreases-loop-count
decreases-loop-count l = length l.text - l.count
