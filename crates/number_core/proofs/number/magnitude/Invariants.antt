use Rattle.std.proofs.Common.{◌≡◌, ◌<◌, ◌^◌, drop}
use Rattle.std.specs.Str.Parse.{digits_value, digits_value_after}
use Rattle.number_core.specs.NumberSteps.{digits_at, after_digits}
use Rattle.number_core.proofs.number.magnitude.Given as goal

abbrev pub invariant-loop-i : goal.invariant-loop-i
invariant-loop-i l = record {
  fits : l.sum < 10 ^ l.i;
  rest : after_digits (drop l.i l.text) ≡ after_digits l.text;
  sum : digits_value_after 10 l.sum (digits_at (drop l.i l.text)) ≡ digits_value 10 (digits_at l.text);
}
