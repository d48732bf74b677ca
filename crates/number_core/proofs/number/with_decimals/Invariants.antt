use Rattle.std.proofs.Common.{◌≡◌, ◌-◌, ℕ, drop}
use Rattle.std.specs.Str.Parse.{digits_value_after}
use Rattle.number_core.specs.Values.{kept}
use Rattle.number_core.specs.NumberSteps.{digits_at, after_digits, IsCapped}
use Rattle.number_core.proofs.NumberLemmas.{LeadsTo}
use Rattle.number_core.proofs.number.with_decimals.Given as goal

abbrev pub invariant-loop : goal.invariant-loop
invariant-loop l = record {
  digits : digits_at l.rest ≡ drop l.counter (digits_at l.text);
  rest : after_digits l.rest ≡ after_digits l.text;
  sum : (total : ℕ) → IsCapped l.number total
      → LeadsTo l.sum (kept (l.count - l.counter) (digits_at l.rest)) (digits_value_after 10 total (kept l.count (digits_at l.text)));
}
