use Rattle.std.proofs.Common.{◌≡◌, ℕ, length}
use Rattle.std.specs.Str.Parse.{digits_value_after}
use Rattle.number_core.specs.NumberSteps.{digits_at, after_digits, IsCapped}
use Rattle.number_core.proofs.NumberLemmas.{LeadsTo}
use Rattle.number_core.proofs.number.with_digits.Given as goal

abbrev pub invariant-loop-rest : goal.invariant-loop-rest
invariant-loop-rest l = record {
  rest : after_digits l.rest ≡ after_digits l.text;
  sum : (total : ℕ) → IsCapped l.number total → LeadsTo l.sum (digits_at l.rest) (digits_value_after 10 total (digits_at l.text));
}

abbrev pub decreases-loop-rest : goal.decreases-loop-rest
decreases-loop-rest l = length l.rest
