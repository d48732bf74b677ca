use Rattle.std.proofs.Common.{◌≡◌, ◌==◌, ◌&&◌, length}
use Rattle.std.specs.List.{list_all}
use Rattle.number_core.specs.NumberSteps.{digits_at, after_digits}
use Rattle.number_core.proofs.number.zeros.Given as goal

abbrev pub invariant-loop-rest : goal.invariant-loop-rest
invariant-loop-rest l = record {
  rest : after_digits l.rest ≡ after_digits l.text;
  all : (l.all && list_all (λ d. d == 48) (digits_at l.rest)) ≡ list_all (λ d. d == 48) (digits_at l.text);
}

abbrev pub decreases-loop-rest : goal.decreases-loop-rest
decreases-loop-rest l = length l.rest
