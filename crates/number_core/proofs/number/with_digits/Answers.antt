use Rattle.std.proofs.Common.{◌∙◌, sym, refl, arith}
use Rattle.number_core.proofs.NumberLemmas.{digit_taken, no_digit, leads_on, led}
use Rattle.number_core.proofs.number.with_digits.Goals as goal
use Rattle.number_core.proofs.number.with_digits.Goals.{in_default, in_default-2, in_default-3}

pub loop-rest-init : goal.loop-rest-init
loop-rest-init c = record { rest = refl; sum = λ total h. record { so_far = total; capped = h; whole = refl } }

pub loop-rest-preserved : goal.loop-rest-preserved
loop-rest-preserved c =
    let (digits, after) = digit_taken c.loop-rest.rest.now (omega arith) (omega arith) (omega arith) in
    record {
      rest = sym after ∙ c.loop-rest.invariant.rest;
      sum = λ total h. leads_on _ _ _ _ _ _ (search) digits (c.loop-rest.invariant.sum total h);
    }

pub returns-clause-value : goal.returns-clause-value
returns-clause-value c = λ total h.
    led _ _ _ (elim c.if-rest-lt1.branch [
      | in_default w ↦ no_digit c.loop-rest.rest.now (λ some low high. omega arith)
      | in_default-2 w ↦ no_digit c.loop-rest.rest.now (λ some low high. omega arith)
      | in_default-3 w ↦ no_digit c.loop-rest.rest.now (λ some low high. omega arith)
    ]) (c.loop-rest.invariant.sum total h)
