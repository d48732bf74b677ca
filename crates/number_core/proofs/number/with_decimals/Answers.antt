use Rattle.std.proofs.Common.{rules, ◌≡◌, ◌-◌, ◌∙◌, refl, ap, drop, arith}
use Rattle.number_core.specs.Values.{kept}
use Rattle.number_core.specs.NumberSteps.{digits_at}
use Rattle.number_core.proofs.NumberLemmas.{kept-none, led, next_dropped, next_taken, decimal_led}
use Rattle.number_core.proofs.number.with_decimals.Goals as goal

pub loop-init : goal.loop-init
loop-init c =
    let e : c.args.count - 0 ≡ c.args.count = omega arith in
    record { digits = refl; rest = refl; sum = λ total h. record { so_far = total; capped = h; whole = rw e refl } }

pub loop-preserved : goal.loop-preserved
loop-preserved c = record {
  digits = search (rules, next_dropped);
  rest = search rules;
  sum = λ total h. let before = c.loop.invariant.sum total h in search (arith, decimal_led, next_taken);
}

pub returns-clause-value : goal.returns-clause-value
returns-clause-value c = λ total h.
    let e : c.args.count - c.loop.counter ≡ 0 = omega arith in
    led _ _ _ (ap (λ k. kept k (digits_at c.loop.rest.now)) e ∙ kept-none _) (c.loop.invariant.sum total h)

pub returns-clause-digits : goal.returns-clause-digits
returns-clause-digits c = let e : c.loop.counter ≡ c.args.count = omega arith in c.loop.invariant.digits ∙ ap (λ k. drop k (digits_at c.args.text.now)) e

pub returns-clause-rest : goal.returns-clause-rest
returns-clause-rest c = c.loop.invariant.rest
