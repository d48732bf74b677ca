use Rattle.std.proofs.Common.{◌≡◌, ◌++◌, ◌∙◌, ap, sym, arith, rules}
use Rattle.std.proofs.lemmas.List.{append-nil}
use Rattle.number_core.specs.CanonicalNumbers.{decimals}
use Rattle.number_core.proofs.FractionLemmas.{decimals-zero, digit_printed}
use Rattle.near_run_core.proofs.amount.push_decimals.Goals as goal

pub loop-rest-preserved : goal.loop-rest-preserved
loop-rest-preserved c =
    let (k, place, small, text) = c.loop-rest.invariant in
    digit_printed k _ _ _ _ _ _ place small c.loop-rest-test.true (search rules) c.format-digit.ensures.text text

pub returns : goal.returns
returns c =
    let (k, place, small, text) = c.loop-rest.invariant in
    let none : c.loop-rest.rest ≡ 0 = omega arith in
    sym (append-nil c.loop-rest.text.items) ∙ ap (λ ds. c.loop-rest.text.items ++ ds) (sym (ap (decimals k) none ∙ decimals-zero k)) ∙ text
