use Rattle.std.proofs.Common.{arith, subst, sym}
use Rattle.number_core.specs.Numbers.{Digits}
use Rattle.number_core.proofs.FrontLemmas.{are_digits, are_decimals, are_exponents, number_short}
use Rattle.number_core.proofs.rounded.read_rounded.Goals as goal

pub amount-requires : goal.amount-requires
amount-requires c = subst Digits (sym c.split_exponent-lowers.ensures.digits) (are_exponents c.split_decimals.result.1.now)

pub nearest_units-units-requires-clause-digits : goal.nearest_units-units-requires-clause-digits
nearest_units-units-requires-clause-digits c = subst Digits (sym c.split_digits.ensures.digits) (are_digits c.sign-negative.result.1.now)

pub nearest_units-units-requires-clause-decimals : goal.nearest_units-units-requires-clause-decimals
nearest_units-units-requires-clause-decimals c = subst Digits (sym c.split_decimals.ensures.digits) (are_decimals c.split_digits.result.1.now)

pub nearest_units-units-requires-clause-short : goal.nearest_units-units-requires-clause-short
nearest_units-units-requires-clause-short c =
    let short = number_short c.args.text.now c.sign-negative.result.1.now c.split_digits.result.0.now c.split_digits.result.1.now c.split_decimals.result.0.now
    c.sign-negative.ensures.rest c.split_digits.ensures.digits c.split_digits.ensures.rest c.split_decimals.ensures.digits in
    omega (arith, short)
