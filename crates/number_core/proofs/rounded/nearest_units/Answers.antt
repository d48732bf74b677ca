use Rattle.std.proofs.Common.{arith, rules}
use Rattle.number_core.specs.Scales.{digits_of}
use Rattle.number_core.proofs.RoundedLemmas.{raised_units, lowered_units, no_units}
use Rattle.number_core.proofs.rounded.nearest_units.Goals as goal

pub returns-in-Some : goal.returns-in-Some
returns-in-Some c = rw c.if-lowers.true (λ exponent s.
    lowered_units c.args.digits.now c.args.decimals.now (digits_of c.args.scale) c.requires.digits c.requires.decimals
    c.rounded_at.result c.args.amount exponent c.in-Some.place (omega arith) s (search (rules, arith)) (search rules))

pub returns-in-None : goal.returns-in-None
returns-in-None c = rw c.if-lowers.true (λ exponent s.
    no_units c.args.digits.now c.args.decimals.now (digits_of c.args.scale) c.requires.digits c.requires.decimals
    c.args.amount exponent s (search (rules, arith)))

pub returns-else-lowers : goal.returns-else-lowers
returns-else-lowers c = rw c.if-lowers.false (λ exponent s.
    raised_units c.args.digits.now c.args.decimals.now (digits_of c.args.scale) c.requires.digits c.requires.decimals
    c.rounded_at-else-lowers.result c.args.amount exponent c.min-raised.result _ (omega arith) s (search (rules, arith)) (omega arith)
    c.rounded_at-else-lowers.ensures)
