use Rattle.number_core.proofs.RoundedLemmas.{amount_more}
use Rattle.number_core.proofs.rounded.amount.Goals as goal

pub loop-i-preserved : goal.loop-i-preserved
loop-i-preserved c =
    amount_more c.args.digits.now c.loop-i.i c.loop-i.sum c.from-digit.result c.saturating_mul.result c.saturating_add-sum.result
    c.loop-i-test.true c.requires c.from-digit.ensures c.saturating_mul.ensures c.saturating_add-sum.ensures c.loop-i.invariant
