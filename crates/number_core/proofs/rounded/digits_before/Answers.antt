use Rattle.number_core.proofs.RoundedLemmas.{before_more}
use Rattle.number_core.proofs.rounded.digits_before.Goals as goal

pub loop-i-preserved : goal.loop-i-preserved
loop-i-preserved c =
    before_more _ c.loop-i.i c.loop-i.sum c.with_digit-sum.result (rw c.digit_at.ensures at c.with_digit-sum.ensures) c.loop-i.invariant
