use Rattle.std.proofs.Common.{arith}
use Rattle.layer_tests.proofs.NumberLemmas.{fresh_after}
use Rattle.layer_tests.proofs.refused.grows_to_nine.Goals as goal

pub loop-number-preserved : goal.loop-number-preserved
loop-number-preserved c = λ k h.
    fresh_after _ c.loop-number.tree c.insert_at_last.new.tree k (rw c.if-not-insert_at_last.false at c.insert_at_last.ensures)
    (λ e. omega (arith, c.entry.ensures)) (c.loop-number.invariant k (omega arith))
