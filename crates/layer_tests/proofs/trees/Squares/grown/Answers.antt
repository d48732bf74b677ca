use Rattle.std.proofs.Common.{arith}
use Rattle.layer_tests.proofs.NumberLemmas.{fresh_after}
use Rattle.layer_tests.proofs.trees.Squares.grown.Goals as goal

pub loop-number-preserved : goal.loop-number-preserved
loop-number-preserved c = λ k h.
    fresh_after _ c.loop-number.tree c.insert.new.self k c.in_ok-insert.ensures.ok (λ e. omega (arith, c.entry.ensures))
    (c.loop-number.invariant k (omega arith))
