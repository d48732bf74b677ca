use Rattle.std.proofs.Common.{arith}
use Rattle.layer_tests.proofs.NumberLemmas.{one_more}
use Rattle.layer_tests.proofs.trees.Squares.listed.Goals as goal

pub loop-number-preserved : goal.loop-number-preserved
loop-number-preserved c = record {
  below = rw c.in_ok-push.ensures.items (one_more c.loop-number.number c.loop-number.entries.items _ c.entry.ensures c.loop-number.invariant.below);
  len = omega (arith, c.in_ok-push.ensures.len, c.loop-number.invariant.len);
}
