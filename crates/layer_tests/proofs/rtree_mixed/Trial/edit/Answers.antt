use Rattle.std.proofs.Common.{arith}
use Rattle.layer_tests.proofs.rtree_mixed.Trial.edit.Goals as goal
use Rattle.layer_tests.proofs.rtree_mixed.Trial.edit.Goals.{then-below-insertions+in_ok-insert, else-below-insertions+in_ok-remove+else-not-branch}

pub loop-number-preserved : goal.loop-number-preserved
loop-number-preserved c = λ k h.
    elim c.if-below-insertions.branch [
      | then-below-insertions+in_ok-insert w ↦ rw w.self-is (w.in_ok-insert.ensures k (omega arith))
      | else-below-insertions+in_ok-remove+else-not-branch w ↦ rw w.self-is (w.in_ok-remove.ensures k (c.loop-number.invariant k (omega arith)))
    ]
