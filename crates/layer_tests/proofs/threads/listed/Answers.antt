use Rattle.layer_tests.proofs.NumberLemmas.{one_more}
use Rattle.layer_tests.proofs.threads.listed.Goals as goal

pub loop-number-preserved : goal.loop-number-preserved
loop-number-preserved c =
    rw c.in_ok-push.ensures.items (one_more c.loop-number.number c.loop-number.entries.items _ c.entry.ensures c.loop-number.invariant)
