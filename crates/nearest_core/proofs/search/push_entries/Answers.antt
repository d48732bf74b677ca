use Rattle.nearest_core.proofs.OpenLemmas.{entry_more}
use Rattle.nearest_core.proofs.SquareLemmas.{only_square}
use Rattle.nearest_core.proofs.search.push_entries.Goals as goal

pub loop-entry-preserved : goal.loop-entry-preserved
loop-entry-preserved c =
    entry_more c.args.shape.now c.args.entries.now _ c.entry-item.result _ _ _ _ c.loop-entry-test.true c.entry-item.is
    (only_square _ _ _ c.squared_distance.ensures.least) c.loop-entry.invariant c.in_ok-push.ensures
