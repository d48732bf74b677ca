use Rattle.std.proofs.Common.{arith}
use Rattle.run_core.proofs.SkippedLemmas.{none_more, one_more}
use Rattle.run_core.proofs.listing.push_side.Goals as goal

pub loop-row-init : goal.loop-row-init
loop-row-init c = none_more _ c.args.side.now

pub loop-row-preserved : goal.loop-row-preserved
loop-row-preserved c = one_more _ _ _ _ _ _ _ (omega arith) c.row-item.is c.loop-row.invariant c.in_ok-push_skipped.ensures
