use Rattle.std.proofs.Common.{arith}
use Rattle.rtree_core.proofs.WindowLemmas.{adds_none, adds_more_met, adds_more_missed}
use Rattle.rtree_core.proofs.window.collect_entries.Goals as goal

pub loop-entry-preserved-then-not-meets : goal.loop-entry-preserved-then-not-meets
loop-entry-preserved-then-not-meets g c =
    adds_more_missed (g.W.Window.shape_of c.args.window.now) c.args.entries.now c.loop-entry.entry-index c.entry-item.result _ _ c.loop-entry-test.true c.entry-item.is
    c.loop-entry.invariant (λ m. cc (c.admits-meets.ensures.1 m))

pub loop-entry-preserved : goal.loop-entry-preserved
loop-entry-preserved g c =
    adds_more_met (g.W.Window.shape_of c.args.window.now) c.args.entries.now c.loop-entry.entry-index c.entry-item.result _ _ _ c.loop-entry-test.true c.entry-item.is
    c.loop-entry.invariant (c.admits-meets.ensures.0 (cc)) (grind arith)

pub loop-entry-init : goal.loop-entry-init
loop-entry-init g c = adds_none (g.W.Window.shape_of c.args.window.now) c.args.found.now.items
