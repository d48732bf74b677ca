use Rattle.parallel_core.proofs.Receivers.{continues_here, continues_on}
use Rattle.parallel_core.proofs.receiver.Receiver.take_until_bye.Goals as goal

pub loop-init : goal.loop-init
loop-init g c = continues_here _ _ c.requires.receives

pub loop-preserved : goal.loop-preserved
loop-preserved g c = continues_on _ _ c.loop.self _ c.loop.invariant c.take_in.ensures.continues

pub loop-preserved-then-take_in : goal.loop-preserved-then-take_in
loop-preserved-then-take_in g c = continues_on _ _ c.loop.self _ c.loop.invariant c.take_in.ensures.continues
