use Rattle.deliver_core.proofs.OutletCalls.{begins_after}
use Rattle.deliver_core.proofs.OutletRule.{takes, waits}
use Rattle.deliver_core.proofs.outlet.Outlet.receive.Goals as goal

pub pop_as-requires-clause-rule : goal.pop_as-requires-clause-rule
pop_as-requires-clause-rule g c = (takes _ _ c.requires.receiver, waits _ _ c.requires.receiver)

pub returns-clause-begins : goal.returns-clause-begins
returns-clause-begins g c = begins_after c.pop_as.result _ _ c.requires.receiver c.pop_as.ensures.rule
