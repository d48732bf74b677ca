use Rattle.std.proofs.Common.{rules, ap}
use Rattle.deliver_core.specs.Collectors.{Collection}
use Rattle.deliver_core.proofs.Histories.{history_of}
use Rattle.deliver_core.proofs.collector.Collector.taken.Goals as goal

pub returns-clause-history : goal.returns-clause-history
returns-clause-history c =
    history_of _ _ c.self.invariant _ _ (ap (λ (it : Collection). it.tasks) c.self.view_is) (search rules)
