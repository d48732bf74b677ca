use Rattle.deliver_core.proofs.Refusals.{refuses_illegal}
use Rattle.deliver_core.proofs.collector.refusal_law.Goals as goal

pub returns : goal.returns
returns c = refuses_illegal
