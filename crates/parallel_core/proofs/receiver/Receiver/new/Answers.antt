use Rattle.std.proofs.Common.{rules}
use Rattle.parallel_core.proofs.Receivers.{receives_nothing}
use Rattle.parallel_core.proofs.receiver.Receiver.new.Goals as goal

pub returns-clause-receives : goal.returns-clause-receives
returns-clause-receives c = receives_nothing _ c.args.ports _ c.requires (search rules) (search rules)
