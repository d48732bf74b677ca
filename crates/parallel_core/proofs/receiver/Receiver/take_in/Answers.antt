use Rattle.std.proofs.Common.{rules}
use Rattle.parallel_core.proofs.Receivers.{continues_with}
use Rattle.parallel_core.proofs.receiver.Receiver.take_in.Goals as goal

pub returns-clause-continues : goal.returns-clause-continues
returns-clause-continues g c =
    continues_with _ _ _ _ c.requires (search rules) (search rules) c.in-Some.ensures.some
    (search rules) (search rules) (search rules) (search rules)
