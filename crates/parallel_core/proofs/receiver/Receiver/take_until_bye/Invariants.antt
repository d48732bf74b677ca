use Rattle.parallel_core.specs.Receivers.{Continues}
use Rattle.parallel_core.proofs.receiver.Receiver.take_until_bye.Given as goal

abbrev pub invariant-loop : goal.invariant-loop
invariant-loop g l = Continues l.outlet l.initial.self l.self
