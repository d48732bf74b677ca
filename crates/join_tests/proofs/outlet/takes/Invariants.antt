use Rattle.deliver_core.specs.Ports.{IsTapOf}
use Rattle.join_tests.proofs.outlet.takes.Given as goal

abbrev pub invariant-loop-want : goal.invariant-loop-want
invariant-loop-want g l = IsTapOf l.outlet l.tap
