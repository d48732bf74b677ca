use Rattle.deliver_core.specs.Ports.{IsTapOf}
use Rattle.join_tests.proofs.outlet.take_all.Given as goal

abbrev pub invariant-loop : goal.invariant-loop
invariant-loop g l = IsTapOf l.outlet l.tap
