use Rattle.deliver_core.specs.Ports.{IsTapOf}
use Rattle.join_tests.proofs.full_outlet.takes_from.Given as goal

abbrev pub invariant-loop-count : goal.invariant-loop-count
invariant-loop-count g l = IsTapOf l.outlet l.tap
