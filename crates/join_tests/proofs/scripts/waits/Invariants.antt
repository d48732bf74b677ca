use Rattle.deliver_core.specs.Ports.{IsTapOf}
use Rattle.join_tests.proofs.scripts.waits.Given as goal

abbrev pub invariant-loop-expected : goal.invariant-loop-expected
invariant-loop-expected g l = IsTapOf l.outlet l.tap
