use Rattle.std.proofs.Common.{All, vec_len}
use Rattle.deliver_core.specs.OutletCalls.{IsEndedPort}
use Rattle.deliver_core.specs.Ports.{IsTapOf}
use Rattle.join_tests.proofs.outlet.are_met.Given as goal

abbrev pub invariant-loop-port : goal.invariant-loop-port
invariant-loop-port g l = record {
  tap : IsTapOf l.outlet l.tap;
  ports : All (IsEndedPort l.outlet) l.ports.items;
}

abbrev pub decreases-loop-port : goal.decreases-loop-port
decreases-loop-port g l = vec_len l.ports
