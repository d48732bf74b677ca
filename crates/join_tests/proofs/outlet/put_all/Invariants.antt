use Rattle.std.proofs.Common.{◌≡◌}
use Rattle.deliver_core.specs.OutletCalls.{IsOpenPort}
use Rattle.deliver_core.specs.Ports.{index_of}
use Rattle.join_tests.proofs.outlet.put_all.Given as goal

abbrev pub invariant-loop-number : goal.invariant-loop-number
invariant-loop-number g l = record { port : IsOpenPort l.outlet l.port; index : index_of l.port ≡ l.index }
