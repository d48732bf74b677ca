use Rattle.std.proofs.Common.{◌≡◌}
use Rattle.deliver_core.specs.OutletCalls.{IsOpenPort}
use Rattle.deliver_core.specs.Ports.{index_of}
use Rattle.join_tests.proofs.full_outlet.fill.Given as goal

abbrev pub invariant-loop-count : goal.invariant-loop-count
invariant-loop-count g l = record { port : IsOpenPort l.outlet l.port; index : index_of l.port ≡ 0 }
