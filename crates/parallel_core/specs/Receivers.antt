-- The messages that a receiver has taken of an outlet.
use Rattle.std.specs.Prelude.{◌≡◌, ℕ, ◌<◌, true, All, Some, map, length, slice_get}
use Rattle.deliver_core.specs.declared.outlet.Outlet.{Outlet}
use Rattle.deliver_core.specs.Byes.{has_bye}
use Rattle.deliver_core.specs.Outlets.{of_port}
use Rattle.deliver_core.specs.Ports.{taken_by, port_count, IsTapOf}
use Rattle.deliver_core.specs.Scripts.{content_of}
use Rattle.parallel_core.specs.declared.receiver.Receiver.{Receiver}
use Rattle.parallel_core.specs.FusedCollectors.{HasTakenIn}

-- each message is of one of the ports, it is recorded of which ports the Bye was taken, and the
-- collector was offered the messages taken
pub record ReceivesFrom (outlet : Outlet) (g : Receiver) : Type 0 where
  pub tap : IsTapOf outlet g.tap
  pub known : All (λ m. m.port < port_count g.tap) (taken_by g.tap)
  pub ports : length g.ended.items ≡ port_count g.tap
  pub ended : (port : ℕ) → slice_get g.ended.items port ≡ Some true
      → has_bye (of_port port (taken_by g.tap)) ≡ true
  pub taken_in : HasTakenIn (map content_of (taken_by g.tap)) g.fused.collector g.fused.accepted

-- it receives for the same numbers of ports and tasks as before, and if a Bye of a port was taken,
-- no more messages are taken of it
pub record Continues (outlet : Outlet) (old new : Receiver) : Type 0 where
  pub receives : ReceivesFrom outlet new
  pub ports : port_count new.tap ≡ port_count old.tap
  pub tasks : new.fused.collector.tasks ≡ old.fused.collector.tasks
  pub final : (port : ℕ) → has_bye (of_port port (taken_by old.tap)) ≡ true
      → of_port port (taken_by new.tap) ≡ of_port port (taken_by old.tap)
