-- The values of ports and taps in contracts, and whether they belong to an outlet.
use Rattle.std.specs.Prelude.{◌≡◌, ℕ, Bool, false, Option, Some, None, List, [], is_none}
use Rattle.std.specs.Option.{ForSome}
use Rattle.crossbeam_queue.specs.Passes.{Pass, IsPassOf, view, ruled_capacity}
use Rattle.deliver_core.specs.declared.message.Message.{Message}
use Rattle.deliver_core.specs.declared.pass_view.Met.{Met}
use Rattle.deliver_core.specs.declared.pass_view.PassView.{PassView}
use Rattle.deliver_core.specs.declared.pass_view.PassView.TheVariants.{Sender}
use Rattle.deliver_core.specs.declared.port.Port.{Port}
use Rattle.deliver_core.specs.declared.tap.Tap.{Tap}
use Rattle.deliver_core.specs.declared.outlet.Outlet.{Outlet}
use Rattle.deliver_core.specs.PassViews.{sent_of, taken_of, met_of, ports_of}

abbrev pub index_of : Port → ℕ
index_of port = port.index

abbrev pub has_said_bye : Port → Bool
has_said_bye port = port.said_bye

-- whether the port was met
abbrev pub is_spent : Port → Bool
is_spent port = is_none port.pass

-- the messages that a port has sent, unless it is spent
abbrev pub sent_with : Option (Pass Message PassView) → List Message
sent_with (Some pass) = sent_of (view pass)
sent_with None = []

abbrev pub sent_by : Port → List Message
sent_by port = sent_with port.pass

abbrev pub taken_by : Tap → List Message
taken_by tap = taken_of (view tap.pass)

-- each port that the tap has met, with all messages that the port had sent
abbrev pub met_by : Tap → List Met
met_by tap = met_of (view tap.pass)

-- the number of ports of a tap's outlet
abbrev pub port_count : Tap → ℕ
port_count tap = ports_of (view tap.pass)

-- the port is of this outlet, or spent
abbrev pub IsPortOf : Outlet → Port → Type 0
IsPortOf outlet port = ForSome port.pass (IsPassOf outlet.queue)

-- the tap is of this outlet
abbrev pub IsTapOf : Outlet → Tap → Type 0
IsTapOf outlet tap = IsPassOf outlet.queue tap.pass

-- the pass of a port that has sent nothing, and that port
abbrev pub IsNewPass : ℕ → Pass Message PassView → Type 0
IsNewPass index pass = view pass ≡ Sender index []

pub record IsNewPort (index : ℕ) (pass : Pass Message PassView) (port : Port) : Type 0 where
  pub holds : port.pass ≡ Some pass
  pub numbered : port.index ≡ index
  pub silent : port.said_bye ≡ false

-- the capacity of the outlet, in messages
abbrev pub room_of : Outlet → ℕ
room_of outlet = ruled_capacity outlet.queue
