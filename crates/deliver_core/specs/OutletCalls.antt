-- The preconditions and effects of an outlet's calls on its ports and its tap.
use Rattle.std.specs.Prelude.{◌≡◌, ℕ, ◌<◌, Bool, true, false, [], ◌∷◌, ◌++◌, All}
use mathlib.Core.List.{IsPrefix}
use Rattle.deliver_core.specs.declared.message.Message.{Message}
use Rattle.deliver_core.specs.declared.message.Body.TheVariants.{Bye}
use Rattle.deliver_core.specs.declared.outlet.Outlet.{Outlet}
use Rattle.deliver_core.specs.declared.port.Port.{Port}
use Rattle.deliver_core.specs.declared.tap.Tap.{Tap}
use Rattle.deliver_core.specs.Byes.{is_bye, has_bye}
use Rattle.deliver_core.specs.Outlets.{of_port}
use Rattle.deliver_core.specs.Ports.{index_of, has_said_bye, is_spent, sent_by, taken_by, met_by}
use Rattle.deliver_core.specs.Ports.{port_count, IsPortOf, IsTapOf}

-- a port of the outlet that has sent nothing
pub record IsFreshPort (outlet : Outlet) (port : Port) : Type 0 where
  pub belongs : IsPortOf outlet port
  pub silent : has_said_bye port ≡ false
  pub empty : sent_by port ≡ []

-- the tap of an outlet with `ports` ports, which has met none and taken nothing
pub record IsFreshTap (outlet : Outlet) (ports : ℕ) (tap : Tap) : Type 0 where
  pub belongs : IsTapOf outlet tap
  pub count : port_count tap ≡ ports
  pub idle : taken_by tap ≡ []
  pub alone : met_by tap ≡ []

-- a port of the outlet that may put messages
pub record IsOpenPort (outlet : Outlet) (port : Port) : Type 0 where
  pub belongs : IsPortOf outlet port
  pub silent : has_said_bye port ≡ false

-- a port of the outlet that has said bye
pub record IsEndedPort (outlet : Outlet) (port : Port) : Type 0 where
  pub belongs : IsPortOf outlet port
  pub said : has_said_bye port ≡ true

-- a message that this port may put: it has the port's index and is no Bye
pub record IsForPort (port : Port) (message : Message) : Type 0 where
  pub index : message.port ≡ index_of port
  pub body : is_bye message ≡ false

-- the Bye of a port
abbrev pub bye_of : ℕ → Bool → Message
bye_of index ok = record { port = index; task = 0; body = Bye ok }

-- the tap before and after it took this message, which is of one of the ports whose Bye was not
-- taken yet
pub record IsAfterTaking (old new : Tap) (message : Message) : Type 0 where
  pub taken : taken_by new ≡ taken_by old ++ message ∷ []
  pub known : message.port < port_count old
  pub live : has_bye (of_port message.port (taken_by old)) ≡ false

-- the tap before and after it found nothing: all messages of the ports that it met were taken
pub record IsAfterNothing (old new : Tap) : Type 0 where
  pub taken : taken_by new ≡ taken_by old
  pub empty : All (λ p. of_port p.index (taken_by new) ≡ p.sent) (met_by new)

-- the tap is of the outlet as before, and has taken the same messages
pub record IsSameTap (outlet : Outlet) (old new : Tap) : Type 0 where
  pub belongs : IsTapOf outlet new
  pub ports : port_count new ≡ port_count old
  pub taken : taken_by new ≡ taken_by old

-- the port is returned spent
pub record IsSpentPort (outlet : Outlet) (old new : Port) : Type 0 where
  pub belongs : IsPortOf outlet new
  pub index : index_of new ≡ index_of old
  pub said : has_said_bye new ≡ true
  pub spent : is_spent new ≡ true

-- the tap before and after it met this port, of whose messages it has a prefix, and all if its Bye
-- was taken
pub record IsAfterMeeting (port : Port) (old new : Tap) : Type 0 where
  pub met : met_by new ≡ record { index = index_of port; sent = sent_by port } ∷ met_by old
  pub begins : IsPrefix (of_port (index_of port) (taken_by new)) (sent_by port)
  pub whole : has_bye (of_port (index_of port) (taken_by new)) ≡ true
      → of_port (index_of port) (taken_by new) ≡ sent_by port
