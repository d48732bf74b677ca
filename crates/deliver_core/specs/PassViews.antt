-- The knowledge of a pass of an outlet's queue, and how each step changes it.
use Rattle.std.specs.Prelude.{ℕ, ◌+◌, Bool, true, false, Option, Some, None, List, [], ◌∷◌, ◌++◌}
use Rattle.deliver_core.specs.declared.message.Message.{Message}
use Rattle.deliver_core.specs.declared.pass_view.Met.{Met}
use Rattle.deliver_core.specs.declared.pass_view.PassView.{PassView}
use Rattle.deliver_core.specs.declared.pass_view.PassView.TheVariants.{Sender, Receiver, Spent}

-- the index of a port, by its view, and the messages that it has sent
abbrev pub sender_of : PassView → Option ℕ
sender_of (Sender index sent) = Some index
sender_of (Receiver ports taken met) = None
sender_of Spent = None

abbrev pub sent_of : PassView → List Message
sent_of (Sender index sent) = sent
sent_of (Receiver ports taken met) = []
sent_of Spent = []

-- whether a view is the tap's
abbrev pub is_receiver : PassView → Bool
is_receiver (Sender index sent) = false
is_receiver (Receiver ports taken met) = true
is_receiver Spent = false

-- by the tap's view: the number of ports, the messages taken, and the ports met
abbrev pub ports_of : PassView → ℕ
ports_of (Sender index sent) = 0
ports_of (Receiver ports taken met) = ports
ports_of Spent = 0

abbrev pub taken_of : PassView → List Message
taken_of (Sender index sent) = []
taken_of (Receiver ports taken met) = taken
taken_of Spent = []

abbrev pub met_of : PassView → List Met
met_of (Sender index sent) = []
met_of (Receiver ports taken met) = met
met_of Spent = []

-- a port is made: the tap counts it, and it has the next index
abbrev pub with_port : PassView → PassView
with_port (Receiver ports taken met) = Receiver (ports + 1) taken met
with_port (Sender index sent) = Sender index sent
with_port Spent = Spent

abbrev pub new_port : PassView → PassView
new_port v = Sender (ports_of v) []

-- a port sends a message
abbrev pub with_sent : PassView → Message → PassView
with_sent (Sender index sent) m = Sender index (sent ++ m ∷ [])
with_sent (Receiver ports taken met) m = Receiver ports taken met
with_sent Spent m = Spent

-- the tap takes a message
abbrev pub with_taken : PassView → Message → PassView
with_taken (Receiver ports taken met) m = Receiver ports (taken ++ m ∷ []) met
with_taken (Sender index sent) m = Sender index sent
with_taken Spent m = Spent

-- the tap meets a port
abbrev pub with_met : PassView → PassView → PassView
with_met (Receiver ports taken met) (Sender index sent) =
    Receiver ports taken (record { index = index; sent = sent } ∷ met)
with_met (Receiver ports taken met) (Receiver ports' taken' met') = Receiver ports taken met
with_met (Receiver ports taken met) Spent = Receiver ports taken met
with_met (Sender index sent) w = Sender index sent
with_met Spent w = Spent
