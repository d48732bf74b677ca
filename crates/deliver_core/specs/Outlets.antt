-- An outlet, as a plain state that events change.
use Rattle.std.specs.Prelude.{◌≡◌, ℕ, ◌<◌, ◌==◌, if◌then◌else◌, List, [], ◌∷◌, ◌++◌, All, filter}
use Rattle.deliver_core.specs.declared.message.Message.{Message}

-- the messages of a port, in their order
abbrev pub of_port : ℕ → List Message → List Message
of_port port ms = filter (λ m. m.port == port) ms

-- the waiting messages, oldest first, the messages that each port has sent, and those taken
pub record State : Type 0 where
  pub waiting : List Message
  pub sent : ℕ → List Message
  pub taken : List Message

-- a port puts a message, or the oldest message is taken
pub data Event : Type 0 where
  Put : (port : ℕ) (message : Message) → Event
  Take : Event

-- a put is of one of the ports, which are numbered from 0, and its message has the port's index
abbrev pub IsEventOf : ℕ → Event → Type 0
IsEventOf ports (Put port message) = (port < ports) × (message.port ≡ port)
IsEventOf ports Take = Unit {0}

abbrev pub initial : State
initial = record { waiting = []; sent = λ port. []; taken = [] }

-- the message is added to the end of the waiting ones and of those that its port has sent
abbrev pub after_put : ℕ → Message → State → State
after_put port message s = record {
  waiting = s.waiting ++ message ∷ [];
  sent = λ p. if p == port then s.sent p ++ message ∷ [] else s.sent p;
  taken = s.taken;
}

-- the oldest waiting message is added to those taken. If none waits, nothing changes
abbrev pub after_take : List Message → State → State
after_take [] s = s
after_take (front ∷ rest) s =
    record { waiting = rest; sent = s.sent; taken = s.taken ++ front ∷ [] }

abbrev pub after : Event → State → State
after (Put port message) s = after_put port message s
after Take s = after_take s.waiting s

abbrev pub after_all : List Event → State → State
after_all [] s = s
after_all (event ∷ events) s = after_all events (after event s)

-- The messages taken of a port followed by its waiting ones are those that it sent. No message
-- taken or waiting is of another port
pub record IsLawful (ports : ℕ) (s : State) : Type 0 where
  pub each : (port : ℕ) → of_port port (s.taken ++ s.waiting) ≡ s.sent port
  pub known : All (λ m. m.port < ports) (s.taken ++ s.waiting)

-- the law of an outlet, for every list of events
abbrev pub OutletLaw : Type 0
OutletLaw = (ports : ℕ) (events : List Event)
    → All (IsEventOf ports) events → IsLawful ports (after_all events initial)
