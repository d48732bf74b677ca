-- The knowledge that a step on an outlet's queue gives to the pass that makes it.
use Rattle.std.specs.Prelude.{◌≡◌, ℕ, ◌<◌, true, false, Some, List, ◌∷◌, ◌++◌, [], All}
use mathlib.Core.List.{IsPrefix}
use Rattle.deliver_core.specs.declared.message.Message.{Message}
use Rattle.deliver_core.specs.declared.pass_view.PassView.{PassView}
use Rattle.deliver_core.specs.Byes.{is_bye, has_bye, EndsAtBye}
use Rattle.deliver_core.specs.PassViews.{sender_of, sent_of, ports_of, taken_of, met_of, with_taken}
use Rattle.deliver_core.specs.PassViews.{with_met}
use Rattle.deliver_core.specs.Outlets.{of_port}

-- the messages taken of each port that was met are a prefix of its list
abbrev pub Begins : PassView → Type 0
Begins v = All (λ p. IsPrefix (of_port p.index (taken_of v)) p.sent) (met_of v)

-- the messages taken of each port that was met are its whole list
abbrev pub IsSettled : PassView → Type 0
IsSettled v = All (λ p. of_port p.index (taken_of v) ≡ p.sent) (met_of v)

-- the tap's knowledge of the waiting messages: those of a port that was met are the rest of its
-- list
abbrev pub TellsWaiting : PassView → List Message → Type 0
TellsWaiting v items = All
    (λ p. (of_port p.index (taken_of v) ++ of_port p.index items ≡ p.sent) × EndsAtBye p.sent)
    (met_of v)

-- a port sent a message
pub record IsAfterSend (m : Message) (v w : PassView) : Type 0 where
  pub sender : sender_of w ≡ Some m.port
  pub sent : sent_of w ≡ sent_of v ++ m ∷ []
  pub bye : has_bye (sent_of w) ≡ is_bye m

-- the tap took a message, of a port that was made and hasn't ended
pub record IsAfterTake (m : Message) (v w : PassView) : Type 0 where
  pub view : w ≡ with_taken v m
  pub known : m.port < ports_of v
  pub live : has_bye (of_port m.port (taken_of v)) ≡ false
  pub begins : Begins w

-- the tap found none
pub record IsAfterMiss (v w : PassView) : Type 0 where
  pub view : w ≡ v
  pub begins : Begins w
  pub settled : IsSettled w

-- the tap met the port of this index
pub record IsAfterMeet (port v w : PassView) (index : ℕ) : Type 0 where
  pub view : w ≡ with_met v port
  pub begins : IsPrefix (of_port index (taken_of w)) (sent_of port)
  pub whole : has_bye (of_port index (taken_of w)) ≡ true
      → of_port index (taken_of w) ≡ sent_of port
