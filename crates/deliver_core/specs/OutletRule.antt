-- The rule of an outlet's queue: its contents and the knowledge of its passes come from the same
-- list of events.
use Rattle.std.specs.Prelude.{◌≡◌, ℕ, ◌<◌, List, All}
use mathlib.Core.Option.{some}
use lib.ListN.{get_elem?}
use Rattle.deliver_core.specs.declared.message.Message.{Message}
use Rattle.deliver_core.specs.declared.pass_view.Met.{Met}
use Rattle.deliver_core.specs.declared.pass_view.PassView.{PassView}
use Rattle.deliver_core.specs.declared.pass_view.PassView.TheVariants.{Sender, Receiver, Spent}
use Rattle.deliver_core.specs.Byes.{EndsAtBye}
use Rattle.deliver_core.specs.Outlets.{State, Event, IsEventOf, initial, after_all}

-- The list of each port is held by one pass, `holder`: the port's own, and once the port was met
-- the tap's. The knowledge of the tap's pass, `tap`, of a port that was met:
abbrev pub KnowsMet : (ports tap : ℕ) (holder : ℕ → ℕ) → State → Met → Type 0
KnowsMet ports tap holder s p =
    (p.index < ports) × (holder p.index ≡ tap) × (p.sent ≡ s.sent p.index)

-- the knowledge of a pass about the state, by its view
abbrev pub Knows : (ports tap : ℕ) (holder : ℕ → ℕ) → State → ℕ → PassView → Type 0
Knows ports tap holder s pass (Sender index sent) =
    (index < ports) × (holder index ≡ pass) × (sent ≡ s.sent index)
Knows ports tap holder s pass (Receiver made taken met) =
    (pass ≡ tap) × (made ≡ ports) × (taken ≡ s.taken) × All (KnowsMet ports tap holder s) met
Knows ports tap holder s pass Spent = Unit {0}

-- There are events after which the queue holds the waiting messages, nothing follows a Bye, and
-- each pass knows its part
pub record Delivers (items : List Message) (views : List PassView) : Type 0 where
  pub ports : ℕ
  pub tap : ℕ
  pub holder : ℕ → ℕ
  pub events : List Event
  pub legal : All (IsEventOf ports) events
  pub waits : (after_all events initial).waiting ≡ items
  pub ends : (port : ℕ) → EndsAtBye ((after_all events initial).sent port)
  pub knows : (pass : ℕ) (v : PassView) → get_elem? views pass ≡ some v
      → Knows ports tap holder (after_all events initial) pass v
