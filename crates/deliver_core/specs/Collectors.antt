-- The contents of a collector, the messages that it refuses, and the effect of the others.
use Rattle.std.specs.Prelude.{◌≡◌, ◌↔◌, ℕ, ◌<◌, false, nat_lt, nat_le, ◌==◌, if◌then◌else◌, List}
use Rattle.std.specs.Prelude.{[], ◌∷◌, ◌++◌, fold, Option, Some, None, Result, Ok, Err, IsTrue}
use Rattle.deliver_core.specs.declared.mark.Mark.{Mark}
use Rattle.deliver_core.specs.declared.faults.Refusal.{Refusal}
use Rattle.deliver_core.specs.declared.faults.Refusal.TheVariants.{Stranger, AfterEnd, Double, Gap}
use Rattle.deliver_core.specs.declared.faults.Refusal.TheVariants.{WrongCount}
use Rattle.deliver_core.specs.declared.faults.Finish.{Finish}
use Rattle.deliver_core.specs.declared.faults.Finish.TheVariants.{Open}
use Rattle.deliver_core.specs.Marks.{has_end, batch_count, IsLegalHistory}
use Rattle.deliver_core.specs.Scripts.{Content, batch_of, end_of, bye, marks_in, pairs_in}

-- the number of tasks, the marks of the accepted messages, in this order, and their pairs
pub record Collection : Type 0 where
  pub tasks : ℕ
  pub marks : List Mark
  pub pairs : List (ℕ × ℕ)

-- the result of a closed collection
pub record Delivery : Type 0 where
  pub marks : List Mark
  pub pairs : List (ℕ × ℕ)

-- the number that the next batch of a task must have, or why the task accepts none
abbrev pub awaited : Collection → ℕ → Result ℕ Refusal
awaited c task =
    if nat_le c.tasks task then Err Stranger
    else (if has_end task c.marks then Err AfterEnd else Ok (batch_count task c.marks))

abbrev pub batch_refusal : Result ℕ Refusal → ℕ → Option Refusal
batch_refusal (Err refusal) number = Some refusal
batch_refusal (Ok next) number =
    if nat_lt number next then Some Double else (if nat_lt next number then Some Gap else None)

abbrev pub end_refusal : Result ℕ Refusal → ℕ → Option Refusal
end_refusal (Err refusal) count = Some refusal
end_refusal (Ok next) count = if count == next then None else Some WrongCount

-- why a message is refused, if it is, apart from lack of memory
abbrev pub refusal_of : Collection → Content → Option Refusal
refusal_of c (batch_of task number pairs) = batch_refusal (awaited c task) number
refusal_of c (end_of task count) = end_refusal (awaited c task) count
refusal_of c (bye ok) = None

-- the collection after it has accepted a message, whose mark and pairs come last
abbrev pub accept : Collection → Content → Collection
accept c content = record {
  tasks = c.tasks;
  marks = c.marks ++ marks_in content;
  pairs = c.pairs ++ pairs_in content;
}

-- the collection of `tasks` tasks that has accepted these messages, in this order
abbrev pub collected : ℕ → List Content → Collection
collected tasks contents = fold accept (record { tasks = tasks; marks = []; pairs = [] }) contents

-- a collector of `tasks` tasks that is offered these messages in order refuses none of them, except
-- for lack of memory
abbrev pub RefusesNone : ℕ → List Content → Type 0
RefusesNone tasks contents = (before after : List Content) (next : Content)
    → before ++ next ∷ after ≡ contents → refusal_of (collected tasks before) next ≡ None

-- a message is refused if and only if its mark would make the history illegal
abbrev pub RefusesIllegal : Type 0
RefusesIllegal =
    (c : Collection) (content : Content) → IsLegalHistory c.tasks c.marks →
    (refusal_of c content ≡ None) ↔ IsLegalHistory c.tasks (accept c content).marks

-- the fault of a collection that is not closed: the least task without an end
abbrev pub IsLeastOpen : Collection → Finish → Type 0
IsLeastOpen c (Open task) =
    (task < c.tasks) × (has_end task c.marks ≡ false)
    × ((other : ℕ) → other < task → IsTrue (has_end other c.marks))
