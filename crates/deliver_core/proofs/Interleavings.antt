-- How messages of several ports interleave: all messages of a task are from its owner.
use Rattle.std.proofs.Common.{◌≡◌, ℕ, zero, suc, ◌+◌, ◌<◌, ◌≤◌, Some, None, Bool, true, false, cond, eqb, List, [], ◌∷◌, ◌++◌, map, length, All, slice_get}
use Rattle.std.proofs.Common.{refl, sym, ap, ◌∙◌, inl, inr, arith, length-append}
use Rattle.std.specs.List.{flat_map}
use Rattle.std.proofs.lemmas.Bool.Decides.{eqb_tells}
use Rattle.std.proofs.lemmas.List.{append-nil, nil_from_length}
use Rattle.std.proofs.lemmas.List.Elements.{All-head, All-tail, filter-append}
use Rattle.std.proofs.lemmas.Option.{same_Some, none-some}
use Rattle.deliver_core.specs.declared.message.Message.{Message}
use Rattle.deliver_core.specs.Outlets.{of_port}
use Rattle.deliver_core.specs.Scripts.{Content, Task, content_of, is_of, of_task}
use Rattle.deliver_core.proofs.TaskParts.{numbered}

-- the tasks of all ports
abbrev pub joined : List (List Task) → List Task
joined owned = flat_map (λ tasks. tasks) owned

-- the contents of a port's messages
abbrev pub said : ℕ → List Message → List Content
said port messages = map content_of (of_port port messages)

-- no port says anything that isn't there
pub of_port_past : (ports port : ℕ) (messages : List Message) → All (λ (m : Message). m.port < ports) messages → ports ≤ port → of_port port messages ≡ []
of_port_past ports port [] known past = refl
of_port_past ports port (m ∷ messages) known past =
    let rest = of_port_past ports port messages (All-tail (λ (n : Message). n.port < ports) m messages known) past in
    let here : m.port < ports = All-head (λ (n : Message). n.port < ports) m messages known in
    elim (eqb_tells m.port port) [
      | inl same ↦ absurd (omega (arith, same.1))
      | inr other ↦ ap (λ (b : Bool). cond b (m ∷ of_port port messages) (of_port port messages)) other.0 ∙ rest
    ]

-- a list with one message more, in front, by whether its port is this one
of_port_here : (port : ℕ) (m : Message) (messages : List Message) → m.port ≡ port → of_port port (m ∷ messages) ≡ m ∷ of_port port messages
of_port_here port m messages same =
    elim (eqb_tells m.port port) [
      | inl here ↦ ap (λ (b : Bool). cond b (m ∷ of_port port messages) (of_port port messages)) here.0
      | inr other ↦ absurd (other.1 same)
    ]

of_port_there : (port : ℕ) (m : Message) (messages : List Message) → (m.port ≡ port → ⊥) → of_port port (m ∷ messages) ≡ of_port port messages
of_port_there port m messages apart =
    elim (eqb_tells m.port port) [
      | inl here ↦ absurd (apart here.1)
      | inr other ↦ ap (λ (b : Bool). cond b (m ∷ of_port port messages) (of_port port messages)) other.0
    ]

-- if the front of a list isn't of a task that doesn't occur in it
front_is_none : (b : Bool) (x : Content) (xs : List Content) → cond b (x ∷ xs) xs ≡ [] → (b ≡ false) × (xs ≡ [])
front_is_none true x xs e = absurd (cc e)
front_is_none false x xs e = (refl, e)

-- if all other ports send nothing for a task, this one sends all of it
pub of_task-port : (task port : ℕ) (messages : List Message)
    → ((other : ℕ) → (other ≡ port → ⊥) → of_task task (said other messages) ≡ [])
    → of_task task (map content_of messages) ≡ of_task task (said port messages)
of_task-port task port [] silent = refl
of_task-port task port (m ∷ messages) silent =
    let step = λ (rest : of_task task (map content_of messages) ≡ of_task task (said port messages)).
    ap (λ (contents : List Content). cond (is_of task (content_of m)) (content_of m ∷ contents) contents) rest in
    elim (eqb_tells m.port port) [
      | inl here ↦
          step (of_task-port task port messages (λ other apart.
          ap (λ ms. of_task task (map content_of ms)) (sym (of_port_there other m messages (λ same. apart (sym same ∙ here.1)))) ∙ silent other apart))
          ∙ ap (λ ms. of_task task (map content_of ms)) (sym (of_port_here port m messages here.1))
      | inr there ↦
          let none = front_is_none (is_of task (content_of m)) (content_of m) (of_task task (said m.port messages))
          (ap (λ ms. of_task task (map content_of ms)) (sym (of_port_here m.port m messages refl)) ∙ silent m.port there.1) in
          ap (λ (b : Bool). cond b (content_of m ∷ of_task task (map content_of messages)) (of_task task (map content_of messages))) none.0
          ∙ of_task-port task port messages (λ other apart.
          elim (eqb_tells m.port other) [
            | inl same ↦ ap (λ p. of_task task (said p messages)) (sym same.1) ∙ none.1
            | inr differs ↦ ap (λ ms. of_task task (map content_of ms)) (sym (of_port_there other m messages differs.1)) ∙ silent other apart
          ])
          ∙ ap (λ ms. of_task task (map content_of ms)) (sym (of_port_there port m messages there.1))
    ]

-- a place where all that the owners have of this task is, if anything is
pub record IsPlace (number : ℕ) (owned : List (List Task)) (place : ℕ) : Type 0 where
  pub here : (tasks : List Task) → slice_get owned place ≡ Some tasks → numbered number tasks ≡ numbered number (joined owned)
  pub others : (other : ℕ) (tasks : List Task) → slice_get owned other ≡ Some tasks → (other ≡ place → ⊥) → numbered number tasks ≡ []
  pub past : slice_get owned place ≡ None → numbered number (joined owned) ≡ []

-- if nothing of a task is in the first of two lists, or nothing in both
nil_left : {X : Type 0} (xs ys : List X) → xs ++ ys ≡ [] → xs ≡ []
nil_left [] ys e = refl
nil_left (x ∷ xs) ys e = absurd (cc e)

numbered-append : (number : ℕ) (tasks more : List Task) → numbered number (tasks ++ more) ≡ numbered number tasks ++ numbered number more
numbered-append number tasks more = filter-append (λ (task : Task). eqb task.0 number) tasks more

-- if all owners have nothing of a task, each has nothing of it
part_none : (number : ℕ) (owned : List (List Task)) → numbered number (joined owned) ≡ []
    → (place : ℕ) (tasks : List Task) → slice_get owned place ≡ Some tasks → numbered number tasks ≡ []
part_none number [] none place tasks at = absurd (none-some tasks at)
part_none number (first ∷ rest) none zero tasks at =
    ap (numbered number) (sym (same_Some first tasks at))
    ∙ nil_left (numbered number first) (numbered number (joined rest))
    (sym (numbered-append number first (joined rest)) ∙ none)
part_none number (first ∷ rest) none (suc place) tasks at =
    let both : numbered number first ++ numbered number (joined rest) ≡ [] =
    sym (numbered-append number first (joined rest)) ∙ none in
    let here = nil_left (numbered number first) (numbered number (joined rest)) both in
    part_none number rest (ap (λ front. front ++ numbered number (joined rest)) (sym here) ∙ both) place tasks at

-- if the first owner has it, and if it doesn't
part_other : (number : ℕ) (first : List Task) (rest : List (List Task)) → numbered number (joined rest) ≡ []
    → (other : ℕ) (tasks : List Task) → slice_get (first ∷ rest) other ≡ Some tasks → (other ≡ 0 → ⊥) → numbered number tasks ≡ []
part_other number first rest none zero tasks at apart = absurd (apart refl)
part_other number first rest none (suc other) tasks at apart = part_none number rest none other tasks at

place_first : (number : ℕ) (first : List Task) (rest : List (List Task)) → numbered number (joined rest) ≡ []
    → 0 < length (numbered number first) → IsPlace number (first ∷ rest) 0
place_first number first rest none some = record {
  here = λ tasks at. ap (numbered number) (sym (same_Some first tasks at)) ∙ sym (append-nil (numbered number first))
      ∙ ap (λ back. numbered number first ++ back) (sym none) ∙ sym (numbered-append number first (joined rest));
  others = λ other tasks at apart. part_other number first rest none other tasks at apart;
  past = λ e. absurd (none-some first (sym e));
}

other_later : (number : ℕ) (first : List Task) (rest : List (List Task)) (place : ℕ) → numbered number first ≡ [] → IsPlace number rest place
    → (other : ℕ) (tasks : List Task) → slice_get (first ∷ rest) other ≡ Some tasks → (other ≡ suc place → ⊥) → numbered number tasks ≡ []
other_later number first rest place none is zero tasks at apart = ap (numbered number) (sym (same_Some first tasks at)) ∙ none
other_later number first rest place none is (suc other) tasks at apart = is.others other tasks at (λ same. apart (ap suc same))

place_later : (number : ℕ) (first : List Task) (rest : List (List Task)) (place : ℕ) → numbered number first ≡ [] → IsPlace number rest place
    → IsPlace number (first ∷ rest) (suc place)
place_later number first rest place none is =
    let all : numbered number (joined (first ∷ rest)) ≡ numbered number (joined rest) =
    numbered-append number first (joined rest)
    ∙ ap (λ front. front ++ numbered number (joined rest)) none in
    record {
      here = λ tasks at. is.here tasks at ∙ sym all;
      others = λ other tasks at apart. other_later number first rest place none is other tasks at apart;
      past = λ e. all ∙ is.past e;
    }

-- by what the first owner has of it
place_by : (number : ℕ) (first : List Task) (rest : List (List Task)) (found : List Task) → numbered number first ≡ found
    → length (numbered number first) + length (numbered number (joined rest)) ≤ 1
    → (place : ℕ) × IsPlace number rest place → (place : ℕ) × IsPlace number (first ∷ rest) place
place_by number first rest [] is few later = (suc later.0, place_later number first rest later.0 is later.1)
place_by number first rest (task ∷ found) is few later =
    let long : length (numbered number first) ≡ suc (length found) = ap length is in
    (0, place_first number first rest (nil_from_length (numbered number (joined rest)) (omega arith)) (omega arith))

pub place_of : (number : ℕ) (owned : List (List Task)) → length (numbered number (joined owned)) ≤ 1
    → (place : ℕ) × IsPlace number owned place
place_of number [] few = (
  0,
  record {
    here = λ tasks at. absurd (none-some tasks at);
    others = λ other tasks at apart. absurd (none-some tasks at);
    past = λ e. refl;
  },
)
place_of number (first ∷ rest) few =
    let split : length (numbered number first) + length (numbered number (joined rest)) ≤ 1 =
    omega (
      arith,
      ap length (numbered-append number first (joined rest)),
      length-append (numbered number first) (numbered number (joined rest)),
    ) in
    place_by number first rest (numbered number first) refl split (place_of number rest (omega arith))
