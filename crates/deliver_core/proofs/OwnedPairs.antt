-- the pairs of interleaved messages are those that the ports send, in another order
use Rattle.std.proofs.Common.{◌≡◌, ℕ, suc, ◌+◌, ◌<◌, ◌≤◌, Some, Bool, true, false, not, cond, eqb, List, [], ◌∷◌, ◌++◌, map, length, All, slice_get, refl, sym}
use Rattle.std.proofs.Common.{ap, ◌∙◌, subst, inl, inr, arith, append_assoc}
use Rattle.std.specs.List.{filter, flat_map}
use Rattle.std.specs.List.Sorted.{IsPermutation}
use Rattle.std.proofs.lemmas.Grind.{flat_map-append}
use Rattle.std.proofs.lemmas.Bool.Decides.{eqb_tells}
use Rattle.std.proofs.lemmas.List.Elements.{All-head, All-tail, All-nil, All-cons}
use Rattle.std.proofs.lemmas.List.Sorted.{IsPermutation-refl, IsPermutation-trans, IsPermutation-append, IsPermutation-append_left, IsPermutation-append_right}
use Rattle.std.proofs.lemmas.List.Sorted.{IsPermutation-append_comm}
use Rattle.deliver_core.specs.declared.message.Message.{Message}
use Rattle.deliver_core.specs.Outlets.{of_port}
use Rattle.deliver_core.specs.Scripts.{Task, content_of, pairs_in}
use Rattle.deliver_core.proofs.Interleavings.{joined}

same_list : {X : Type 0} (xs ys : List X) → xs ≡ ys → IsPermutation xs ys
same_list xs ys e = subst (IsPermutation xs) e (IsPermutation-refl xs)

-- all pairs sent by messages
abbrev pub sent_in : List Message → List (ℕ × ℕ)
sent_in messages = flat_map pairs_in (map content_of messages)

-- the messages of all other ports
abbrev not_of_port : ℕ → List Message → List Message
not_of_port port messages = filter (λ (m : Message). not (eqb m.port port)) messages

-- the pairs of one port, and then those of the others
apart_from : (port : ℕ) (messages : List Message)
    → IsPermutation (sent_in (of_port port messages) ++ sent_in (not_of_port port messages)) (sent_in messages)
apart_from port [] = IsPermutation-refl []
apart_from port (m ∷ messages) =
    let own = sent_in (of_port port messages) in
    let others = sent_in (not_of_port port messages) in
    let pairs = pairs_in (content_of m) in
    let rest : IsPermutation (pairs ++ (own ++ others)) (pairs ++ sent_in messages) =
    IsPermutation-append_right pairs (own ++ others) (sent_in messages) (apart_from port messages) in
    elim (eqb m.port port) as (λ b. IsPermutation (sent_in (cond b (m ∷ of_port port messages) (of_port port messages))
    ++ sent_in (cond (not b) (m ∷ not_of_port port messages) (not_of_port port messages))) (pairs ++ sent_in messages)) [
      | true ↦ subst (λ xs. IsPermutation xs (pairs ++ sent_in messages)) (sym (append_assoc pairs own others)) rest
      | false ↦
          let swapped : IsPermutation ((own ++ pairs) ++ others) ((pairs ++ own) ++ others) =
          IsPermutation-append_left others (own ++ pairs) (pairs ++ own) (IsPermutation-append_comm own pairs) in
          IsPermutation-trans (own ++ (pairs ++ others)) (pairs ++ (own ++ others)) (pairs ++ sent_in messages)
          (IsPermutation-trans (own ++ (pairs ++ others)) ((pairs ++ own) ++ others) (pairs ++ (own ++ others))
          (subst (λ xs. IsPermutation xs ((pairs ++ own) ++ others)) (append_assoc own pairs others) swapped)
          (same_list ((pairs ++ own) ++ others) (pairs ++ (own ++ others)) (append_assoc pairs own others)))
          rest
    ]

-- the messages of another port are among them
of_port-others : (port other : ℕ) (messages : List Message) → (other ≡ port → ⊥) → of_port other (not_of_port port messages) ≡ of_port other messages
of_port-others port other [] apart = refl
of_port-others port other (m ∷ messages) apart =
    let rest = of_port-others port other messages apart in
    elim (eqb_tells m.port port) [
      | inl here ↦
          let differs : eqb m.port other ≡ false =
          elim (eqb_tells m.port other) [ inl same ↦ absurd (apart (sym same.1 ∙ here.1)) | inr other' ↦ other'.0 ] in
          ap (λ (b : Bool). of_port other (cond (not b) (m ∷ not_of_port port messages) (not_of_port port messages))) here.0 ∙ rest
          ∙ ap (λ (b : Bool). cond b (m ∷ of_port other messages) (of_port other messages)) (sym differs)
      | inr there ↦
          ap (λ (b : Bool). of_port other (cond (not b) (m ∷ not_of_port port messages) (not_of_port port messages))) there.0
          ∙ ap (λ ms. cond (eqb m.port other) (m ∷ ms) ms) rest
    ]

-- messages of the ports from `first` on, whose number is given
abbrev AreFrom : ℕ → ℕ → List Message → Type 0
AreFrom first ports messages = All (λ (m : Message). (first ≤ m.port) × (m.port < first + ports)) messages

none_from : (first : ℕ) (messages : List Message) → AreFrom first 0 messages → messages ≡ []
none_from first [] known = refl
none_from first (m ∷ messages) known =
    let here = All-head (λ (n : Message). (first ≤ n.port) × (n.port < first + 0)) m messages known in
    absurd (omega (arith, here.0, here.1))

above_first : (first port : ℕ) → first ≤ port → (port ≡ first → ⊥) → first < port
above_first first port least apart = omega arith

plus_none : (first : ℕ) → first + 0 ≡ first
plus_none first = omega arith

plus_next : (first place : ℕ) → suc first + place ≡ first + suc place
plus_next first place = omega arith

others_from : (first ports : ℕ) (messages : List Message) → AreFrom first (suc ports) messages → AreFrom (suc first) ports (not_of_port first messages)
others_from first ports [] known = All-nil (λ (m : Message). (suc first ≤ m.port) × (m.port < suc first + ports))
others_from first ports (m ∷ messages) known =
    let rest = others_from first ports messages (All-tail (λ (n : Message). (first ≤ n.port) × (n.port < first + suc ports)) m messages known) in
    let here = All-head (λ (n : Message). (first ≤ n.port) × (n.port < first + suc ports)) m messages known in
    elim (eqb_tells m.port first) [
      | inl same ↦
          subst (λ (b : Bool). AreFrom (suc first) ports (cond (not b) (m ∷ not_of_port first messages) (not_of_port first messages))) (sym same.0) rest
      | inr differs ↦
          let above : first < m.port = above_first first m.port here.0 differs.1 in
          subst (λ (b : Bool). AreFrom (suc first) ports (cond (not b) (m ∷ not_of_port first messages) (not_of_port first messages))) (sym differs.0)
          (All-cons (λ (n : Message). (suc first ≤ n.port) × (n.port < suc first + ports)) m (not_of_port first messages)
          (omega (arith, above), omega (arith, here.1)) rest)
    ]

-- if each port sends the rows of the tasks that it owns
pub rows_of_ports : (owned : List (List Task)) (first : ℕ) (messages : List Message) → AreFrom first (length owned) messages
    → ((place : ℕ) (tasks : List Task) → slice_get owned place ≡ Some tasks
    → sent_in (of_port (first + place) messages) ≡ flat_map (λ (task : Task). task.1) tasks)
    → IsPermutation (flat_map (λ (task : Task). task.1) (joined owned)) (sent_in messages)
rows_of_ports [] first messages known each = same_list [] (sent_in messages) (ap sent_in (sym (none_from first messages known)))
rows_of_ports (tasks ∷ owned) first messages known each =
    let others = not_of_port first messages in
    let rows : flat_map (λ (task : Task). task.1) tasks ≡ sent_in (of_port first messages) =
    sym (each 0 tasks refl) ∙ ap (λ port. sent_in (of_port port messages)) (plus_none first) in
    let rest = rows_of_ports owned (suc first) others (others_from first (length owned) messages known) (λ place ts at.
    ap sent_in (of_port-others first (suc first + place) messages (λ same. absurd (omega (arith, same))))
    ∙ ap (λ port. sent_in (of_port port messages)) (plus_next first place) ∙ each (suc place) ts at) in
    let both = IsPermutation-append (flat_map (λ (task : Task). task.1) tasks) (sent_in (of_port first messages))
    (flat_map (λ (task : Task). task.1) (joined owned)) (sent_in others)
    (same_list (flat_map (λ (task : Task). task.1) tasks) (sent_in (of_port first messages)) rows) rest in
    IsPermutation-trans _ (sent_in (of_port first messages) ++ sent_in others) (sent_in messages)
    (subst (λ xs. IsPermutation xs (sent_in (of_port first messages) ++ sent_in others))
    (sym (flat_map-append (λ (task : Task). task.1) tasks (joined owned))) both)
    (apart_from first messages)
