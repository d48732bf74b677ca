-- The refinement of a list of pairs: those that satisfy a condition, with their answers.
use Rattle.std.specs.Prelude.{◌≡◌, ◌≢◌, ◌↔◌, ℕ, Bool, true, Option, Some, None, List, [], ◌∷◌}
use Rattle.std.specs.Prelude.{map, Contains, AllPairs}
use Rattle.refine_core.specs.declared.refined.Refined.{Refined}

-- a pair whose numbers stand in a relation
abbrev pub IsPairIn : (ℕ → ℕ → Type 0) → ℕ × ℕ → Type 0
IsPairIn R pair = R pair.0 pair.1

abbrev pub with_answer : {A : Type 0} → ℕ × ℕ → A → Refined A
with_answer pair answer = record { pair = pair; answer = answer }

-- the result of deciding a pair: an answer if it satisfies the condition, otherwise none
abbrev pub IsDecision : {A : Type 0} → (ℕ → ℕ → Type 0) → (ℕ → ℕ → A → Type 0)
    → ℕ × ℕ → Option A → Type 0
IsDecision stands answers pair (Some answer) =
    stands pair.0 pair.1 × answers pair.0 pair.1 answer
IsDecision stands answers pair None = ¬ (stands pair.0 pair.1)

-- exactly the pairs of a list that satisfy the condition, in the list's order, each with an answer
-- of its own
pub data AreRefined {A : Type 0} (stands : ℕ → ℕ → Type 0) (answers : ℕ → ℕ → A → Type 0)
    : List (ℕ × ℕ) → List (Refined A) → Type 0 where
  none : AreRefined stands answers [] []
  kept : {pair : ℕ × ℕ} {answer : A} {pairs : List (ℕ × ℕ)} {refined : List (Refined A)}
      → stands pair.0 pair.1 → answers pair.0 pair.1 answer
      → AreRefined stands answers pairs refined
      → AreRefined stands answers (pair ∷ pairs) (with_answer pair answer ∷ refined)
  left_out : {pair : ℕ × ℕ} {pairs : List (ℕ × ℕ)} {refined : List (Refined A)}
      → ¬ (stands pair.0 pair.1)
      → AreRefined stands answers pairs refined
      → AreRefined stands answers (pair ∷ pairs) refined

-- the pairs of a refined list
abbrev pub pairs_of : {A : Type 0} → List (Refined A) → List (ℕ × ℕ)
pairs_of refined = map (λ r. r.pair) refined

-- the refined list of one pair, given the result of deciding it
abbrev pub refined_as : {A : Type 0} → ℕ × ℕ → Option A → List (Refined A)
refined_as pair (Some answer) = with_answer pair answer ∷ []
refined_as pair None = []

-- the list holds each pair of a relation once, and no other
pub record HoldsEachOnce (R : ℕ → ℕ → Type 0) (pairs : List (ℕ × ℕ)) : Type 0 where
  pub exact : (pair : ℕ × ℕ) → Contains pairs pair ↔ R pair.0 pair.1
  pub once : AllPairs (λ p q. p ≢ q) pairs

-- each pair of the list precedes all later ones, in an order such as the ascending one
abbrev pub IsInOrder : (ℕ × ℕ → ℕ × ℕ → Bool) → List (ℕ × ℕ) → Type 0
IsInOrder before pairs = AllPairs (λ p q. before p q ≡ true) pairs
