-- The invariant of a loop over items in parentheses: the items so far, and the facts of them.
use Rattle.std.proofs.Common.{◌≡◌, ℕ, List, [], ◌∷◌, ◌++◌, refl}
use Rattle.wkt_core.specs.TokenSteps.{skip}
use Rattle.wkt_core.specs.ListSteps.{Begun, Enclosed}
use Rattle.wkt_core.proofs.ItemLemmas.{IsExact, begun_more, items_ended, no_item_follows, no_end_follows}

-- the items between two places of a text, with a fact of them
pub record SoFar {X : Type 0} (Item : List ℕ → X → List ℕ → Type 0) (Holds : List X → Type 0) (start rest : List ℕ) : Type 0 where
  pub done : List X
  pub begun : Begun Item done start rest
  pub holds : Holds done

module _ {X : Type 0} (Item : List ℕ → X → List ℕ → Type 0) (Holds : List X → Type 0) where
  pub so_far_none : (start : List ℕ) → Holds [] → SoFar Item Holds start start
  so_far_none start h = record { done = []; begun = refl; holds = h }

  module _ (Next : List X → Type 0) (x : X) (start rest after behind : List ℕ) (taken : Item (skip rest) x after) (more : (done : List X) → Holds done → Next (done ++ x ∷ []))
      (s : SoFar Item Holds start rest) where
    pub so_far_more : skip after ≡ 44 ∷ behind → SoFar Item Next start behind
    so_far_more e = record {
      done = s.done ++ x ∷ [];
      begun = begun_more Item s.done x start rest after behind s.begun taken e;
      holds = more s.done s.holds;
    }

    pub so_far_ended : (text : List ℕ) → text ≡ 40 ∷ start → skip after ≡ 41 ∷ behind → (xs : List X) × Enclosed Item text xs behind × Next xs
    so_far_ended text open_at e =
        (s.done ++ x ∷ [], (start, open_at, items_ended Item s.done x start rest after behind s.begun taken e), more s.done s.holds)

  module _ (exact : IsExact Item) (text start rest : List ℕ) (open_at : text ≡ 40 ∷ start) (s : SoFar Item Holds start rest) where
    pub so_far_no_item : ((x : X) (m : List ℕ) → Item (skip rest) x m → ⊥) → (xs : List X) (e : List ℕ) → Enclosed Item text xs e → ⊥
    so_far_no_item none = no_item_follows Item exact start rest s.done s.begun text open_at none

    pub so_far_no_end : (x : X) (after : List ℕ) → Item (skip rest) x after → ((r : List ℕ) → ¬ (skip after ≡ 44 ∷ r) × ¬ (skip after ≡ 41 ∷ r))
        → (xs : List X) (e : List ℕ) → Enclosed Item text xs e → ⊥
    so_far_no_end x after taken none = no_end_follows Item exact start rest s.done s.begun text open_at x after taken none
