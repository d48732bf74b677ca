-- Which entries meet a window.
use Rattle.std.specs.Prelude.{◌≡◌, ℕ, List, [], ◌∷◌, ◌++◌, Any, All, Contains}
use Rattle.geom_core.specs.declared.shape.Shape.{Shape}
use Rattle.geom_core.specs.Cells.{Meets}
use Rattle.rtree_core.specs.declared.node.Entry.{Entry}

-- each of the numbers is that of an entry whose shape meets the window
abbrev pub AllMet : Shape → List Entry → List ℕ → Type 0
AllMet w entries numbers = All (λ k. Any (λ e. (e.number ≡ k) × Meets e.shape w) entries) numbers

-- the number of each entry whose shape meets the window is among these
abbrev pub AllFound : Shape → List Entry → List ℕ → Type 0
AllFound w entries numbers = All (λ e. Meets e.shape w → Contains numbers e.number) entries

-- the numbers of the entries whose shapes meet the window, in the order of the entries
pub data Picks (w : Shape) : List Entry → List ℕ → Type 0 where
  none : Picks w [] []
  met : {e : Entry} {es : List Entry} {ks : List ℕ} →
      Meets e.shape w →
      Picks w es ks →
      Picks w (e ∷ es) (e.number ∷ ks)
  missed : {e : Entry} {es : List Entry} {ks : List ℕ} →
      (Meets e.shape w → ⊥) →
      Picks w es ks →
      Picks w (e ∷ es) ks

-- the second list is the first with those numbers at its end
pub record Adds (w : Shape) (entries : List Entry) (old new : List ℕ) : Type 0 where
  pub numbers : List ℕ
  pub picks : Picks w entries numbers
  pub items : new ≡ old ++ numbers
