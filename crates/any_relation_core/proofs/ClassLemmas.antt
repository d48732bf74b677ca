-- Searching a list of classes.
use Rattle.std.proofs.Common.{◌≡◌, ◌↔◌, ℕ, ◌<◌, zero, suc, refl, arith, inl, inr}
use Rattle.std.specs.Prelude.{List, [], ◌∷◌, length, Bool, true, false, MatchBool}
use Rattle.std.specs.List.{HoldsAt, AllWithin}
use Rattle.any_relation_core.specs.declared.class.Class.{Class}
use Rattle.any_relation_core.specs.Classes.{SomeClass}

some_at : (P : Class → Type 0) (cs : List Class) (k : ℕ) → k < length cs → HoldsAt P cs k → SomeClass P cs
some_at P [] k h w = absurd (omega arith)
some_at P (c ∷ cs) zero h w = inl (w c)
some_at P (c ∷ cs) (suc k) h w = inr (some_at P cs k (omega arith) (λ d. w d))

none_within : (P : Class → Type 0) (cs : List Class) → AllWithin (λ c. ¬ (P c)) cs 0 (length cs) → SomeClass P cs → ⊥
none_within P [] h f = f
none_within P (c ∷ cs) h f = elim f [
  | inl has ↦ h 0 c (omega arith) (omega arith) has
  | inr g ↦ none_within P cs (λ k d low high. h (suc k) d (omega arith) (omega arith)) g
]

pub some_from_cases : (found : Bool) (P : Class → Type 0) (cs : List Class) →
    MatchBool found ((k : ℕ) × (k < length cs) × HoldsAt P cs k) (AllWithin (λ c. ¬ (P c)) cs 0 (length cs)) →
    (found ≡ true) ↔ SomeClass P cs
some_from_cases true P cs (k, h, w) = (λ _. some_at P cs k h w, λ _. refl)
some_from_cases false P cs h = (λ e. absurd cc, λ f. absurd (none_within P cs h f))
