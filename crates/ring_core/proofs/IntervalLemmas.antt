-- Intervals between two numbers, in either order: which numbers two of them have in common.
use Rattle.std.proofs.Common.{◌≡◌, ◌⊎◌, inl, inr, true, false, arith, refl, sym, subst, ◌∙◌}
use Rattle.std.specs.Prelude.{ℤ, ◌*ℤ◌, ◌≤ℤ◌, ◌<ℤ◌, pos, int_lt}
use Rattle.std.specs.Int.{int_min, int_max}
use Rattle.std.proofs.lemmas.Int.{ints, clamps, by_lt_z}
use Rattle.plane_core.proofs.ScaleLemmas.{no_less_scaled}
use Rattle.edge_index_core.proofs.BetweenLemmas.{IsIn, Up, Down, low_of, high_of}
use Rattle.ring_core.specs.PairTests.{share_interval}

-- one of two numbers
pub min_pick : (a b : ℤ) → (int_min a b ≡ a) ⊎ (int_min a b ≡ b)
min_pick a b = by_lt_z a b (λ h. inl (omega (arith, ints, clamps))) (λ h. inr (omega (arith, ints, clamps)))

pub max_pick : (a b : ℤ) → (int_max a b ≡ a) ⊎ (int_max a b ≡ b)
max_pick a b = by_lt_z a b (λ h. inr (omega (arith, ints, clamps))) (λ h. inl (omega (arith, ints, clamps)))

-- the greater of the two beginnings, and the lesser of the two ends
abbrev pub start_of : ℤ → ℤ → ℤ → ℤ → ℤ
start_of a b c d = int_max (int_min a b) (int_min c d)

abbrev pub end_of : ℤ → ℤ → ℤ → ℤ → ℤ
end_of a b c d = int_min (int_max a b) (int_max c d)

-- if the start is before the end, both are in both intervals, and neither consists of a single
-- number
pub record IsCommon (a b c d : ℤ) : Type 0 where
  pub ordered : start_of a b c d <ℤ end_of a b c d
  pub first_start : IsIn a b (start_of a b c d)
  pub first_end : IsIn a b (end_of a b c d)
  pub second_start : IsIn c d (start_of a b c d)
  pub second_end : IsIn c d (end_of a b c d)
  pub first_long : ¬ (a ≡ b)
  pub second_long : ¬ (c ≡ d)

pub common : (a b c d : ℤ) → share_interval a b c d ≡ true → IsCommon a b c d
common a b c d h =
    let k : start_of a b c d <ℤ end_of a b c d = plain (start_of a b c d) (end_of a b c d) h in
    record {
      ordered = k;
      first_start = by_lt_z a b (λ l. Up (omega (arith, ints, clamps)) (omega (arith, ints, clamps))) (λ l. Down (omega (arith, ints, clamps)) (omega (arith, ints, clamps)));
      first_end = by_lt_z a b (λ l. Up (omega (arith, ints, clamps)) (omega (arith, ints, clamps))) (λ l. Down (omega (arith, ints, clamps)) (omega (arith, ints, clamps)));
      second_start = by_lt_z c d (λ l. Up (omega (arith, ints, clamps)) (omega (arith, ints, clamps))) (λ l. Down (omega (arith, ints, clamps)) (omega (arith, ints, clamps)));
      second_end = by_lt_z c d (λ l. Up (omega (arith, ints, clamps)) (omega (arith, ints, clamps))) (λ l. Down (omega (arith, ints, clamps)) (omega (arith, ints, clamps)));
      first_long = λ e. let z : a ≡ b = e in absurd (omega (arith, ints, clamps));
      second_long = λ e. let z : c ≡ d = e in absurd (omega (arith, ints, clamps));
    }
  where
    plain : (m n : ℤ) → int_lt m n ≡ true → m <ℤ n
    plain m n h = grind (arith, ints)

-- a number between both pairs is no less than the beginning
pub from_start : (a b c d z w : ℤ) → pos 0 <ℤ w → IsIn (w *ℤ a) (w *ℤ b) z → IsIn (w *ℤ c) (w *ℤ d) z → (w *ℤ start_of a b c d) ≤ℤ z
from_start a b c d z w hw h k = elim (max_pick (int_min a b) (int_min c d)) [
  | inl e ↦ subst (λ (m : ℤ). (w *ℤ m) ≤ℤ z) (sym e) (low_of a b z w hw h)
  | inr e ↦ subst (λ (m : ℤ). (w *ℤ m) ≤ℤ z) (sym e) (low_of c d z w hw k)
]

pub to_end : (a b c d z w : ℤ) → pos 0 <ℤ w → IsIn (w *ℤ a) (w *ℤ b) z → IsIn (w *ℤ c) (w *ℤ d) z → z ≤ℤ (w *ℤ end_of a b c d)
to_end a b c d z w hw h k = elim (min_pick (int_max a b) (int_max c d)) [
  | inl e ↦ subst (λ (m : ℤ). z ≤ℤ (w *ℤ m)) (sym e) (high_of a b z w hw h)
  | inr e ↦ subst (λ (m : ℤ). z ≤ℤ (w *ℤ m)) (sym e) (high_of c d z w hw k)
]

-- so it is the start if the intervals share at most one number
pub at_start : (a b c d z w : ℤ) → pos 0 <ℤ w → share_interval a b c d ≡ false → IsIn (w *ℤ a) (w *ℤ b) z → IsIn (w *ℤ c) (w *ℤ d) z → z ≡ w *ℤ start_of a b c d
at_start a b c d z w hw none h k =
    same _ _ _ (from_start a b c d z w hw h k) (to_end a b c d z w hw h k) (no_less_scaled w _ _ hw (plain (start_of a b c d) (end_of a b c d) none))
  where
    same : (m z n : ℤ) → m ≤ℤ z → z ≤ℤ n → n ≤ℤ m → z ≡ m
    same m z n h k l = omega (arith, ints)

    plain : (m n : ℤ) → int_lt m n ≡ false → n ≤ℤ m
    plain m n h = grind (arith, ints)

-- the beginning is an end of one of the intervals
pub start_pick : (a b c d : ℤ) → ((start_of a b c d ≡ a) ⊎ (start_of a b c d ≡ b)) ⊎ ((start_of a b c d ≡ c) ⊎ (start_of a b c d ≡ d))
start_pick a b c d = elim (max_pick (int_min a b) (int_min c d)) [
  | inl e ↦ elim (min_pick a b) [ inl f ↦ inl (inl (e ∙ f)) | inr f ↦ inl (inr (e ∙ f)) ]
  | inr e ↦ elim (min_pick c d) [ inl f ↦ inr (inl (e ∙ f)) | inr f ↦ inr (inr (e ∙ f)) ]
]
