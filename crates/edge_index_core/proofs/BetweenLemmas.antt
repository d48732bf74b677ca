-- Numbers between two others, and the same numbers times a factor.
use Rattle.std.proofs.Common.{◌≡◌, inl, inr, true, false, arith, refl}
use Rattle.std.specs.Prelude.{ℕ, ℤ, pos, ◌*ℤ◌, ◌≤ℤ◌, ◌<ℤ◌, int_le, Bool, ◌&&◌, ◌||◌}
use Rattle.std.specs.Int.{int_min, int_max}
use Rattle.std.proofs.lemmas.Int.{ints, clamps}
use Rattle.plane_core.specs.Points.{is_between}
use Rattle.plane_core.proofs.ScaleLemmas.{no_less_scaled}
use Rattle.plane_core.proofs.CrossingLemmas.{le_true, true_le, or_either}
use Rattle.plane_core.proofs.CheckLemmas.{and_first, and_second}

-- a whole number between two others
pub data IsIn (a b z : ℤ) : Type 0 where
  Up : a ≤ℤ z → z ≤ℤ b → IsIn a b z
  Down : b ≤ℤ z → z ≤ℤ a → IsIn a b z

-- the same of numbers w times as large
pub scaled_in : (a b z : ℤ) (w : ℕ) → is_between a b w z ≡ true → IsIn (pos w *ℤ a) (pos w *ℤ b) z
scaled_in a b z w h = elim (or_either (int_le (pos w *ℤ a) z && int_le z (pos w *ℤ b)) (int_le (pos w *ℤ b) z && int_le z (pos w *ℤ a)) h) [
  | inl k ↦ Up (true_le _ _ (and_first _ _ k)) (true_le _ _ (and_second _ _ k))
  | inr k ↦ Down (true_le _ _ (and_first _ _ k)) (true_le _ _ (and_second _ _ k))
]

pub in_scaled : (a b z : ℤ) (w : ℕ) → IsIn (pos w *ℤ a) (pos w *ℤ b) z → is_between a b w z ≡ true
in_scaled a b z w (Up h k) = rw (le_true (pos w *ℤ a) z h, le_true z (pos w *ℤ b) k) refl
in_scaled a b z w (Down h k) = last (int_le (pos w *ℤ a) z && int_le z (pos w *ℤ b)) (rw (le_true (pos w *ℤ b) z h, le_true z (pos w *ℤ a) k) refl)
  where
    last : {d : Bool} (c : Bool) → d ≡ true → (c || d) ≡ true
    last true h = refl
    last false h = h

pub in_times : (a b z : ℤ) (w : ℤ) → pos 0 <ℤ w → IsIn a b z → IsIn (w *ℤ a) (w *ℤ b) (w *ℤ z)
in_times a b z w hw (Up h k) = Up (no_less_scaled w a z hw h) (no_less_scaled w z b hw k)
in_times a b z w hw (Down h k) = Down (no_less_scaled w b z hw h) (no_less_scaled w z a hw k)

trans : (k m n : ℤ) → k ≤ℤ m → m ≤ℤ n → k ≤ℤ n
trans k m n h l = omega (arith, ints)

-- the numbers between, scaled
pub low_of : (a b z w : ℤ) → pos 0 <ℤ w → IsIn (w *ℤ a) (w *ℤ b) z → (w *ℤ int_min a b) ≤ℤ z
low_of a b z w hw (Up h k) = trans _ _ _ (no_less_scaled w (int_min a b) a hw (omega (arith, ints, clamps))) h
low_of a b z w hw (Down h k) = trans _ _ _ (no_less_scaled w (int_min a b) b hw (omega (arith, ints, clamps))) h

pub high_of : (a b z w : ℤ) → pos 0 <ℤ w → IsIn (w *ℤ a) (w *ℤ b) z → z ≤ℤ (w *ℤ int_max a b)
high_of a b z w hw (Up h k) = trans _ _ _ k (no_less_scaled w b (int_max a b) hw (omega (arith, ints, clamps)))
high_of a b z w hw (Down h k) = trans _ _ _ k (no_less_scaled w a (int_max a b) hw (omega (arith, ints, clamps)))
