-- Squares and products of integers, and their order.
use Rattle.std.proofs.Common.{◌≡◌, ◌*◌, ◌+◌, ℕ, arith}
use Rattle.std.specs.Prelude.{ℤ, pos, negsuc, ◌+ℤ◌, ◌-ℤ◌, ◌*ℤ◌, ◌≤ℤ◌, ◌<ℤ◌, nat_abs}
use Rattle.std.proofs.lemmas.Int.{ints}
use Rattle.plane_core.proofs.Ring.{monomials}
use Rattle.plane_core.proofs.Signs.{times_not_negative, not_negative_factor}

pub le_from : (z m n : ℤ) → z ≡ n -ℤ m → pos 0 ≤ℤ z → m ≤ℤ n
le_from z m n e h = omega (arith, ints)

pub le_trans_z : (a b c : ℤ) → a ≤ℤ b → b ≤ℤ c → a ≤ℤ c
le_trans_z a b c h k = omega (arith, ints)

-- a factor that is positive is cancelled
pub le_cancelled : (k a b : ℤ) → pos 0 <ℤ k → (k *ℤ a) ≤ℤ (k *ℤ b) → a ≤ℤ b
le_cancelled k a b hk h = le_from (b -ℤ a) a b (omega (arith, ints)) (not_negative_factor k (b -ℤ a) hk (le_to (k *ℤ a) (k *ℤ b) _ ring h))
  where
    ring : k *ℤ (b -ℤ a) ≡ k *ℤ b -ℤ k *ℤ a
    ring = simp monomials (omega (arith, ints))

    le_to : (m n z : ℤ) → z ≡ n -ℤ m → m ≤ℤ n → pos 0 ≤ℤ z
    le_to m n z e h = omega (arith, ints)

pub times_le : (k a b : ℤ) → pos 0 ≤ℤ k → a ≤ℤ b → (k *ℤ a) ≤ℤ (k *ℤ b)
times_le k a b hk h = le_from (k *ℤ (b -ℤ a)) _ _ ring (times_not_negative k (b -ℤ a) hk (omega (arith, ints)))
  where
    ring : k *ℤ (b -ℤ a) ≡ k *ℤ b -ℤ k *ℤ a
    ring = simp monomials (omega (arith, ints))

pub square_not_negative : (z : ℤ) → pos 0 ≤ℤ (z *ℤ z)
square_not_negative (pos n) = omega (arith, ints)
square_not_negative (negsuc n) = omega (arith, ints)

-- numbers that are not negative have squares in their order
pub square_le : (a b : ℤ) → pos 0 ≤ℤ a → a ≤ℤ b → (a *ℤ a) ≤ℤ (b *ℤ b)
square_le a b ha h = le_from ((b -ℤ a) *ℤ (b +ℤ a)) _ _ ring (times_not_negative (b -ℤ a) (b +ℤ a) (omega (arith, ints)) (omega (arith, ints)))
  where
    ring : (b -ℤ a) *ℤ (b +ℤ a) ≡ b *ℤ b -ℤ a *ℤ a
    ring = simp monomials (omega (arith, ints))

pub abs_square : (z : ℤ) → pos (nat_abs z * nat_abs z) ≡ z *ℤ z
abs_square (pos n) = omega (arith, ints)
abs_square (negsuc n) = omega (arith, ints)

pub pos_times : (m n : ℕ) → pos (m * n) ≡ pos m *ℤ pos n
pos_times m n = omega (arith, ints)

pub pos_plus : (m n : ℕ) → pos (m + n) ≡ pos m +ℤ pos n
pos_plus m n = omega (arith, ints)
