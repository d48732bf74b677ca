-- The signs of products.
use Rattle.std.proofs.Common.{◌≡◌, ◌≤◌, ◌<◌, ◌*◌, arith}
use Rattle.std.specs.Prelude.{ℕ, ℤ, pos, negsuc, ◌*ℤ◌, neg_ℤ, ◌≤ℤ◌, ◌<ℤ◌}
use Rattle.std.proofs.Math.Nat.{mul-le-mul}
use Rattle.std.proofs.lemmas.Int.{ints, by_lt_z}
use Rattle.plane_core.proofs.Ring.{times-neg}

pub times_positive : (a b : ℤ) → pos 0 <ℤ a → pos 0 <ℤ b → pos 0 <ℤ (a *ℤ b)
times_positive (pos a) (pos b) h k =
    let one_a : 1 ≤ a = omega (arith, ints) in
    let one_b : 1 ≤ b = omega (arith, ints) in
    omega (arith, ints, mul-le-mul one_a one_b)
times_positive (pos a) (negsuc b) h k = omega (arith, ints)
times_positive (negsuc a) b h k = omega (arith, ints)

pub times_not_negative : (a b : ℤ) → pos 0 ≤ℤ a → pos 0 ≤ℤ b → pos 0 ≤ℤ (a *ℤ b)
times_not_negative (pos a) (pos b) h k = omega (arith, ints)
times_not_negative (pos a) (negsuc b) h k = omega (arith, ints)
times_not_negative (negsuc a) b h k = omega (arith, ints)

-- a positive factor is cancelled
pub positive_factor : (a b : ℤ) → pos 0 <ℤ a → pos 0 <ℤ (a *ℤ b) → pos 0 <ℤ b
positive_factor a b h k = by_lt_z (pos 0) b (λ yes. yes)
    (λ no. let turned : pos 0 ≤ℤ (a *ℤ neg_ℤ b) = times_not_negative a (neg_ℤ b) (omega (arith, ints)) (omega (arith, ints)) in
    let e : a *ℤ neg_ℤ b ≡ neg_ℤ (a *ℤ b) = times-neg a b in
    omega (arith, ints))

pub not_negative_factor : (a b : ℤ) → pos 0 <ℤ a → pos 0 ≤ℤ (a *ℤ b) → pos 0 ≤ℤ b
not_negative_factor a b h k = by_lt_z b (pos 0)
    (λ no. let turned : pos 0 <ℤ (a *ℤ neg_ℤ b) = times_positive a (neg_ℤ b) h (omega (arith, ints)) in
    let e : a *ℤ neg_ℤ b ≡ neg_ℤ (a *ℤ b) = times-neg a b in
    omega (arith, ints))
    (λ yes. yes)

pub weak : (m n : ℤ) → m <ℤ n → m ≤ℤ n
weak m n h = omega (arith, ints)

pub wide_z : (n : ℕ) → 0 < n → pos 0 <ℤ pos n
wide_z n h = omega (arith, ints)

pub positive_product : (n w : ℕ) → 0 < n → 0 < w → 0 < n * w
positive_product n w h k = let f : pos 0 <ℤ (pos n *ℤ pos w) = times_positive (pos n) (pos w) (wide_z n h) (wide_z w k) in omega (arith, ints)
