-- Numbers within the limits equal their 128-bit values.
use Rattle.std.proofs.Common.{◌≡◌, ◌≤◌, ◌*◌, ◌+◌, ◌^◌, ℕ, to_z, of_z, arith, ◌∙◌, FitsSigned}
use Rattle.std.specs.Prelude.{ℤ, pos, ◌*ℤ◌, ◌-ℤ◌, ◌<ℤ◌, nat_abs}
use Rattle.std.specs.Int.{w128}
use Rattle.std.proofs.Math.Nat.{mul-le-mul}
use Rattle.std.proofs.lemmas.Int.{ints, to_z-of_z, fits_signed_from_abs, unsigned_abs-mul}
use Rattle.plane_core.specs.Limits.{greatest_coordinate, greatest_turn}

pub held : (a : ℤ) → FitsSigned w128 a → to_z w128 (of_z w128 a) ≡ a
held a h = to_z-of_z w128 a h

pub held_below : (a : ℤ) (m : ℕ) → nat_abs a ≤ m → m ≤ 2 ^ 126 → to_z w128 (of_z w128 a) ≡ a
held_below a m h k = held a (fits_signed_from_abs w128 a (omega arith))

pub product_fits : (a b : ℤ) → nat_abs a * nat_abs b ≤ 2 ^ 125 → FitsSigned w128 (a *ℤ b)
product_fits a b h = fits_signed_from_abs w128 (a *ℤ b) (omega (arith, unsigned_abs-mul a b))

product_below : (a b : ℤ) → nat_abs a * nat_abs b ≤ 2 ^ 125 → nat_abs (a *ℤ b) ≤ 2 ^ 125
product_below a b h = omega (arith, unsigned_abs-mul a b)

difference_below : (m n : ℤ) (k l : ℕ) → nat_abs m ≤ k → nat_abs n ≤ l → nat_abs (m -ℤ n) ≤ k + l
difference_below m n k l h g = omega (arith, ints)

difference_fits : (m n : ℤ) → nat_abs m ≤ 2 ^ 125 → nat_abs n ≤ 2 ^ 125 → FitsSigned w128 (m -ℤ n)
difference_fits m n h k =
    fits_signed_from_abs w128 (m -ℤ n) (omega (arith, difference_below m n (2 ^ 125) (2 ^ 125) h k))

-- the 128-bit values of two products
pub held_difference : (a b c d : ℤ)
    → FitsSigned w128 a → FitsSigned w128 b → FitsSigned w128 c → FitsSigned w128 d
    → nat_abs a * nat_abs b ≤ 2 ^ 125 → nat_abs c * nat_abs d ≤ 2 ^ 125
    → to_z w128 (of_z w128 (to_z w128 (of_z w128 a) *ℤ to_z w128 (of_z w128 b)))
    -ℤ to_z w128 (of_z w128 (to_z w128 (of_z w128 c) *ℤ to_z w128 (of_z w128 d))) ≡ a *ℤ b -ℤ c *ℤ d
held_difference a b c d fa fb fc fd h k = rw (
  held a fa,
  held b fb,
  held c fc,
  held d fd,
  held (a *ℤ b) (product_fits a b h),
  held (c *ℤ d) (product_fits c d k),
)

pub held_difference_fits : (a b c d : ℤ)
    → FitsSigned w128 a → FitsSigned w128 b → FitsSigned w128 c → FitsSigned w128 d
    → nat_abs a * nat_abs b ≤ 2 ^ 125 → nat_abs c * nat_abs d ≤ 2 ^ 125
    → FitsSigned w128 (to_z w128 (of_z w128 (to_z w128 (of_z w128 a) *ℤ to_z w128 (of_z w128 b)))
    -ℤ to_z w128 (of_z w128 (to_z w128 (of_z w128 c) *ℤ to_z w128 (of_z w128 d))))
held_difference_fits a b c d fa fb fc fd h k =
    rw (held_difference a b c d fa fb fc fd h k)
    (difference_fits (a *ℤ b) (c *ℤ d) (product_below a b h) (product_below c d k))

pub cross_value : (a b c d : ℤ)
    → FitsSigned w128 a → FitsSigned w128 b → FitsSigned w128 c → FitsSigned w128 d
    → nat_abs a * nat_abs b ≤ 2 ^ 125 → nat_abs c * nat_abs d ≤ 2 ^ 125
    → to_z w128 (of_z w128 (to_z w128 (of_z w128 (to_z w128 (of_z w128 a) *ℤ to_z w128 (of_z w128 b)))
    -ℤ to_z w128 (of_z w128 (to_z w128 (of_z w128 c) *ℤ to_z w128 (of_z w128 d))))) ≡ a *ℤ b -ℤ c *ℤ d
cross_value a b c d fa fb fc fd h k =
    held _ (held_difference_fits a b c d fa fb fc fd h k) ∙ held_difference a b c d fa fb fc fd h k

pub cross_below : (a b c d : ℤ) → nat_abs (a *ℤ b -ℤ c *ℤ d) ≤ nat_abs a * nat_abs b + nat_abs c * nat_abs d
cross_below a b c d =
    difference_below (a *ℤ b) (c *ℤ d) (nat_abs a * nat_abs b) (nat_abs c * nat_abs d)
    (omega (arith, unsigned_abs-mul a b)) (omega (arith, unsigned_abs-mul c d))

-- a cross product of differences of coordinates is in range
turn_plain : (r : ℤ) (m n k l : ℕ) → nat_abs r ≤ m * n + k * l
    → m ≤ 2 * greatest_coordinate → n ≤ 2 * greatest_coordinate
    → k ≤ 2 * greatest_coordinate → l ≤ 2 * greatest_coordinate → nat_abs r ≤ greatest_turn
turn_plain r m n k l h hm hn hk hl =
    let first = mul-le-mul hm hn in
    let second = mul-le-mul hk hl in
    omega arith

pub held_way : (a : ℤ) → nat_abs a ≤ 2 * greatest_coordinate → to_z w128 (of_z w128 a) ≡ a
held_way a h = held_below a _ h (omega arith)

pub held_turn : (r : ℤ) → nat_abs r ≤ greatest_turn → to_z w128 (of_z w128 r) ≡ r
held_turn r h = held_below r _ h (omega arith)

pub turn_below : (r a b c d : ℤ)
    → nat_abs r ≤ nat_abs (to_z w128 (of_z w128 a)) * nat_abs (to_z w128 (of_z w128 b))
    + nat_abs (to_z w128 (of_z w128 c)) * nat_abs (to_z w128 (of_z w128 d))
    → nat_abs a ≤ 2 * greatest_coordinate → nat_abs b ≤ 2 * greatest_coordinate
    → nat_abs c ≤ 2 * greatest_coordinate → nat_abs d ≤ 2 * greatest_coordinate
    → nat_abs r ≤ greatest_turn
turn_below r a b c d h ha hb hc hd =
    turn_plain r (nat_abs a) (nat_abs b) (nat_abs c) (nat_abs d)
    (rw (held_way a ha, held_way b hb, held_way c hc, held_way d hd) at h) ha hb hc hd

-- a positive number equals its absolute value
pub abs_positive : (w : ℤ) → pos 0 <ℤ w → pos (nat_abs w) ≡ w
abs_positive w h = omega (arith, ints)
