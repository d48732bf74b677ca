-- The rounded root of a fraction, by the root of its whole part, rounded down.
use Rattle.std.proofs.Common.{◌≡◌, ℕ, ◌+◌, ◌-◌, ◌*◌, ◌/◌, ◌^◌, ◌≤◌, ◌<◌, arith, subst, sym}
use native.Mathlib.Decide.{dec_lt}
use Rattle.std.proofs.lemmas.Nat.{div-add-mod', mul-le}
use Rattle.std.proofs.Math.Nat.{mul-le-mul_right, mod-lt}
use Rattle.distance_core.specs.FractionRoots.{IsRootFrom, IsRoundedFractionRoot}

-- n / d, rounded down, whose root, rounded down, is r
pub record IsFlooredRoot (n d r : ℕ) : Type 0 where
  pub from : (r * r) * d ≤ n
  pub below : n < ((r + 1) * (r + 1)) * d

pub floored_root : (n d r : ℕ) → 0 < d → r * r ≤ n / d → n / d < (r + 1) * (r + 1)
    → IsFlooredRoot n d r
floored_root n d r wide low high =
    let least = mul-le-mul_right {m = r * r} {n = n / d} d low in
    let greatest = mul-le-mul_right {m = n / d + 1} {n = (r + 1) * (r + 1)} d (omega (arith, high)) in
    let split = div-add-mod' n d in
    let rest = mod-lt n wide in
    record { from = omega (arith, least, split); below = omega (arith, greatest, split, rest) }

pub rounded_up : (n d r : ℕ) → IsFlooredRoot n d r → IsRootFrom n d (r + 1) → IsRoundedFractionRoot n d (r + 1)
rounded_up n d r root from = let below = root.below in record { from = from; below = omega (arith, below) }

rounded_down : (n d r : ℕ) → IsFlooredRoot n d r → 4 * n < ((2 * r + 1) * (2 * r + 1)) * d → IsRoundedFractionRoot n d r
rounded_down n d r root below =
    let half = mul-le (2 * r - 1) (2 * r - 1) (2 * r) (2 * r) (omega arith) (omega arith) in
    let least = mul-le-mul_right {m = (2 * r - 1) * (2 * r - 1)} {n = (2 * r) * (2 * r)} d half in
    let from = root.from in
    record { from = no_more _ _ _ _ least (four r d) from; below = below }
  where
    four : (r d : ℕ) → ((2 * r) * (2 * r)) * d ≤ 4 * ((r * r) * d)
    four r d = omega arith

    no_more : (a b c n : ℕ) → a ≤ b → b ≤ 4 * c → c ≤ n → a ≤ 4 * n
    no_more a b c n h k l = omega (arith, h, k, l)

-- the same where n has two parts of which the higher is 0
pub narrow_floored : (high low d r : ℕ) → high ≡ 0 → 0 < d → r * r ≤ low / d → low / d < (r + 1) * (r + 1)
    → IsFlooredRoot (high * 2 ^ 128 + low) d r
narrow_floored high low d r none wide least greatest =
    subst (λ n. IsFlooredRoot n d r) (same high low none) (floored_root low d r wide least greatest)
  where
    same : (h l : ℕ) → h ≡ 0 → l ≡ h * 2 ^ 128 + l
    same h l e = rw e (omega arith)

pub rounded_unless : (n d r : ℕ) → IsFlooredRoot n d r → (IsRootFrom n d (r + 1) → ⊥) → IsRoundedFractionRoot n d r
rounded_unless n d r root none = elim (dec_lt (4 * n) (((2 * r + 1) * (2 * r + 1)) * d)) [
  | yes less ↦ rounded_down n d r root less
  | no more ↦ absurd (none (subst (λ m. (m * m) * d ≤ 4 * n) (sym (odd r)) (omega (arith, more))))
]
  where
    odd : (r : ℕ) → 2 * (r + 1) - 1 ≡ 2 * r + 1
    odd r = omega arith
