-- Shapes that are at most d apart are at most d apart along each axis.
use Rattle.std.proofs.Common.{ℕ, ◌+◌, ◌*◌, ◌≤◌, ◌<◌, arith}
use Rattle.std.specs.Prelude.{ℤ, pos, ◌+ℤ◌, ◌-ℤ◌, ◌≤ℤ◌, nat_abs}
use native.Mathlib.Decide.{dec_lt}
use Rattle.std.proofs.lemmas.Nat.{mul-lt}
use Rattle.std.proofs.Math.Nat.{le_of_mul-le-mul_right}
use Rattle.std.proofs.lemmas.Int.{ints, by_lt_z}
use Rattle.geom_core.specs.declared.span.Span.{Span}
use Rattle.geom_core.specs.declared.shape.Shape.{Shape}
use Rattle.distance_core.specs.Distances.{difference, square, scale_of, AreWithin}
use Rattle.distance_core.specs.ShapePoints.{HasPoint}
use Rattle.distance_core.specs.Gaps.{IsGap}
use Rattle.distance_core.proofs.AxisLemmas.{gap_above, gap_below, no_gap}
use Rattle.distance_core.proofs.SquareLemmas.{squared, wide_scale}

-- two intervals have a gap
has_gap : (a b : Span) → (g : ℕ) × IsGap a b g
has_gap a b = by_lt_z a.hi b.lo
    (λ above. (nat_abs (b.lo -ℤ a.hi), gap_above a b (nat_abs (b.lo -ℤ a.hi)) (omega (arith, ints, above))))
    (λ no. by_lt_z b.hi a.lo
    (λ below. (nat_abs (a.lo -ℤ b.hi), gap_below a b (nat_abs (a.lo -ℤ b.hi)) (omega (arith, ints, below))))
    (λ neither. (0, no_gap a b neither no)))

root_no_more : (g d : ℕ) → g * g ≤ d * d → g ≤ d
root_no_more g d h = elim (dec_lt d g) [
  | yes more ↦ let l = mul-lt d d g g more more in absurd (omega (arith, h, l))
  | no le ↦ omega (arith, le)
]

-- each of two intervals begins at most d behind the end of the other
pub record AreClose (d : ℕ) (a b : Span) : Type 0 where
  pub first : a.lo ≤ℤ (b.hi +ℤ pos d)
  pub second : b.lo ≤ℤ (a.hi +ℤ pos d)

close_ends : (a b : Span) (g d : ℕ) → IsGap a b g → g ≤ d → AreClose d a b
close_ends a b g d gap h =
    let in_a = gap.first_in in
    let in_b = gap.second_in in
    let is = gap.reached in
    record { first = omega (arith, ints, in_a, in_b, is, h); second = omega (arith, ints, in_a, in_b, is, h) }

-- a gap whose scaled square is at most that of d
no_wider : (g d s m : ℕ) → (g * g) * s ≤ m → m ≤ (d * d) * s → 0 < s → g ≤ d
no_wider g d s m h k wide = root_no_more g d (le_of_mul-le-mul_right {m = g * g} {n = d * d} {k = s} (omega (arith, h, k)) wide)

part_of_sum : (m n k : ℕ) → m + n ≤ k → m ≤ k
part_of_sum m n k h = omega (arith, h)

other_part : (m n k : ℕ) → m + n ≤ k → n ≤ k
other_part m n k h = omega (arith, h)

pub within_is_close : (d : ℕ) (a b : Shape) → AreWithin d (HasPoint a) (HasPoint b) → AreClose d a.x b.x × AreClose d a.y b.y
within_is_close d a b w =
    let p = w.first in
    let q = w.second in
    let gap_x = has_gap a.x b.x in
    let gap_y = has_gap a.y b.y in
    let wide = wide_scale p q w.first_wide w.second_wide in
    let far_x = squared (p.w * q.w) gap_x.0 _ (gap_x.1.least p.x p.w q.x q.w w.first_wide w.second_wide w.first_in.0 w.second_in.0) in
    let far_y = squared (p.w * q.w) gap_y.0 _ (gap_y.1.least p.y p.w q.y q.w w.first_wide w.second_wide w.first_in.1 w.second_in.1) in
    let along_x = square (difference p.x p.w q.x q.w) in
    let along_y = square (difference p.y p.w q.y q.w) in (
      close_ends a.x b.x gap_x.0 d gap_x.1 (no_wider gap_x.0 d (scale_of p q) along_x far_x (part_of_sum along_x along_y _ w.near) wide),
      close_ends a.y b.y gap_y.0 d gap_y.1 (no_wider gap_y.0 d (scale_of p q) along_y far_y (other_part along_x along_y _ w.near) wide),
    )
