-- Sets of points share a point exactly where their squared distance is 0.
use Rattle.std.proofs.Common.{◌≡◌, ◌↔◌, ◌*◌, ◌+◌, ◌≤◌, ◌<◌, ℕ, arith, sym, subst}
use Rattle.std.specs.Prelude.{ℤ, pos, ◌*ℤ◌, ◌-ℤ◌, nat_abs}
use Rattle.std.proofs.lemmas.Int.{ints}
use native.Mathlib.Decide.{dec_lt}
use Rattle.std.proofs.Math.Nat.{le_of_mul-le-mul_right, one-le-mul}
use Rattle.plane_core.specs.Points.{Point, IsSamePlace}
use Rattle.distance_core.specs.Distances.{difference, square, scaled_square, scale_of}
use Rattle.distance_core.proofs.SquareLemmas.{wide_scale}
use Rattle.distance_core.specs.Fractions.{IsLeastFraction}
use Rattle.geometry_distance_core.proofs.DistanceLemmas.{no_distance}
use Rattle.planar_core.specs.Squares.{AreApart}

-- two points at no distance are at one place
no_root : (m : ℕ) → m * m ≡ 0 → m ≡ 0
no_root m h = elim (dec_lt 0 m) [
  | yes some ↦ let one = one-le-mul {a = m} {b = m} (omega (arith, some)) (omega (arith, some)) in absurd (omega (arith, one, h))
  | no none ↦ omega (arith, none)
]

first_none : (m n : ℕ) → m + n ≡ 0 → m ≡ 0
first_none m n h = omega (arith, h)

second_none : (m n : ℕ) → m + n ≡ 0 → n ≡ 0
second_none m n h = omega (arith, h)

level : (m n : ℤ) → nat_abs (m -ℤ n) ≡ 0 → m ≡ n
level m n h = omega (arith, ints)

one_place : (p q : Point) → scaled_square p q ≡ 0 → IsSamePlace p q
one_place p q none = (
  level (p.x *ℤ pos q.w) (q.x *ℤ pos p.w) (no_root (nat_abs (difference p.x p.w q.x q.w)) (first_none (square (difference p.x p.w q.x q.w)) (square (difference p.y p.w q.y q.w)) none)),
  level (p.y *ℤ pos q.w) (q.y *ℤ pos p.w) (no_root (nat_abs (difference p.y p.w q.y q.w)) (second_none (square (difference p.x p.w q.x q.w)) (square (difference p.y p.w q.y q.w)) none)),
)

-- Two sets of points share a point exactly where their squared distance is 0, if whether a place is in the second one
-- doesn't depend on the fractions by which it is given.
module _ (P Q : Point → Type 0) (n d : ℕ) (positive : 0 < d)
    (at_place : (p q : Point) → 0 < p.w → 0 < q.w → IsSamePlace p q → Q p → Q q) (is : IsLeastFraction n d P Q) where
  -- where it is 0, the points that reach it are one place
  share : n ≡ 0 → ¬ (AreApart P Q)
  share none apart =
      let p = is.reached.first in
      let q = is.reached.second in
      apart (
        p,
        is.reached.first_wide,
        (
          is.reached.first_in,
          at_place q p is.reached.second_wide is.reached.first_wide
              (turned p q (one_place p q (nothing d (scaled_square p q) n (scale_of p q) positive none is.reached.near))) is.reached.second_in,
        ),
      )
    where
      turned : (p q : Point) → IsSamePlace p q → IsSamePlace q p
      turned p q same = (sym same.0, sym same.1)

      nothing : (d a n s : ℕ) → 0 < d → n ≡ 0 → d * a ≤ n * s → a ≡ 0
      nothing d a n s wide none h =
          let le = le_of_mul-le-mul_right {m = a} {n = 0} {k = d} (plain d a n s none h) wide in
          omega (arith, le)
        where
          plain : (d a n s : ℕ) → n ≡ 0 → d * a ≤ n * s → a * d ≤ 0 * d
          plain d a n s none h = let few : d * a ≤ 0 * s = subst (λ (m : ℕ). d * a ≤ m * s) none h in omega (arith, few)

  -- and where they share a point, it is 0
  none_apart : ¬ (n ≡ 0) → AreApart P Q
  none_apart some (p, wide, in_both) = some (plain n (scale_of p p) d (scaled_square p p) (wide_scale p p wide wide) (no_distance p) (is.least p p wide wide in_both.0 in_both.1))
    where
      plain : (n s d a : ℕ) → 0 < s → a ≡ 0 → n * s ≤ d * a → n ≡ 0
      plain n s d a wide none h =
          let few : n * s ≤ d * 0 = subst (λ (m : ℕ). n * s ≤ d * m) none h in
          let le = le_of_mul-le-mul_right {m = n} {n = 0} {k = s} (omega (arith, few)) wide in
          omega (arith, le)

  pub touching : ¬ (n ≡ 0) ↔ AreApart P Q
  touching = (none_apart, λ apart none. share none apart)
