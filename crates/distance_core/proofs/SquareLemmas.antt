-- The squared distance of two shapes, by how far they are apart along each axis.
use Rattle.std.proofs.Common.{◌≡◌, ◌↔◌, ℕ, ◌+◌, ◌*◌, ◌≤◌, ◌<◌, IsTrue, arith, subst, sym}
use Rattle.std.specs.Prelude.{nat_le}
use Rattle.std.proofs.lemmas.Bool.Decides.{nat_tests}
use Rattle.std.proofs.lemmas.Nat.{mul-le}
use Rattle.std.proofs.Math.Nat.{mul-le-mul_right, le_of_mul-le-mul_right, one-le-mul}
use Rattle.geom_core.specs.declared.shape.Shape.{Shape}
use Rattle.plane_core.specs.Points.{Point}
use Rattle.distance_core.specs.Distances.{difference, square, scale_of, IsAtLeast, ReachWithin, AreWithin, IsSquaredDistance}
use Rattle.distance_core.specs.Limits.{greatest_gap}
use Rattle.distance_core.specs.ShapePoints.{HasPoint}
use Rattle.distance_core.specs.Gaps.{IsGap}

four : (k g : ℕ) → (k * g) * (k * g) ≡ (g * g) * (k * k)
four k g = omega arith

-- a multiple of a number is at most another number, and so are the squares
pub squared : (k g n : ℕ) → k * g ≤ n → (g * g) * (k * k) ≤ n * n
squared k g n h = subst (λ (m : ℕ). m ≤ n * n) (four k g) (mul-le (k * g) (k * g) n n h h)

sum_of : (dx dy s m n : ℕ) → (dx * dx) * s ≤ m → (dy * dy) * s ≤ n → (dx * dx + dy * dy) * s ≤ m + n
sum_of dx dy s m n h k = omega (arith, h, k)

module _ (a b : Shape) (dx dy : ℕ) (along_x : IsGap a.x b.x dx) (along_y : IsGap a.y b.y dy) where
  reached : ReachWithin (dx * dx + dy * dy) (HasPoint a) (HasPoint b)
  reached = record {
    first = record { x = along_x.first; y = along_y.first; w = 1 };
    second = record { x = along_x.second; y = along_y.second; w = 1 };
    first_wide = omega arith;
    second_wide = omega arith;
    first_in = (along_x.first_in, along_y.first_in);
    second_in = (along_x.second_in, along_y.second_in);
    near = rw (along_x.reached, along_y.reached) (omega arith);
  }

  least : (p q : Point) → 0 < p.w → 0 < q.w → HasPoint a p → HasPoint b q → IsAtLeast (dx * dx + dy * dy) p q
  least p q wide_p wide_q in_a in_b =
      sum_of dx dy (scale_of p q) (square (difference p.x p.w q.x q.w)) (square (difference p.y p.w q.y q.w))
      (squared (p.w * q.w) dx _ (along_x.least p.x p.w q.x q.w wide_p wide_q in_a.0 in_b.0))
      (squared (p.w * q.w) dy _ (along_y.least p.y p.w q.y q.w wide_p wide_q in_a.1 in_b.1))

  pub squared_distance_of : (n : ℕ) → n ≡ dx * dx + dy * dy → IsSquaredDistance n (HasPoint a) (HasPoint b)
  squared_distance_of n is = subst (λ (m : ℕ). IsSquaredDistance m (HasPoint a) (HasPoint b)) (sym is) (record { reached = reached; least = least })

-- the squares of two numbers that are at most the side of the plane
pub square_bound : (g : ℕ) → g ≤ greatest_gap → g * g ≤ greatest_gap * greatest_gap
square_bound g h = mul-le g g greatest_gap greatest_gap h h

pub wide_scale : (p q : Point) → 0 < p.w → 0 < q.w → 0 < scale_of p q
wide_scale p q h k = let one = one-le-mul {a = p.w} {b = q.w} (omega arith) (omega arith) in one-le-mul one one

as_order : (m n : ℕ) → IsTrue (nat_le m n) → m ≤ n
as_order m n h = grind (arith, nat_tests)

as_test : (m n : ℕ) → m ≤ n → IsTrue (nat_le m n)
as_test m n h = grind (arith, nat_tests)

-- two sets are at most d apart exactly where their squared distance is at most the square of d
module _ (P Q : Point → Type 0) (n d : ℕ) (is : IsSquaredDistance n P Q) where
  pub within_from_square : n ≤ d * d → AreWithin d P Q
  within_from_square h = record {
    first = is.reached.first;
    second = is.reached.second;
    first_wide = is.reached.first_wide;
    second_wide = is.reached.second_wide;
    first_in = is.reached.first_in;
    second_in = is.reached.second_in;
    near = let more = mul-le-mul_right {m = n} {n = d * d} (scale_of is.reached.first is.reached.second) h in omega (arith, more, is.reached.near);
  }

  pub square_from_within : AreWithin d P Q → n ≤ d * d
  square_from_within w =
      let far = is.least w.first w.second w.first_wide w.second_wide w.first_in w.second_in in
      le_of_mul-le-mul_right {m = n} {n = d * d} {k = scale_of w.first w.second} (omega (arith, far, w.near)) (wide_scale w.first w.second w.first_wide w.second_wide)

  pub within_by_square : IsTrue (nat_le n (d * d)) ↔ AreWithin d P Q
  within_by_square = (
    λ tested. within_from_square (as_order n (d * d) tested),
    λ within. as_test n (d * d) (square_from_within within),
  )
