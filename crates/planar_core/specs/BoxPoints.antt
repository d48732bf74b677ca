-- Boxes as sets of points of the plane.
use Rattle.std.proofs.Common.{arith}
use Rattle.std.specs.Prelude.{◌≡◌, ℕ, ◌*◌, ◌≤◌, ◌<◌, ℤ, pos, ◌*ℤ◌, ◌≤ℤ◌, nat_abs}
use Rattle.std.proofs.lemmas.Int.{ints}
use Rattle.geom_core.specs.declared.span.Span.{Span}
use Rattle.geom_core.specs.declared.shape.Shape.{Shape}
use Rattle.plane_core.specs.Points.{Point, IsSamePlace}
use Rattle.plane_core.proofs.Ring.{monomials}
use Rattle.distance_core.specs.Limits.{greatest_distance, greatest_gap}
use Rattle.distance_core.specs.Distances.{difference, AreWithin}
use Rattle.distance_core.specs.ShapePoints.{HasNumber, HasPoint}
use Rattle.distance_core.proofs.MeetingLemmas.{within_by_fraction}
use Rattle.distance_core.proofs.RingLemmas.{le_cancelled, times_le}
use Rattle.distance_core.proofs.SquareLemmas.{square_bound}
use Rattle.planar_core.specs.Squares.{IsSquareOf}

-- a box is its own box
pub in_itself : (g : Shape) (p : Point) → 0 < p.w → HasPoint g p → HasPoint g p
in_itself g p wide in_ = in_

-- whether a number is in an interval doesn't depend on the fraction by which it is given
same_order : (a b c d : ℤ) → a ≡ c → b ≡ d → a ≤ℤ b → c ≤ℤ d
same_order a b c d first second h = omega (arith, ints, first, second, h)

exchanged : (v w a : ℤ) → v *ℤ (w *ℤ a) ≡ w *ℤ (v *ℤ a)
exchanged v w a = simp monomials (omega (arith, ints))

turned : (z y w v : ℤ) → z *ℤ v ≡ y *ℤ w → v *ℤ z ≡ w *ℤ y
turned z y w v same = omega (arith, ints, same)

module _ (z y : ℤ) (w v : ℕ) (wide_w : 0 < w) (wide_v : 0 < v)
    (same : z *ℤ pos v ≡ y *ℤ pos w) where
  above : (a : ℤ) → (pos w *ℤ a) ≤ℤ z → (pos v *ℤ a) ≤ℤ y
  above a h = le_cancelled (pos w) (pos v *ℤ a) y (omega (arith, ints, wide_w))
      (same_order _ _ _ _ (exchanged (pos v) (pos w) a) (turned z y (pos w) (pos v) same)
      (times_le (pos v) (pos w *ℤ a) z (omega (arith, ints)) h))

  below : (a : ℤ) → z ≤ℤ (pos w *ℤ a) → y ≤ℤ (pos v *ℤ a)
  below a h = le_cancelled (pos w) y (pos v *ℤ a) (omega (arith, ints, wide_w))
      (same_order _ _ _ _ (turned z y (pos w) (pos v) same) (exchanged (pos v) (pos w) a)
      (times_le (pos v) z (pos w *ℤ a) (omega (arith, ints)) h))

  same_number : (s : Span) → HasNumber s z w → HasNumber s y v
  same_number s in_ = (above s.lo in_.0, below s.hi in_.1)

pub box_at_place : (g : Shape) (p q : Point) → 0 < p.w → 0 < q.w → IsSamePlace p q → HasPoint g p
    → HasPoint g q
box_at_place g p q wide_p wide_q same in_ = (
  same_number p.x q.x p.w q.w wide_p wide_q same.0 g.x in_.0,
  same_number p.y q.y p.w q.w wide_p wide_q same.1 g.y in_.1,
)

-- two boxes are in the plane
coordinates_within : (a b : Span) → nat_abs (difference a.lo 1 b.lo 1) ≤ greatest_gap
coordinates_within a b =
    let p = a.above in
    let q = a.ordered in
    let r = a.below in
    let s = b.above in
    let t = b.ordered in
    let u = b.below in
    omega (arith, ints, p, q, r, s, t, u)

at_start : (s : Span) → HasNumber s s.lo 1
at_start s = let p = s.ordered in (omega (arith, ints), omega (arith, ints, p))

boxes_within : (g h : Shape) → AreWithin greatest_distance (HasPoint g) (HasPoint h)
boxes_within g h = record {
  first = record { x = g.x.lo; y = g.y.lo; w = 1 };
  second = record { x = h.x.lo; y = h.y.lo; w = 1 };
  first_wide = omega arith;
  second_wide = omega arith;
  first_in = (at_start g.x, at_start g.y);
  second_in = (at_start h.x, at_start h.y);
  near = let along_x = square_bound _ (coordinates_within g.x h.x) in
      let along_y = square_bound _ (coordinates_within g.y h.y) in
      omega (arith, along_x, along_y);
}

pub boxes_in_range : (g h : Shape) (f : ℕ × ℕ) → 0 < f.1 → IsSquareOf f (HasPoint g) (HasPoint h)
    → f.0 ≤ (greatest_distance * greatest_distance) * f.1
boxes_in_range g h f positive is =
    (within_by_fraction (HasPoint g) (HasPoint h) f.0 f.1 greatest_distance positive is).1
    (boxes_within g h)

pub boxes_in_plane : (g h : Shape) → ¬ (¬ (AreWithin greatest_distance (HasPoint g) (HasPoint h)))
boxes_in_plane g h beyond = beyond (boxes_within g h)
