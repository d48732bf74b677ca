-- Which geometries are nearer, by the squares of distances.
use Rattle.std.proofs.Common.{◌≡◌, ℕ, ◌*◌, ◌<◌, ◌≤◌, ◌⊎◌, inl, inr, arith}
use native.Mathlib.Decide.{dec_lt}
use Rattle.std.specs.Prelude.{Option, None, Some}
use Rattle.std.proofs.Math.Nat.{le_of_mul-le-mul_right}
use Rattle.geom_core.specs.declared.shape.Shape.{Shape}
use Rattle.plane_core.specs.Points.{Point}
use Rattle.distance_core.specs.declared.distance.Distance.{Distance}
use Rattle.distance_core.specs.Units.{units_of}
use Rattle.distance_core.specs.Queries.{IsInReach as IsSquareInReach}
use Rattle.distance_core.specs.Distances.{scaled_square, scale_of, AreWithin}
use Rattle.distance_core.specs.ShapePoints.{HasPoint}
use Rattle.distance_core.proofs.SquareLemmas.{wide_scale}
use Rattle.planar_core.specs.Squares.{IsLess, IsNoMore, IsSquareOf}
use Rattle.planar_core.proofs.FractionLemmas.{no_more_chain, no_more_less, less_no_more}
use Rattle.nearest_core.specs.Nearest.{IsInReach, IsNearer}
use Rattle.nearest_core.specs.Squares.{square_of}
use Rattle.nearest_core.proofs.SquareLemmas.{square_from}

-- the squared distance of two points, as a fraction
abbrev pub square_between : Point → Point → ℕ × ℕ
square_between p q = (scaled_square p q, scale_of p q)

-- no point of the one set and point of the other are nearer than this
abbrev pub IsFrom : ℕ × ℕ → (Point → Type 0) → (Point → Type 0) → Type 0
IsFrom f P Q = (p q : Point) → 0 < p.w → 0 < q.w → P p → Q q → IsNoMore f (square_between p q)

turned_last : (a b c d : ℕ) → a * b ≤ c * d → a * b ≤ d * c
turned_last a b c d h = omega (arith, h)

turned_first : (a b c d : ℕ) → a * b ≤ c * d → b * a ≤ c * d
turned_first a b c d h = omega (arith, h)

one_last : (a b : ℕ) → a ≤ b → a ≤ b * 1
one_last a b h = omega (arith, h)

one_first : (a b : ℕ) → a ≤ b → a * 1 ≤ b
one_first a b h = omega (arith, h)

less_most : (a b : ℕ) → a * 1 < b → a ≤ b
less_most a b h = omega (arith, h)

pub never_both : (f g : ℕ × ℕ) → IsLess f g → IsNoMore g f → ⊥
never_both f g h k = omega (arith, h, k)

pub less_or_no_more : (f g : ℕ × ℕ) → IsLess f g ⊎ IsNoMore g f
less_or_no_more f g = elim (dec_lt (f.0 * g.1) (g.0 * f.1)) [
  | yes less ↦ inl less
  | no most ↦ inr (omega (arith, most))
]

pub as_no_more : (f g : ℕ × ℕ) → IsLess f g → IsNoMore f g
as_no_more f g h = omega (arith, h)

pub itself : (f : ℕ × ℕ) → IsNoMore f f
itself f = omega arith

module _ (P Q : Point → Type 0) where
  pub from_least : (f : ℕ × ℕ) → IsSquareOf f P Q → IsFrom f P Q
  from_least f is p q wide_p wide_q in_p in_q =
      turned_last f.0 (scale_of p q) f.1 (scaled_square p q) (is.least p q wide_p wide_q in_p in_q)

  pub from_weaker : (f g : ℕ × ℕ) → 0 < g.1 → IsNoMore f g → IsFrom g P Q → IsFrom f P Q
  from_weaker f g wide le from p q wide_p wide_q in_p in_q =
      no_more_chain f g (square_between p q) wide le (from p q wide_p wide_q in_p in_q)

  -- some points are as near as their square says
  pub reached_no_more : (f : ℕ × ℕ) (is : IsSquareOf f P Q) → IsNoMore (square_between is.reached.first is.reached.second) f
  reached_no_more f is = turned_first f.1 (scaled_square is.reached.first is.reached.second) f.0 (scale_of is.reached.first is.reached.second) is.reached.near

  pub from_below : (f g : ℕ × ℕ) → IsFrom f P Q → IsSquareOf g P Q → IsNoMore f g
  from_below f g from is =
      let r = is.reached in
      no_more_chain f (square_between r.first r.second) g (wide_scale r.first r.second r.first_wide r.second_wide)
      (from r.first r.second r.first_wide r.second_wide r.first_in r.second_in) (reached_no_more g is)

-- a geometry is no nearer than its box
pub from_box : {G : Type 0} (box_of : G → Shape) (has_point : G → Point → Type 0) (in_box : (g : G) (p : Point) → 0 < p.w → has_point g p → HasPoint (box_of g) p)
    (g h : G) (n : ℕ) → n ≡ square_of (box_of g) (box_of h) → IsFrom (n, 1) (has_point g) (has_point h)
from_box box_of has_point in_box g h n is p q wide_p wide_q in_p in_q =
    let square = square_from (box_of g) (box_of h) n is in
    one_last (n * scale_of p q) (scaled_square p q) (square.least p q wide_p wide_q (in_box g p wide_p in_p) (in_box h q wide_q in_q))

module _ {G : Type 0} (has_point : G → Point → Type 0) (g : G) where
  -- the points that show that a geometry is nearer are nearer than the square of the other
  below_square : (f : ℕ × ℕ) (near far : G) → 0 < f.1 → IsSquareOf f (has_point g) (has_point far) → (n : IsNearer has_point g near far)
      → IsLess (square_between n.first n.second) f
  below_square f near far wide is n =
      let r = is.reached in
      less_no_more (square_between n.first n.second) (square_between r.first r.second) f wide
      (n.nearer r.first r.second r.first_wide r.second_wide r.first_in r.second_in) (reached_no_more (has_point g) (has_point far) f is)

  pub not_nearer : (f : ℕ × ℕ) (near far : G) → 0 < f.1 → IsSquareOf f (has_point g) (has_point far) → IsFrom f (has_point g) (has_point near)
      → IsNearer has_point g near far → ⊥
  not_nearer f near far wide is from n =
      never_both (square_between n.first n.second) f (below_square f near far wide is n)
      (from n.first n.second n.first_wide n.second_wide n.first_in n.second_in)

  -- what is nearer than a geometry is nearer than one that is no nearer than that
  pub nearer_chain : (f h : ℕ × ℕ) (near far other : G) → 0 < f.1 → 0 < h.1 → IsSquareOf f (has_point g) (has_point far) → IsNoMore f h
      → IsFrom h (has_point g) (has_point other) → IsNearer has_point g near far → IsNearer has_point g near other
  nearer_chain f h near far other wide_f wide_h is le from n = record {
    first = n.first;
    second = n.second;
    first_wide = n.first_wide;
    second_wide = n.second_wide;
    first_in = n.first_in;
    second_in = n.second_in;
    nearer = λ p q wide_p wide_q in_p in_q.
        less_no_more (square_between n.first n.second) f (square_between p q) (wide_scale p q wide_p wide_q)
        (below_square f near far wide_f is n)
        (no_more_chain f h (square_between p q) wide_h le (from p q wide_p wide_q in_p in_q));
  }

  -- by the square of the nearer one
  pub nearer_by : (f h : ℕ × ℕ) (near far : G) → 0 < h.1 → IsSquareOf f (has_point g) (has_point near) → IsLess f h
      → IsFrom h (has_point g) (has_point far) → IsNearer has_point g near far
  nearer_by f h near far wide is less from =
      let r = is.reached in
      record {
        first = r.first;
        second = r.second;
        first_wide = r.first_wide;
        second_wide = r.second_wide;
        first_in = r.first_in;
        second_in = r.second_in;
        nearer = λ p q wide_p wide_q in_p in_q.
            less_no_more (square_between r.first r.second) h (square_between p q) (wide_scale p q wide_p wide_q)
            (no_more_less (square_between r.first r.second) f h (wide_scale r.first r.second r.first_wide r.second_wide)
            (reached_no_more (has_point g) (has_point near) f is) less)
            (from p q wide_p wide_q in_p in_q);
      }

  -- what is nearer is within a distance too
  within_of_nearer : (near far : G) (units : ℕ) → IsNearer has_point g near far → AreWithin units (has_point g) (has_point far)
      → AreWithin units (has_point g) (has_point near)
  within_of_nearer near far units n w =
      let less = n.nearer w.first w.second w.first_wide w.second_wide w.first_in w.second_in in
      let here = less_no_more (square_between n.first n.second) (square_between w.first w.second) (units * units, 1) (omega arith)
      less (one_first (scaled_square w.first w.second) ((units * units) * scale_of w.first w.second) w.near) in
      record {
        first = n.first;
        second = n.second;
        first_wide = n.first_wide;
        second_wide = n.second_wide;
        first_in = n.first_in;
        second_in = n.second_in;
        near = less_most (scaled_square n.first n.second) ((units * units) * scale_of n.first n.second) here;
      }

  pub reach_nearer : (within : Option Distance) (near far : G) → IsNearer has_point g near far → IsInReach has_point within g far
      → IsInReach has_point within g near
  reach_nearer None near far n reach = tt
  reach_nearer (Some d) near far n reach = within_of_nearer near far (units_of d) n reach

  -- what is no nearer than a square that is out of reach is out of reach
  pub out_of_reach : (within : Option Distance) (h : G) (n : ℕ) → IsFrom (n, 1) (has_point g) (has_point h) → ¬ (IsSquareInReach within n)
      → ¬ (IsInReach has_point within g h)
  out_of_reach None h n from far reach = far tt
  out_of_reach (Some d) h n from far w =
      let low = from w.first w.second w.first_wide w.second_wide w.first_in w.second_in in
      far (le_of_mul-le-mul_right {m = n} {n = units_of d * units_of d} {k = scale_of w.first w.second}
      (plain (n * scale_of w.first w.second) (scaled_square w.first w.second) ((units_of d * units_of d) * scale_of w.first w.second) low w.near)
      (wide_scale w.first w.second w.first_wide w.second_wide))
    where
      plain : (a b c : ℕ) → a ≤ b * 1 → b ≤ c → a ≤ c
      plain a b c h k = omega (arith, h, k)
