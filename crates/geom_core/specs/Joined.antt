-- Consequences of the ends of intervals: the joined interval of two is ordered and in range, and
-- a shape is determined by its corners.
use mathlib.Core.HLevel.{is_prop→PathP}
use Rattle.std.proofs.Common.{arith}
use Rattle.std.specs.Prelude.{◌≡◌, ◌≤ℤ◌, pos, neg_ℤ}
use Rattle.std.specs.Int.{int_min, int_max}
use Rattle.std.proofs.lemmas.Int.{ints, clamps}
use Rattle.std.proofs.Props.{props}
use Rattle.geom_core.specs.declared.span.Span.{Span}
use Rattle.geom_core.specs.Limits.{greatest_coordinate}
use Rattle.geom_core.specs.declared.shape.Shape.{Shape}

pub joined_ordered : (a b : Span) → int_min a.lo b.lo ≤ℤ int_max a.hi b.hi
joined_ordered a b = omega (arith, ints, clamps)

pub joined_above : (a b : Span) → neg_ℤ (pos greatest_coordinate) ≤ℤ int_min a.lo b.lo
joined_above a b = omega (arith, ints, clamps)

pub joined_below : (a b : Span) → int_max a.hi b.hi ≤ℤ pos greatest_coordinate
joined_below a b = omega (arith, ints, clamps)

-- an interval is determined by its ends
pub same_ends : (a b : Span) → a.lo ≡ b.lo → a.hi ≡ b.hi → a ≡ b
same_ends a b p q = λ i. record {
  lo = p i;
  hi = q i;
  ordered = is_prop→PathP (λ j. p j ≤ℤ q j) (λ j. hlevel props) a.ordered b.ordered i;
  above = is_prop→PathP
      (λ j. neg_ℤ (pos greatest_coordinate) ≤ℤ p j) (λ j. hlevel props) a.above b.above i;
  below = is_prop→PathP (λ j. q j ≤ℤ pos greatest_coordinate) (λ j. hlevel props) a.below b.below i;
}

-- a shape is determined by its corners
pub same_corners : (s t : Shape) →
    s.x.lo ≡ t.x.lo → s.y.lo ≡ t.y.lo → s.x.hi ≡ t.x.hi → s.y.hi ≡ t.y.hi → s ≡ t
same_corners s t p q r u = λ i. record { x = same_ends s.x t.x p r i; y = same_ends s.y t.y q u i }
