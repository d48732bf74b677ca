-- The box of a geometry, grown by half of a distance.
use Rattle.std.proofs.Common.{arith}
use Rattle.std.specs.Prelude.{ℕ, ◌+◌, ◌/◌, ℤ, pos, neg_ℤ, ◌+ℤ◌, ◌-ℤ◌, ◌≤ℤ◌}
use Rattle.std.specs.Int.{int_min, int_max}
use Rattle.std.proofs.lemmas.Int.{ints, clamps}
use Rattle.geom_core.specs.declared.span.Span.{Span}
use Rattle.geom_core.specs.declared.shape.Shape.{Shape}
use Rattle.geom_core.specs.Limits.{greatest_coordinate}
use Rattle.distance_core.specs.declared.distance.Distance.{Distance}
use Rattle.distance_core.specs.Units.{units_of}
use Rattle.near_core.specs.declared.grown.Grown.{Grown}

-- the least and the greatest coordinate
abbrev pub least : ℤ
least = neg_ℤ (pos greatest_coordinate)

abbrev pub greatest : ℤ
greatest = pos greatest_coordinate

-- the ends of an interval, moved outwards as far as the plane goes
abbrev pub lower : ℕ → Span → ℤ
lower by s = int_max (s.lo -ℤ pos by) least

abbrev pub upper : ℕ → Span → ℤ
upper by s = int_min (s.hi +ℤ pos by) greatest

pub grown_ordered : (by : ℕ) (s : Span) → lower by s ≤ℤ upper by s
grown_ordered by s = omega (arith, ints, clamps)

pub grown_above : (by : ℕ) (s : Span) → least ≤ℤ lower by s
grown_above by s = omega (arith, ints, clamps)

pub grown_below : (by : ℕ) (s : Span) → upper by s ≤ℤ greatest
grown_below by s = omega (arith, ints, clamps)

-- the interval between them
abbrev pub grown : ℕ → Span → Span
grown by s = record {
  lo = lower by s;
  hi = upper by s;
  ordered = grown_ordered by s;
  above = grown_above by s;
  below = grown_below by s;
}

-- half of a distance, rounded up
abbrev pub growth_of : Distance → ℕ
growth_of distance = (units_of distance + 1) / 2

-- a shape, grown by that along both axes
abbrev pub grown_shape : Distance → Shape → Shape
grown_shape distance s =
    record { x = grown (growth_of distance) s.x; y = grown (growth_of distance) s.y }

-- the box of a geometry, grown by half of its distance
abbrev pub grown_box : {G : Type 0} → (G → Shape) → Grown G → Shape
grown_box box_of g = grown_shape g.distance (box_of g.geometry)
