-- The corners of a shape, and what they determine.
use Rattle.std.specs.Prelude.{◌≡◌, ℕ, ◌+◌, ◌*◌, ℤ, ◌-ℤ◌, ◌≤ℤ◌, nat_abs, int_lt, if◌then◌else◌}
use Rattle.std.specs.Int.{int_min, int_max}
use Rattle.geom_core.specs.declared.span.Span.{Span}
use Rattle.geom_core.specs.declared.shape.Shape.{Shape}
pub use Rattle.geom_core.specs.Limits.{greatest_coordinate, greatest_area, IsCoordinate}
use Rattle.geom_core.specs.Joined.{joined_ordered, joined_above, joined_below}

abbrev pub x1 : Shape → ℤ
x1 s = s.x.lo

abbrev pub y1 : Shape → ℤ
y1 s = s.y.lo

abbrev pub x2 : Shape → ℤ
x2 s = s.x.hi

abbrev pub y2 : Shape → ℤ
y2 s = s.y.hi

-- ends of an interval: in range and in order
pub record AreEnds (a b : ℤ) : Type 0 where
  pub ordered : a ≤ℤ b
  pub first : IsCoordinate a
  pub second : IsCoordinate b

-- corners of a shape: in range, and no coordinate of the first is greater than that of the second
pub record AreCorners (a b c d : ℤ) : Type 0 where
  pub along_x : a ≤ℤ c
  pub along_y : b ≤ℤ d
  pub first_x : IsCoordinate a
  pub first_y : IsCoordinate b
  pub second_x : IsCoordinate c
  pub second_y : IsCoordinate d

-- the shape from (a, b) to (c, d)
pub record HasCorners (a b c d : ℤ) (s : Shape) : Type 0 where
  pub first_x : x1 s ≡ a
  pub first_y : y1 s ≡ b
  pub second_x : x2 s ≡ c
  pub second_y : y2 s ≡ d

-- width times height
abbrev pub area_of : Shape → ℕ
area_of s = nat_abs (x2 s -ℤ x1 s) * nat_abs (y2 s -ℤ y1 s)

-- the interval from the lesser of two starts to the greater of two ends
abbrev pub joined : Span → Span → Span
joined a b = record {
  lo = int_min a.lo b.lo;
  hi = int_max a.hi b.hi;
  ordered = joined_ordered a b;
  above = joined_above a b;
  below = joined_below a b;
}

-- the shape from the least corner of two shapes to the greatest
abbrev pub cover_of : Shape → Shape → Shape
cover_of a b = record { x = joined a.x b.x; y = joined a.y b.y }

-- the dimension of an interval: 1 if its ends differ, otherwise 0
abbrev pub span_dim : Span → ℕ
span_dim s = if int_lt s.lo s.hi then 1 else 0

-- the dimension of a shape: the number of axes along which it has a positive length
abbrev pub dim_of : Shape → ℕ
dim_of s = span_dim s.x + span_dim s.y
