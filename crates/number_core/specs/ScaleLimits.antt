-- The limits of numbers: of their decimals, of coordinates, and of the ranges that they may be read
-- in.
use Rattle.std.specs.Prelude.{ℕ, ℤ, ◌*◌, pos, neg_ℤ, ◌≤ℤ◌}
use Rattle.geom_core.specs.Limits.{greatest_coordinate}
use Rattle.number_core.specs.declared.limits.Limits.{Limits}
use Rattle.number_core.specs.declared.limits.Limits.TheVariants.{Boxes, Any}

-- the greatest number of decimals
abbrev pub most_digits : Limits → ℕ
most_digits Boxes = 6
most_digits Any = 15

-- the greatest absolute value of a coordinate, in units: 10^12 for boxes, and for any geometry that
-- of the plane
abbrev pub greatest_units : Limits → ℕ
greatest_units Boxes = 1000000000000
greatest_units Any = greatest_coordinate

-- the greatest distance that may be asked for, in units: no two points are so far apart
abbrev pub greatest_apart : Limits → ℕ
greatest_apart limits = 4 * greatest_units limits

-- a coordinate within these limits, in units
abbrev pub IsWithin : Limits → ℤ → Type 0
IsWithin limits units =
    (neg_ℤ (pos (greatest_units limits)) ≤ℤ units) × (units ≤ℤ pos (greatest_units limits))

-- the greatest number of units that a range may allow: no two points of the plane are so far apart
abbrev pub greatest_range : ℕ
greatest_range = 4000000000000000000
