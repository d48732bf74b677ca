-- The limits of distances.
use Rattle.std.specs.Prelude.{ℕ}

-- the greatest distance that may be asked for, in units: twice the side of the plane
abbrev pub greatest_distance : ℕ
greatest_distance = 4000000000000000000

-- the side of the plane, which no two intervals of an axis are further apart
abbrev pub greatest_gap : ℕ
greatest_gap = 2000000000000000000

-- the square of the diagonal of the plane, which no two shapes are further apart
abbrev pub greatest_square : ℕ
greatest_square = 8000000000000000000000000000000000000
