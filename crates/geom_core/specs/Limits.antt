-- The extent of the plane.
use Rattle.std.specs.Prelude.{ℕ, ℤ, pos, ◌≤ℤ◌, neg_ℤ}

-- the greatest absolute value of a coordinate
abbrev pub greatest_coordinate : ℕ
greatest_coordinate = 1000000000000000000

-- the area of the whole plane, in square units, which no shape's area exceeds
abbrev pub greatest_area : ℕ
greatest_area = 4000000000000000000000000000000000000

-- a coordinate within the limit
abbrev pub IsCoordinate : ℤ → Type 0
IsCoordinate c = (neg_ℤ (pos greatest_coordinate) ≤ℤ c) × (c ≤ℤ pos greatest_coordinate)
