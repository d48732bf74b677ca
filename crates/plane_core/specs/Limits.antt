-- The limits of the numbers of a place.
use Rattle.std.specs.Prelude.{ℕ}
pub use Rattle.geom_core.specs.Limits.{greatest_coordinate, IsCoordinate}

-- twice the product of two differences of coordinates, which no cross product of two edges exceeds
abbrev pub greatest_turn : ℕ
greatest_turn = 8000000000000000000000000000000000000

-- twice that, which the denominator of the mediant of two nodes doesn't exceed
abbrev pub greatest_width : ℕ
greatest_width = 16000000000000000000000000000000000000
