-- The distance of two features, as a field of a report.
use Rattle.std.specs.Prelude.{◌≡◌, ◌<◌, ◌^◌, ◌++◌, ℕ, List, pos}
use Rattle.number_core.specs.declared.scale.Scale.{Scale}
use Rattle.number_core.specs.CanonicalNumbers.{number}
use Rattle.plane_core.specs.Points.{Point}
use Rattle.distance_core.specs.FractionRoots.{IsRoundedFractionRoot}
use Rattle.layer_core.specs.Layers.{Contents}
use Rattle.filter_core.specs.Joins.{StandIn}
use Rattle.refine_core.specs.declared.refined.Refined.{Refined}
use Rattle.planar_core.specs.Squares.{IsSquareOf}

-- the squared distance of two geometries that have these points
abbrev pub HaveSquare : {G S : Type 0} → (S → ℕ × ℕ) → (G → Point → Type 0) → S → G → G → Type 0
HaveSquare fraction has_point square g h =
    IsSquareOf (fraction square) (has_point g) (has_point h)

-- the answer is the squared distance of the two features' geometries
abbrev pub HasSquare : {G S : Type 0} → (S → ℕ × ℕ) → (G → Point → Type 0) → Contents G
    → Contents G → Refined S → Type 0
HasSquare fraction has_point left right found =
    StandIn (HaveSquare fraction has_point found.answer) left right found.pair

-- the distance of the two geometries, rounded to the nearest unit of the scale, and printed as
-- coordinates are
pub record IsDistanceText {G : Type 0} (has_point : G → Point → Type 0) (scale : Scale) (g h : G)
    (text : List ℕ) : Type 0 where
  pub square : ℕ × ℕ
  pub units : ℕ
  pub is_square : IsSquareOf square (has_point g) (has_point h)
  pub rounded : IsRoundedFractionRoot square.0 square.1 units
  pub printed : text ≡ number scale (pos units)

-- a text gains the root of a squared distance, rounded and printed so
pub record AddsDistance (scale : Scale) (square : ℕ × ℕ) (old new : List ℕ) : Type 0 where
  pub units : ℕ
  pub few : units < 2 ^ 64
  pub rounded : IsRoundedFractionRoot square.0 square.1 units
  pub grown : new ≡ old ++ number scale (pos units)
