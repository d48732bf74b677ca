-- Squared distances of sets of points, as fractions of whole numbers.
use Rattle.std.specs.Prelude.{◌≡◌, ℕ, ◌*◌, ◌≤◌, ◌<◌, true}
use Rattle.wide_core.specs.Wides.{value_of}
use Rattle.plane_core.specs.declared.vertex.Vertex.{Vertex}
use Rattle.plane_core.specs.declared.edge.Edge.{Edge}
use Rattle.plane_core.specs.Points.{Point, is_at, is_on}
use Rattle.distance_core.specs.Distances.{scaled_square, scale_of}
use Rattle.distance_core.specs.declared.fraction.SquaredFraction.{SquaredFraction}

-- the squared distance of two points is at most n / d
abbrev pub IsNoFarther : ℕ → ℕ → Point → Point → Type 0
IsNoFarther n d p q = d * scaled_square p q ≤ n * scale_of p q

-- the squared distance of two points is at least n / d
abbrev pub IsNoNearer : ℕ → ℕ → Point → Point → Type 0
IsNoNearer n d p q = n * scale_of p q ≤ d * scaled_square p q

-- there are a point of the one set and a point of the other whose squared distance is at most n / d
pub record ReachFraction (n d : ℕ) (P Q : Point → Type 0) : Type 0 where
  pub first : Point
  pub second : Point
  pub first_wide : 0 < first.w
  pub second_wide : 0 < second.w
  pub first_in : P first
  pub second_in : Q second
  pub near : IsNoFarther n d first second

-- the least squared distance of a point of the one set and a point of the other is n / d: two such
-- points reach it, and no two are nearer
pub record IsLeastFraction (n d : ℕ) (P Q : Point → Type 0) : Type 0 where
  pub reached : ReachFraction n d P Q
  pub least : (p q : Point) → 0 < p.w → 0 < q.w → P p → Q q → IsNoNearer n d p q

abbrev pub numerator_of : SquaredFraction → ℕ
numerator_of f = value_of f.numerator

-- the first fraction is at most the second
abbrev pub IsNoMore : SquaredFraction → SquaredFraction → Type 0
IsNoMore f g = numerator_of f * g.denominator ≤ numerator_of g * f.denominator

-- the least squared distance of two sets of points
abbrev pub IsSquareOf : SquaredFraction → (Point → Type 0) → (Point → Type 0) → Type 0
IsSquareOf f P Q = IsLeastFraction (numerator_of f) f.denominator P Q

-- the point is the vertex
abbrev pub IsAtVertex : Vertex → Point → Type 0
IsAtVertex v p = is_at v p ≡ true

-- the point is on the edge, including its ends
abbrev pub IsOnEdge : Edge → Point → Type 0
IsOnEdge e p = is_on e p ≡ true
