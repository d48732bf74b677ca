-- The squared distance of two sets of points, as a numerator and a denominator, and when two sets
-- share no point.
use Rattle.std.proofs.Common.{arith}
use Rattle.std.specs.Prelude.{◌≡◌, ℕ, ◌*◌, ◌<◌, ◌≤◌}
use Rattle.std.specs.Ordering.{nat_cmp}
use Rattle.std.specs.declared.cmp.Ordering.{Ordering}
use Rattle.plane_core.specs.Points.{Point}
use Rattle.plane_core.specs.PlaneMatrices.{SharePoint}
use Rattle.distance_core.specs.declared.fraction.SquaredFraction.{SquaredFraction}
use Rattle.distance_core.specs.Fractions.{IsLeastFraction, numerator_of}

-- the fraction is the least squared distance of a point of the one set and a point of the other
abbrev pub IsSquareOf : ℕ × ℕ → (Point → Type 0) → (Point → Type 0) → Type 0
IsSquareOf fraction P Q = IsLeastFraction fraction.0 fraction.1 P Q

-- a whole number, as a fraction
abbrev pub whole : ℕ → ℕ × ℕ
whole n = (n, 1)

-- the square of a distance, which is a fraction
abbrev pub fraction_of : SquaredFraction → ℕ × ℕ
fraction_of square = (numerator_of square, square.denominator)

-- of two fractions the first is less than the second
abbrev pub IsLess : ℕ × ℕ → ℕ × ℕ → Type 0
IsLess f g = f.0 * g.1 < g.0 * f.1

-- the two fractions are one number
abbrev pub IsEqual : ℕ × ℕ → ℕ × ℕ → Type 0
IsEqual f g = f.0 * g.1 ≡ g.0 * f.1

-- the first is at most the second
abbrev pub IsNoMore : ℕ × ℕ → ℕ × ℕ → Type 0
IsNoMore f g = f.0 * g.1 ≤ g.0 * f.1

abbrev pub order_of : ℕ × ℕ → ℕ × ℕ → Ordering
order_of f g = nat_cmp (f.0 * g.1) (g.0 * f.1)

-- no point is in both sets
abbrev pub AreApart : (Point → Type 0) → (Point → Type 0) → Type 0
AreApart P Q = ¬ (SharePoint (λ p. P p × Q p))

pub one_is_some : 0 < 1
one_is_some = omega arith
