-- The distance of points of the plane with rational coordinates, and of sets of such points, by its
-- square, which is compared over the integers (Euclid; OGC 06-103r4, 6.1.2.4).
use Rattle.std.specs.Prelude.{ℕ, ◌+◌, ◌*◌, ◌≤◌, ◌<◌, ℤ, pos, ◌-ℤ◌, ◌*ℤ◌, nat_abs}
use Rattle.plane_core.specs.Points.{Point}

abbrev pub square : ℤ → ℕ
square z = nat_abs z * nat_abs z

-- the difference of x / w and y / v, times w v
abbrev pub difference : ℤ → ℕ → ℤ → ℕ → ℤ
difference x w y v = x *ℤ pos v -ℤ y *ℤ pos w

-- the squared distance of two points, times the square of the product of their denominators
abbrev pub scaled_square : Point → Point → ℕ
scaled_square p q = square (difference p.x p.w q.x q.w) + square (difference p.y p.w q.y q.w)

-- that square
abbrev pub scale_of : Point → Point → ℕ
scale_of p q = (p.w * q.w) * (p.w * q.w)

-- the squared distance of two points is at most n
abbrev pub IsAtMost : ℕ → Point → Point → Type 0
IsAtMost n p q = scaled_square p q ≤ n * scale_of p q

-- the squared distance of two points is at least n
abbrev pub IsAtLeast : ℕ → Point → Point → Type 0
IsAtLeast n p q = n * scale_of p q ≤ scaled_square p q

-- there are a point of the one set and a point of the other whose squared distance is at most n
pub record ReachWithin (n : ℕ) (P Q : Point → Type 0) : Type 0 where
  pub first : Point
  pub second : Point
  pub first_wide : 0 < first.w
  pub second_wide : 0 < second.w
  pub first_in : P first
  pub second_in : Q second
  pub near : IsAtMost n first second

-- two sets of points are at most d apart: a point of the one and a point of the other are
abbrev pub AreWithin : ℕ → (Point → Type 0) → (Point → Type 0) → Type 0
AreWithin d P Q = ReachWithin (d * d) P Q

-- the least squared distance of a point of the one set and a point of the other is n: two such
-- points reach it, and no two are nearer
pub record IsSquaredDistance (n : ℕ) (P Q : Point → Type 0) : Type 0 where
  pub reached : ReachWithin n P Q
  pub least : (p q : Point) → 0 < p.w → 0 < q.w → P p → Q q → IsAtLeast n p q
