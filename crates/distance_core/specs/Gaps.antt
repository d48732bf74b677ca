-- How far two intervals of one axis are apart.
use Rattle.std.specs.Prelude.{◌≡◌, ℕ, ◌*◌, ◌≤◌, ◌<◌, ℤ, nat_abs}
use Rattle.geom_core.specs.declared.span.Span.{Span}
use Rattle.distance_core.specs.Distances.{difference}
use Rattle.distance_core.specs.ShapePoints.{HasNumber}

-- g is the least difference of a number of the one interval and a number of the other: two whole
-- numbers reach it, and no two numbers x / w and y / v are nearer
pub record IsGap (a b : Span) (g : ℕ) : Type 0 where
  pub first : ℤ
  pub second : ℤ
  pub first_in : HasNumber a first 1
  pub second_in : HasNumber b second 1
  pub reached : nat_abs (difference first 1 second 1) ≡ g
  pub least : (x : ℤ) (w : ℕ) (y : ℤ) (v : ℕ) → 0 < w → 0 < v → HasNumber a x w
      → HasNumber b y v → (w * v) * g ≤ nat_abs (difference x w y v)
