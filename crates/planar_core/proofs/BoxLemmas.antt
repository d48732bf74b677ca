-- The squared distance of two boxes, a whole number, as a fraction.
use Rattle.std.proofs.Common.{◌≡◌, ◌↔◌, ℕ, ◌*◌, ◌≤◌, arith, refl}
use Rattle.std.specs.Prelude.{Some, None, IsSome}
use Rattle.plane_core.specs.Points.{Point}
use Rattle.distance_core.specs.Distances.{AreWithin, IsSquaredDistance}
use Rattle.distance_core.specs.Fractions.{IsLeastFraction}
use Rattle.distance_core.specs.Roots.{IsRoundedRoot}
use Rattle.distance_core.specs.FractionRoots.{IsRoundedFractionRoot}
use Rattle.distance_core.proofs.SquareLemmas.{square_from_within, within_from_square}

pub as_fraction : (P Q : Point → Type 0) (n : ℕ) → IsSquaredDistance n P Q → IsLeastFraction n 1 P Q
as_fraction P Q n is = record {
  reached = record {
    first = is.reached.first;
    second = is.reached.second;
    first_wide = is.reached.first_wide;
    second_wide = is.reached.second_wide;
    first_in = is.reached.first_in;
    second_in = is.reached.second_in;
    near = let near = is.reached.near in omega (arith, near);
  };
  least = λ p q wide_p wide_q in_p in_q. let least = is.least p q wide_p wide_q in_p in_q in omega (arith, least);
}

pub from_fraction : (P Q : Point → Type 0) (n : ℕ) → IsLeastFraction n 1 P Q → IsSquaredDistance n P Q
from_fraction P Q n is = record {
  reached = record {
    first = is.reached.first;
    second = is.reached.second;
    first_wide = is.reached.first_wide;
    second_wide = is.reached.second_wide;
    first_in = is.reached.first_in;
    second_in = is.reached.second_in;
    near = let near = is.reached.near in omega (arith, near);
  };
  least = λ p q wide_p wide_q in_p in_q. let least = is.least p q wide_p wide_q in_p in_q in omega (arith, least);
}

-- and its root as that of a fraction
pub as_root : (n r : ℕ) → IsRoundedRoot n r → IsRoundedFractionRoot n 1 r
as_root n r is = record {
  from = let from = is.from in omega (arith, from);
  below = let below = is.below in omega (arith, below);
}

never : IsSome {T = ℕ} None → ⊥
never h = cc

module _ (P Q : Point → Type 0) (n d k : ℕ) (same : k ≡ d) (is : IsSquaredDistance n P Q) where
  -- a square that is at most that of a distance
  pub found_near : n ≤ k * k → IsSome (Some n) ↔ AreWithin d P Q
  found_near few = (λ some. within_from_square P Q n d is (rw (← same) few), λ within. refl)

  -- one that is greater
  pub none_near : ¬ (n ≤ k * k) → IsSome {T = ℕ} None ↔ AreWithin d P Q
  none_near many = (λ some. absurd (never some), λ within. absurd (many (rw same (square_from_within P Q n d is within))))
