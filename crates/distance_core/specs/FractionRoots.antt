-- The square root of a fraction, rounded to a whole number.
use Rattle.std.specs.Prelude.{ℕ, ◌+◌, ◌-◌, ◌*◌, ◌≤◌, ◌<◌}

-- the square root of n / d is at least r - 1/2, or r is 0
abbrev pub IsRootFrom : ℕ → ℕ → ℕ → Type 0
IsRootFrom n d r = ((2 * r - 1) * (2 * r - 1)) * d ≤ 4 * n

-- the whole number nearest to the square root of n / d, the greater of two, is r: the root is from
-- r - 1/2, or 0 where r is 0, to below r + 1/2
pub record IsRoundedFractionRoot (n d r : ℕ) : Type 0 where
  pub from : IsRootFrom n d r
  pub below : 4 * n < ((2 * r + 1) * (2 * r + 1)) * d
