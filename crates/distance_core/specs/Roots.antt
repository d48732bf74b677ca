-- The square root, rounded to a whole number.
use Rattle.std.specs.Prelude.{ℕ, ◌+◌, ◌-◌, ◌*◌, ◌≤◌, ◌<◌}

-- the whole number nearest to the square root of n, the greater of two, is r: the root is from
-- r - 1/2, or 0 where r is 0, to below r + 1/2
pub record IsRoundedRoot (n r : ℕ) : Type 0 where
  pub from : (2 * r - 1) * (2 * r - 1) ≤ 4 * n
  pub below : 4 * n < (2 * r + 1) * (2 * r + 1)
