-- A small condition on two numbers.
use Rattle.std.specs.Prelude.{◌≡◌, ℕ, ◌+◌, ◌%◌, ◌<◌}

-- the numbers differ by less than 3
abbrev pub AreClose : ℕ → ℕ → Type 0
AreClose left right = (left < right + 3) × (right < left + 3)

-- the numbers differ by less than 3, and their sum is even
abbrev pub HaveEvenSum : ℕ → ℕ → Type 0
HaveEvenSum left right = AreClose left right × ((left + right) % 2 ≡ 0)
