-- The whole numbers next to the quotient z / w.
use Rattle.std.specs.Prelude.{ℕ, ◌+◌, ◌*◌, ◌≤◌, ◌<◌}

-- the greatest that isn't above it
abbrev pub IsFloor : ℕ → ℕ → ℕ → Type 0
IsFloor z w f = (w * f ≤ z) × (z < w * (f + 1))

-- the least that isn't below it
abbrev pub IsCeiling : ℕ → ℕ → ℕ → Type 0
IsCeiling z w k = (z ≤ w * k) × (w * k < z + w)
