-- The plane as cells, and the cells that a shape covers.
-- A cell is a pair of integers (u, v). An even number is a grid line, an odd one the open gap
-- between two lines.
use Rattle.std.specs.Prelude.{◌≡◌, ℕ, ◌+◌, ◌%◌, ℤ, pos, negsuc, ◌+ℤ◌, ◌≤ℤ◌, ◌<ℤ◌, ◌⊎◌}
use Rattle.geom_core.specs.declared.span.Span.{Span}
use Rattle.geom_core.specs.declared.shape.Shape.{Shape}

-- the number of a grid line among lines and gaps
abbrev pub line : ℤ → ℤ
line c = c +ℤ c

-- 0 for a line, 1 for a gap
abbrev pub parity : ℤ → ℕ
parity (pos n) = n % 2
parity (negsuc n) = (n + 1) % 2

-- the dimension of a cell: the number of its gaps
abbrev pub cell_dim : ℤ → ℤ → ℕ
cell_dim u v = parity u + parity v

-- the line or gap is in the closed interval
abbrev pub IsWithin : Span → ℤ → Type 0
IsWithin s u = (line s.lo ≤ℤ u) × (u ≤ℤ line s.hi)

-- the line or gap is strictly between the two ends, or equals both if they are the same
abbrev pub IsInner : Span → ℤ → Type 0
IsInner s u = ((line s.lo <ℤ u) × (u <ℤ line s.hi)) ⊎ ((s.lo ≡ s.hi) × (u ≡ line s.lo))

-- a cell of the closed shape
abbrev pub Covers : Shape → ℤ → ℤ → Type 0
Covers s u v = IsWithin s.x u × IsWithin s.y v

-- the interior: the cells that are inner on both axes
abbrev pub IsInterior : Shape → ℤ → ℤ → Type 0
IsInterior s u v = IsInner s.x u × IsInner s.y v

-- some cell is in both closed shapes
abbrev pub Meets : Shape → Shape → Type 0
Meets a b = (u : ℤ) × (v : ℤ) × Covers a u v × Covers b u v

-- each cell of the first closed shape is a cell of the second
abbrev pub IsIn : Shape → Shape → Type 0
IsIn a b = (u v : ℤ) → Covers a u v → Covers b u v
