-- The integers next to a rational number, and points above or below both ends of an edge.
use Rattle.std.specs.Prelude.{ℕ, ℤ, pos, ◌*ℤ◌, ◌+ℤ◌, ◌-ℤ◌, ◌≤ℤ◌, ◌<ℤ◌, Bool, ◌&&◌, int_lt}
use Rattle.plane_core.specs.declared.edge.Edge.{Edge}
use Rattle.plane_core.specs.Points.{Point}

-- the greatest integer that isn't above z / w
abbrev pub IsFloor : ℕ → ℤ → ℤ → Type 0
IsFloor w z f = ((pos w *ℤ f) ≤ℤ z) × (z <ℤ (pos w *ℤ (f +ℤ pos 1)))

-- the least integer that isn't below z / w
abbrev pub IsCeiling : ℕ → ℤ → ℤ → Type 0
IsCeiling w z c = (z ≤ℤ (pos w *ℤ c)) × ((pos w *ℤ (c -ℤ pos 1)) <ℤ z)

-- the point is above both ends of the edge
abbrev pub are_above : Edge → Point → Bool
are_above e p = int_lt (pos p.w *ℤ e.a.y) p.y && int_lt (pos p.w *ℤ e.b.y) p.y

-- the point is below both ends of the edge
abbrev pub are_below : Edge → Point → Bool
are_below e p = int_lt p.y (pos p.w *ℤ e.a.y) && int_lt p.y (pos p.w *ℤ e.b.y)
