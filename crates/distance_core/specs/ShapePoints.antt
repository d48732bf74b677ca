-- The points of the plane that are in a closed shape or a closed geometry.
use Rattle.std.specs.Prelude.{◌≡◌, ℕ, ℤ, pos, ◌*ℤ◌, ◌≤ℤ◌}
use Rattle.geom_core.specs.declared.span.Span.{Span}
use Rattle.geom_core.specs.declared.shape.Shape.{Shape}
use Rattle.plane_core.specs.declared.part.Part.TheVariants.{Exterior}
use Rattle.plane_core.specs.Points.{Point}
use Rattle.plane_core.specs.Figures.{Figure, part_of}

-- the number z / w is in the closed interval
abbrev pub HasNumber : Span → ℤ → ℕ → Type 0
HasNumber s z w = ((pos w *ℤ s.lo) ≤ℤ z) × (z ≤ℤ (pos w *ℤ s.hi))

-- the point is in the closed shape: between its corners along both axes
abbrev pub HasPoint : Shape → Point → Type 0
HasPoint s p = HasNumber s.x p.x p.w × HasNumber s.y p.y p.w

-- the point is in the interior or on the boundary of the geometry
abbrev pub IsPointOf : Figure → Point → Type 0
IsPointOf g p = ¬ (part_of g p ≡ Exterior)
