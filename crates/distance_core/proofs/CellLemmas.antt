-- A point is in a closed shape exactly where its cell is, and where it is in the closed geometry.
use Rattle.std.proofs.Common.{◌≡◌, ◌↔◌, ◌<◌, arith, sym, subst, refl, inl, inr}
use Rattle.std.specs.Prelude.{ℤ, ℕ, pos, ◌*ℤ◌, ◌≤ℤ◌, int_le}
use Rattle.std.proofs.lemmas.Int.{ints}
use Rattle.geom_core.specs.declared.span.Span.{Span}
use Rattle.geom_core.specs.declared.shape.Shape.{Shape}
use Rattle.geom_core.specs.Cells.{line, IsWithin, IsInner, Covers}
use Rattle.plane_core.specs.declared.part.Part.{Part}
use Rattle.plane_core.specs.declared.part.Part.TheVariants.{Interior, Boundary, Exterior}
use Rattle.plane_core.specs.Points.{Point}
use Rattle.plane_core.specs.Figures.{Figure, part_of}
use Rattle.agreement_core.specs.Agreement.{LiesAt, IsInCell, IsCellOf, HasPartsOf}
use Rattle.agreement_core.proofs.AxisLemmas.{lies, le_before, le_behind}
use Rattle.agreement_core.proofs.CellLemmas.{has_cell}
use Rattle.distance_core.specs.ShapePoints.{HasNumber, HasPoint, IsPointOf}

as_tested : (a b c d : ℤ) → int_le a b ≡ int_le c d → a ≤ℤ b → c ≤ℤ d
as_tested a b c d same h = grind (arith, ints)

number_of_cell : (s : Span) (z : ℤ) (w : ℕ) (u : ℤ) → 0 < w → LiesAt z w u → HasNumber s z w ↔ IsWithin s u
number_of_cell s z w u wide at =
    let low = le_behind z w u s.lo (lies z w u s.lo wide at) in
    let high = le_before z w u s.hi (lies z w u s.hi wide at) in (
      λ h. (as_tested (pos w *ℤ s.lo) z (line s.lo) u low h.0, as_tested z (pos w *ℤ s.hi) u (line s.hi) high h.1),
      λ h. (as_tested (line s.lo) u (pos w *ℤ s.lo) z (sym low) h.0, as_tested u (line s.hi) z (pos w *ℤ s.hi) (sym high) h.1),
    )

pub points_of_cells : (s : Shape) (p : Point) (u v : ℤ) → IsInCell p u v → HasPoint s p ↔ Covers s u v
points_of_cells s p u v at =
    let along_x = number_of_cell s.x p.x p.w u at.wide at.along_x in
    let along_y = number_of_cell s.y p.y p.w v at.wide at.along_y in
    (λ h. (along_x.0 h.0, along_y.0 h.1), λ h. (along_x.1 h.0, along_y.1 h.1))

inner_within : (s : Span) (u : ℤ) → IsInner s u → IsWithin s u
inner_within s u (inl h) = let low = h.0 in let high = h.1 in (omega (arith, ints, low), omega (arith, ints, high))
inner_within s u (inr h) = let same = h.0 in let at = h.1 in (omega (arith, ints, same, at), omega (arith, ints, same, at))

-- a cell of a part of a shape is covered unless the part is the exterior
covered : (s : Shape) (part : Part) (u v : ℤ) → IsCellOf s part u v → ¬ (part ≡ Exterior) → Covers s u v
covered s Interior u v h not = (inner_within s.x u h.0, inner_within s.y v h.1)
covered s Boundary u v h not = h.0
covered s Exterior u v h not = absurd (not refl)

not_outside : (s : Shape) (part : Part) (u v : ℤ) → IsCellOf s part u v → Covers s u v → ¬ (part ≡ Exterior)
not_outside s part u v h covers is = let I : Part → Type 0 = λ r. IsCellOf s r u v in subst I is h covers

pub points_of_figure : (s : Shape) (g : Figure) (p : Point) → HasPartsOf s g → 0 < p.w → HasPoint s p ↔ IsPointOf g p
points_of_figure s g p has wide =
    let in_x = has_cell p.x p.w wide in
    let in_y = has_cell p.y p.w wide in
    let at : IsInCell p in_x.0 in_y.0 = record { wide = wide; along_x = in_x.1; along_y = in_y.1 } in
    let cells = points_of_cells s p in_x.0 in_y.0 at in
    let parts = has.parts p in_x.0 in_y.0 at in (
      λ h. not_outside s (part_of g p) in_x.0 in_y.0 parts (cells.0 h),
      λ not. cells.1 (covered s (part_of g p) in_x.0 in_y.0 parts not),
    )
