-- The cell of the grid that contains a point of the plane, and geometries with a shape's parts.
use Rattle.std.specs.Prelude.{◌≡◌, ℕ, ◌<◌, ℤ, pos, ◌+ℤ◌, ◌*ℤ◌, ◌<ℤ◌}
use Rattle.geom_core.specs.declared.shape.Shape.{Shape}
use Rattle.geom_core.specs.Cells.{line, IsInterior}
use Rattle.relation_core.specs.Matrices.{IsBoundary, IsExterior}
use Rattle.plane_core.specs.declared.part.Part.{Part}
use Rattle.plane_core.specs.declared.part.Part.TheVariants.{Interior, Boundary, Exterior}
use Rattle.plane_core.specs.Points.{Point}
use Rattle.plane_core.specs.Figures.{Figure, part_of}

-- the number z / w is on the grid line u, or in the gap u
pub data LiesAt (z : ℤ) (w : ℕ) (u : ℤ) : Type 0 where
  OnLine : (k : ℤ) → u ≡ line k → z ≡ pos w *ℤ k → LiesAt z w u
  InGap : (k : ℤ) → u ≡ line k +ℤ pos 1 → (pos w *ℤ k) <ℤ z → z <ℤ (pos w *ℤ k +ℤ pos w)
      → LiesAt z w u

-- the point is in the cell
pub record IsInCell (p : Point) (u v : ℤ) : Type 0 where
  pub wide : 0 < p.w
  pub along_x : LiesAt p.x p.w u
  pub along_y : LiesAt p.y p.w v

-- the cells of a part of a shape
abbrev pub IsCellOf : Shape → Part → ℤ → ℤ → Type 0
IsCellOf s Interior u v = IsInterior s u v
IsCellOf s Boundary u v = IsBoundary s u v
IsCellOf s Exterior u v = IsExterior s u v

-- each point is in the part of the geometry in which the shape has the point's cell
pub record HasPartsOf (s : Shape) (g : Figure) : Type 0 where
  pub parts : (p : Point) (u v : ℤ) → IsInCell p u v → IsCellOf s (part_of g p) u v
