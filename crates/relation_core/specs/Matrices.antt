-- The matrix of two shapes: for each two of their parts, the greatest dimension of the cells that
-- are in both.
use Rattle.std.specs.Prelude.{◌≡◌, ◌≤◌, ℕ, ℤ, List, [], ◌∷◌}
use Rattle.geom_core.specs.declared.shape.Shape.{Shape}
use Rattle.relation_core.specs.declared.part.Parts.{Parts}
use Rattle.relation_core.specs.declared.extent.Extent.{Extent}
use Rattle.relation_core.specs.declared.extent.Extent.TheVariants.{Empty, Point, Line, Area}
use Rattle.relation_core.specs.declared.matrix.Matrix.{Matrix}
use Rattle.geom_core.specs.Cells.{cell_dim, Covers, IsInterior}

-- the boundary: the cells of the closed shape that are not in the interior
abbrev pub IsBoundary : Shape → ℤ → ℤ → Type 0
IsBoundary s u v = Covers s u v × ¬ (IsInterior s u v)

-- the exterior: the cells that the closed shape doesn't cover
abbrev pub IsExterior : Shape → ℤ → ℤ → Type 0
IsExterior s u v = ¬ (Covers s u v)

-- d is the greatest dimension of the cells in both parts
pub record IsGreatest (P Q : ℤ → ℤ → Type 0) (d : ℕ) : Type 0 where
  pub reached : (u : ℤ) × (v : ℤ) × P u v × Q u v × (cell_dim u v ≡ d)
  pub bound : (u v : ℤ) → P u v → Q u v → cell_dim u v ≤ d

-- the dimension of the intersection of two parts
abbrev pub IsExtent : (ℤ → ℤ → Type 0) → (ℤ → ℤ → Type 0) → Extent → Type 0
IsExtent P Q Empty = (u v : ℤ) → P u v → Q u v → ⊥
IsExtent P Q Point = IsGreatest P Q 0
IsExtent P Q Line = IsGreatest P Q 1
IsExtent P Q Area = IsGreatest P Q 2

-- the intersections of a part of the first shape with each part of the second
pub record IsRow (P : ℤ → ℤ → Type 0) (b : Shape) (row : Parts Extent) : Type 0 where
  pub interior : IsExtent P (IsInterior b) row.interior
  pub boundary : IsExtent P (IsBoundary b) row.boundary
  pub exterior : IsExtent P (IsExterior b) row.exterior

pub record IsMatrix (a b : Shape) (m : Matrix) : Type 0 where
  pub interior : IsRow (IsInterior a) b m.rows.interior
  pub boundary : IsRow (IsBoundary a) b m.rows.boundary
  pub exterior : IsRow (IsExterior a) b m.rows.exterior

abbrev pub letter_of : Extent → ℕ
letter_of Empty = 70  -- F
letter_of Point = 48  -- 0
letter_of Line = 49  -- 1
letter_of Area = 50  -- 2

abbrev pub row_letters : Parts Extent → List ℕ → List ℕ
row_letters row rest =
    letter_of row.interior ∷ letter_of row.boundary ∷ letter_of row.exterior ∷ rest

-- the nine letters, row by row
abbrev pub letters_of : Matrix → List ℕ
letters_of m =
    row_letters m.rows.interior
    (row_letters m.rows.boundary (row_letters m.rows.exterior []))
