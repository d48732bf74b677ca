-- The matrix of two geometries: for each two of their parts, whether their intersection contains
-- all points of a triangle, or else of a segment, or else a point (OGC 06-103r4, 6.1.15).
use Rattle.std.specs.Prelude.{◌≡◌, ℕ, ◌+◌, ◌<◌, pos}
use Rattle.relation_core.specs.declared.extent.Extent.{Extent}
use Rattle.relation_core.specs.declared.extent.Extent.TheVariants.{Empty, Point as Dot, Line, Area}
use Rattle.relation_core.specs.declared.part.Parts.{Parts}
use Rattle.relation_core.specs.declared.matrix.Matrix.{Matrix}
use Rattle.plane_core.specs.declared.part.Part.{Part}
use Rattle.plane_core.specs.declared.part.Part.TheVariants.{Interior, Boundary, Exterior}
use Rattle.plane_core.specs.Points.{Point, IsSamePlace, mix, turn}
use Rattle.plane_core.specs.Figures.{Figure, part_of}

-- the point is in these parts of the two
pub record IsInBoth (g h : Figure) (i j : Part) (p : Point) : Type 0 where
  pub first : part_of g p ≡ i
  pub second : part_of h p ≡ j

abbrev pub SharePoint : (Point → Type 0) → Type 0
SharePoint P = (p : Point) × (0 < p.w) × P p

abbrev pub ShareSegment : (Point → Type 0) → Type 0
ShareSegment P =
    (p : Point) × (q : Point) × (0 < p.w) × (0 < q.w) × ¬ (IsSamePlace p q)
    × ((s t : ℕ) → 0 < s + t → P (mix s p t q))

abbrev pub ShareTriangle : (Point → Type 0) → Type 0
ShareTriangle P =
    (p : Point) × (q : Point) × (r : Point) × (0 < p.w) × (0 < q.w) × (0 < r.w)
    × ¬ (turn p q r ≡ pos 0) × ((s t u : ℕ) → 0 < s + t + u → P (mix 1 (mix s p t q) u r))

-- the greatest dimension of the intersection
abbrev pub IsEntry : (Point → Type 0) → Extent → Type 0
IsEntry P Empty = ¬ (SharePoint P)
IsEntry P Dot = SharePoint P × ¬ (ShareSegment P)
IsEntry P Line = ShareSegment P × ¬ (ShareTriangle P)
IsEntry P Area = ShareTriangle P

abbrev pub pick : {A : Type 0} → Part → Parts A → A
pick Interior parts = parts.interior
pick Boundary parts = parts.boundary
pick Exterior parts = parts.exterior

abbrev pub entry : Matrix → Part → Part → Extent
entry m i j = pick j (pick i m.rows)

-- each of the nine entries
pub record IsPlaneMatrix (g h : Figure) (m : Matrix) : Type 0 where
  pub is : (i j : Part) → IsEntry (IsInBoth g h i j) (entry m i j)
