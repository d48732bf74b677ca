-- What an edge in one part of the other geometry can add to a matrix.
use Rattle.std.specs.Prelude.{◌≡◌, ◌≢◌, ◌≤◌, ◌<◌, pos, Bool, true, false, not, All}
use Rattle.std.specs.List.{list_all}
use Rattle.geom_core.specs.declared.shape.Shape.{Shape}
use Rattle.relation_core.specs.declared.extent.Extent.TheVariants.{Line, Area}
use Rattle.relation_core.specs.declared.part.Parts.{Parts}
use Rattle.relation_core.specs.declared.matrix.Matrix.{Matrix}
use Rattle.plane_core.specs.declared.part.Part.{Part}
use Rattle.plane_core.specs.declared.part.Part.TheVariants.{Exterior}
use Rattle.plane_core.specs.declared.edge.Edge.{Edge}
use Rattle.plane_core.specs.declared.outline.Kind.{Kind}
use Rattle.plane_core.specs.declared.outline.Kind.TheVariants.{Points as Dots}
use Rattle.plane_core.specs.declared.outline.Kind.TheVariants.{Lines as Polylines, Areas as Rings}
use Rattle.plane_core.specs.declared.outline.Outline.{Outline}
use Rattle.plane_core.specs.Points.{Point, at, run, is_on}
use Rattle.plane_core.specs.Figures.{Figure, IsGeometry}
use Rattle.plane_core.specs.Outlines.{IsOutlineOf}
use Rattle.plane_core.specs.Vertices.{HoldsVertex, vertices_of}
use Rattle.plane_core.specs.PlaneMatrices.{pick}
use Rattle.edge_index_core.specs.Beyond.{is_beyond}
use Rattle.noding_core.specs.Marks.{rank}
use Rattle.noding_core.specs.Growth.{transposed}
use Rattle.shown_core.specs.Shown.{AreShown, parts_above, is_odd_end}

-- the edge isn't entirely on one side of a box
abbrev pub is_around : Shape → Edge → Bool
is_around s e = not (is_beyond s e)

-- the outline of a geometry all of whose vertices lie in the box
pub record IsBounded (o : Outline) (s : Shape) : Type 0 where
  pub figure : Figure
  pub geometry : IsGeometry figure
  pub outline : IsOutlineOf figure o
  pub box : All (HoldsVertex s) (vertices_of figure)

-- no polyline ends on the edge
abbrev pub has_no_end : Outline → Edge → Bool
has_no_end o e = list_all (λ v. not (is_on e (at v))) o.ends.items

-- the part in which the points of an edge lie, except where polylines end
abbrev pub parts_along : Kind → Parts Bool
parts_along Dots = record { interior = true; boundary = true; exterior = true }
parts_along Polylines = record { interior = true; boundary = false; exterior = false }
parts_along Rings = record { interior = false; boundary = true; exterior = false }

-- the matrix has all that an edge can show of a part of the other geometry
pub record IsEdgeShown (m : Matrix) (own : Outline) (part : Part) (e : Edge) : Type 0 where
  pub pieces : AreShown (pick part (transposed m).rows) (parts_along own.kind) Line
  pub faces : run e ≢ pos 0 → AreShown (pick part (transposed m).rows) (parts_above own.kind) Area
  pub free : own.kind ≡ Polylines → has_no_end own e ≡ true

-- the matrix has all that edges beyond a box of the other geometry can show
pub record IsOuterShown (m : Matrix) (own : Outline) (s : Shape) : Type 0 where
  pub pieces : AreShown (pick Exterior (transposed m).rows) (parts_along own.kind) Line
  pub faces : AreShown (pick Exterior (transposed m).rows) (parts_above own.kind) Area
  pub ends : own.kind ≡ Polylines → (e : Edge) (p : Point) → is_beyond s e ≡ true → 0 < p.w
      → is_on e p ≡ true → is_odd_end own p ≡ true
      → 1 ≤ rank (pick Exterior (transposed m).rows).boundary
