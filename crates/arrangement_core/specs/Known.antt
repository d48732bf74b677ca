-- What a matrix has of an edge, whichever parts of the other geometry the edge passes.
use Rattle.std.specs.Prelude.{◌≡◌, ◌≢◌, Bool, true, false, ◌||◌, List}
use Rattle.std.specs.List.{list_any}
use Rattle.relation_core.specs.declared.extent.Extent.TheVariants.{Point as Dot, Line, Area}
use Rattle.relation_core.specs.declared.part.Parts.{Parts}
use Rattle.relation_core.specs.declared.matrix.Matrix.{Matrix}
use Rattle.plane_core.specs.declared.part.Part.{Part}
use Rattle.plane_core.specs.declared.part.Part.TheVariants.{Interior, Boundary, Exterior}
use Rattle.plane_core.specs.declared.edge.Edge.{Edge}
use Rattle.plane_core.specs.declared.outline.Kind.{Kind}
use Rattle.plane_core.specs.declared.outline.Kind.TheVariants.{Points as Dots}
use Rattle.plane_core.specs.declared.outline.Kind.TheVariants.{Lines as Polylines, Areas as Rings}
use Rattle.plane_core.specs.declared.outline.Outline.{Outline}
use Rattle.plane_core.specs.Points.{at, is_on}
use Rattle.plane_core.specs.PlaneMatrices.{pick, entry}
use Rattle.shown_core.specs.Beyond.{has_no_end}
use Rattle.shown_core.specs.Shown.{AreShown, IsFaceShown}

-- the part in which the points of an edge lie at which no polyline ends
abbrev pub part_along : Kind → Part
part_along Dots = Interior
part_along Polylines = Interior
part_along Rings = Boundary

-- an end of an edge of the other geometry is on the edge
abbrev pub is_touched : Edge → List Edge → Bool
is_touched e near = list_any (λ f. is_on e (at f.a) || is_on e (at f.b)) near

-- the parts of the other geometry in which a point of an edge may lie, by whether it is touched
abbrev pub parts_met : Kind → Bool → Parts Bool
parts_met Dots touched = record { interior = true; boundary = touched; exterior = true }
parts_met Polylines touched = record { interior = true; boundary = touched; exterior = true }
parts_met Rings touched = record { interior = true; boundary = true; exterior = true }

-- and those in which a piece of an edge may lie that runs along none of the other geometry
abbrev pub parts_passed : Kind → Parts Bool
parts_passed Dots = record { interior = true; boundary = true; exterior = true }
parts_passed Polylines = record { interior = false; boundary = false; exterior = true }
parts_passed Rings = record { interior = true; boundary = false; exterior = true }

-- each entry of a part of the other geometry has the greatest extent
pub record IsPartFull (m : Matrix) (part : Part) : Type 0 where
  pub interior : entry m Interior part ≡ Area
  pub boundary : entry m Boundary part ≡ Area
  pub exterior : entry m Exterior part ≡ Area

-- the matrix has all that an edge can show that runs along none of the other geometry, whose edges
-- near it are given
pub record IsAllShown (m : Matrix) (own other : Outline) (e : Edge) (near : List Edge)
    : Type 0 where
  pub own_edges : own.kind ≢ Dots
  pub other_edges : other.kind ≢ Dots
  pub free : own.kind ≡ Polylines → has_no_end own e ≡ true
  pub nodes : AreShown (pick (part_along own.kind) m.rows)
      (parts_met other.kind (is_touched e near)) Dot
  pub pieces : AreShown (pick (part_along own.kind) m.rows) (parts_passed other.kind) Line
  pub faces : IsFaceShown m own.kind other.kind e
