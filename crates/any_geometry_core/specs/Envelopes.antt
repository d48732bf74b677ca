-- The envelope of a geometry: the least box that holds all its vertices.
use Rattle.std.specs.Prelude.{All}
use Rattle.geom_core.specs.declared.shape.Shape.{Shape}
use Rattle.geom_core.specs.Cells.{IsIn}
use Rattle.plane_core.specs.Figures.{Figure}
use Rattle.plane_core.specs.Vertices.{vertices_of, HoldsVertex}

-- the box lies in each box that holds all vertices of the geometry
abbrev pub IsLeastBox : Figure → Shape → Type 0
IsLeastBox g s = (t : Shape) → All (HoldsVertex t) (vertices_of g) → IsIn s t
