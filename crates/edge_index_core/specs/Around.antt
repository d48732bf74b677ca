-- The edges of a list around a box.
use Rattle.std.specs.Prelude.{◌≡◌, ◌++◌, false, List, All, Contains}
use Rattle.geom_core.specs.declared.shape.Shape.{Shape}
use Rattle.plane_core.specs.declared.edge.Edge.{Edge}
use Rattle.edge_index_core.specs.Beyond.{is_beyond}

-- the edge is in the list, unless it lies on one side of the box
abbrev pub IsKept : Shape → List Edge → Edge → Type 0
IsKept s near e = is_beyond s e ≡ false → Contains near e

-- some edges of a list, with all that don't lie on one side of a box
pub record AreAround (s : Shape) (es near : List Edge) : Type 0 where
  pub own : All (Contains es) near
  pub kept : All (IsKept s near) es

-- the edges around a box of some edges become those of these and of more edges
abbrev pub AddsAround : Shape → List Edge → List Edge → List Edge → Type 0
AddsAround s es old new = (done : List Edge) → AreAround s done old → AreAround s (done ++ es) new
