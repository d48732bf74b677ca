-- Single points that may be on an edge.
use Rattle.std.specs.Prelude.{◌≡◌, true, List, Contains}
use Rattle.plane_core.specs.declared.vertex.Vertex.{Vertex}
use Rattle.plane_core.specs.declared.edge.Edge.{Edge}
use Rattle.plane_core.specs.Points.{at, is_on}

-- a list has all of some vertices that are on an edge
abbrev pub HasAlong : Edge → List Vertex → List Vertex → Type 0
HasAlong e vs some = (v : Vertex) → Contains vs v → is_on e (at v) ≡ true → Contains some v
