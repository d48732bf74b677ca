-- The edges of a path by their indexes.
use Rattle.std.specs.Prelude.{◌≡◌, ℕ, ◌-◌, List}
use Rattle.std.specs.List.{slice_index_or}
use Rattle.plane_core.specs.declared.vertex.Vertex.{Vertex}
use Rattle.plane_core.specs.declared.edge.Edge.{Edge}

-- the edge from the vertex before an index to the one there
pub record IsEdgeAt (path : List Vertex) (i : ℕ) (e : Edge) : Type 0 where
  pub a : e.a ≡ slice_index_or path (i - 1) e.a
  pub b : e.b ≡ slice_index_or path i e.b
