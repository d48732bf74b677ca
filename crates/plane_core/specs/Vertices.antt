-- The vertices of a geometry, path by path, and their bounding boxes.
use Rattle.std.specs.Prelude.{ℕ, zero, suc, ◌≤ℤ◌, List, [], ◌∷◌}
use Rattle.std.specs.List.{flat_map, slice_index_or}
use Rattle.geom_core.specs.declared.shape.Shape.{Shape}
use Rattle.geom_core.specs.Shapes.{x1, y1, x2, y2}
use Rattle.plane_core.specs.declared.vertex.Vertex.{Vertex}
use Rattle.plane_core.specs.Figures.{Figure}
use Rattle.plane_core.specs.Figures.Figure.{Points, Lines, Areas}

-- the points as one path, the polylines, or the rings
abbrev pub paths_in : Figure → List (List Vertex)
paths_in (Points vs) = vs ∷ []
paths_in (Lines paths) = paths
paths_in (Areas rings) = rings

-- the vertices of all paths
abbrev pub vertices_of : Figure → List Vertex
vertices_of g = flat_map (λ path. path) (paths_in g)

-- the start of the path at an index, from the ends of the paths
abbrev pub start_of : List ℕ → ℕ → ℕ
start_of ends zero = 0
start_of ends (suc i) = slice_index_or ends i 0

-- a vertex lies in a closed box
pub record HoldsVertex (s : Shape) (v : Vertex) : Type 0 where
  pub left : x1 s ≤ℤ v.x
  pub right : v.x ≤ℤ x2 s
  pub low : y1 s ≤ℤ v.y
  pub high : v.y ≤ℤ y2 s
