-- Edges that two geometries share, and a matrix that has all that these can add.
use Rattle.std.specs.Prelude.{◌≡◌, ◌≤◌, Bool, true, ◌&&◌, ◌||◌, List}
use Rattle.std.specs.Ordering.{int_eq}
use Rattle.std.specs.List.{list_any}
use Rattle.relation_core.specs.declared.matrix.Matrix.{Matrix}
use Rattle.plane_core.specs.declared.edge.Edge.{Edge}
use Rattle.plane_core.specs.declared.vertex.Vertex.{Vertex}
use Rattle.plane_core.specs.declared.outline.Outline.{Outline}
use Rattle.plane_core.specs.Points.{Point}
use Rattle.plane_core.specs.PlaneMatrices.{entry}
use Rattle.noding_core.specs.Nodes.{IsAmong, AreNodesOf}
use Rattle.noding_core.specs.Marks.{rank}
use Rattle.noding_core.specs.Growth.{Mark, edge_marks}
use Rattle.noding_core.specs.ReadOffs.{outline_edges, IsOwn}

abbrev pub is_same_vertex : Vertex → Vertex → Bool
is_same_vertex u v = int_eq u.x v.x && int_eq u.y v.y

-- the same two ends, in the same order or the other
abbrev pub is_same : Edge → Edge → Bool
is_same e f =
    is_same_vertex e.a f.a && is_same_vertex e.b f.b
    || is_same_vertex e.a f.b && is_same_vertex e.b f.a

-- the edge is one of a list, in either direction
abbrev pub is_shared : Edge → List Edge → Bool
is_shared e near = list_any (is_same e) near

-- the matrix has the nodes and the pieces of an edge, and the faces above these
pub record HasEdge (a b : Outline) (vs : List Vertex) (e : Edge) (m : Matrix) : Type 0 where
  pub nodes : List Point
  pub are_nodes : AreNodesOf (outline_edges a b) vs e nodes
  pub reached : (k : Mark) → IsAmong k (edge_marks a b (record { edge = e; nodes = nodes }))
      → rank k.extent ≤ rank (entry m k.first k.second)

-- and those of each edge of the second geometry that the first has too
abbrev pub HasShared : Outline → Outline → List Vertex → Matrix → Type 0
HasShared a b vs m =
    (e f : Edge) → IsOwn a e → IsOwn b f → is_same e f ≡ true → HasEdge a b vs f m
