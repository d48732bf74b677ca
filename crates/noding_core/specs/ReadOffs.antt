-- The results of the program for two geometries, by their outlines.
use Rattle.std.specs.Prelude.{◌≡◌, Bool, true, List, [], ◌++◌, All}
use Rattle.std.specs.List.{flat_map}
use Rattle.relation_core.specs.declared.matrix.Matrix.{Matrix}
use Rattle.plane_core.specs.declared.vertex.Vertex.{Vertex}
use Rattle.plane_core.specs.declared.edge.Edge.{Edge}
use Rattle.plane_core.specs.declared.outline.Kind.{Kind}
use Rattle.plane_core.specs.declared.outline.Kind.TheVariants.{Points as Dots}
use Rattle.plane_core.specs.declared.outline.Kind.TheVariants.{Lines as Polylines, Areas as Rings}
use Rattle.plane_core.specs.declared.outline.Outline.{Outline}
use Rattle.plane_core.specs.Points.{Point}
use Rattle.plane_core.specs.Figures.{Figure, HasLength, IsGeometry}
use Rattle.plane_core.specs.Outlines.{IsOutlineOf}
use Rattle.plane_core.specs.PlaneMatrices.{IsPlaneMatrix}
use Rattle.noding_core.specs.Nodes.{IsAmong, NodedEdge, AreNodesOf, AreNoded, AreAllNoded}
use Rattle.noding_core.specs.Growth.{edge_marks, point_marks, HasGrownBy, outside}

abbrev pub points_by : Kind → List Vertex → List Vertex
points_by Dots vs = vs
points_by Polylines vs = []
points_by Rings vs = []

abbrev pub outline_edges : Outline → Outline → List Edge
outline_edges a b = a.edges.items ++ b.edges.items

abbrev pub outline_points : Outline → Outline → List Vertex
outline_points a b = points_by a.kind a.ends.items ++ points_by b.kind b.ends.items

abbrev pub IsOwn : Outline → Edge → Type 0
IsOwn o e = IsAmong e o.edges.items

-- the edges of two geometries, in either order of the two
pub record AreEdgesOf (own other : Outline) (es : List Edge) : Type 0 where
  pub long : All HasLength es
  pub first : (e : Edge) → IsAmong e own.edges.items → IsAmong e es
  pub second : (e : Edge) → IsAmong e other.edges.items → IsAmong e es

-- an edge of the first geometry
pub record IsOneOf (own other : Outline) (es : List Edge) (e : Edge) : Type 0 where
  pub edges : AreEdgesOf own other es
  pub one : IsAmong e own.edges.items

-- an edge whose nodes, pieces and faces a matrix includes
pub record IsEdgeMarked (a b : Outline) (es : List Edge) (vs : List Vertex) (e : Edge)
    (old new : Matrix) : Type 0 where
  pub nodes : List Point
  pub are_nodes : AreNodesOf es vs e nodes
  pub grown : HasGrownBy (edge_marks a b (record { edge = e; nodes = nodes })) old new

-- edges whose nodes, pieces and faces a matrix includes
pub record AreMarked (a b : Outline) (es : List Edge) (vs : List Vertex) (done : List Edge)
    (old new : Matrix) : Type 0 where
  pub noded : List NodedEdge
  pub are_noded : AreNoded es vs done noded
  pub grown : HasGrownBy (flat_map (edge_marks a b) noded) old new

-- edges of the first geometry whose nodes, pieces and faces a matrix includes, among them those of
-- a list that a test selects
pub record AreSomeMarked (a b : Outline) (es : List Edge) (vs : List Vertex)
    (which : Edge → Bool) (of : List Edge) (old new : Matrix) : Type 0 where
  pub listed : List Edge
  pub own : (e : Edge) → IsAmong e listed → IsOwn a e
  pub all : (e : Edge) → IsAmong e of → which e ≡ true → IsAmong e listed
  pub marked : AreMarked a b es vs listed old new

-- the matrix includes all edges of two geometries
pub record AreAllMarked (a b : Outline) (vs : List Vertex) (old new : Matrix) : Type 0 where
  pub noded : List NodedEdge
  pub are_noded : AreAllNoded (outline_edges a b) vs noded
  pub grown : HasGrownBy (flat_map (edge_marks a b) noded) old new

-- the matrix includes all edges and points of two geometries
pub record IsReadOffBy (a b : Outline) (m : Matrix) : Type 0 where
  pub noded : List NodedEdge
  pub are_noded : AreAllNoded (outline_edges a b) (outline_points a b) noded
  pub grown : HasGrownBy
      (flat_map (edge_marks a b) noded ++ point_marks a b (outline_points a b)) outside m

-- the matrix of the two geometries that have these outlines
pub record IsMatrixOf (a b : Outline) (m : Matrix) : Type 0 where
  pub is : (g h : Figure) → IsOutlineOf g a → IsOutlineOf h b → IsGeometry g → IsGeometry h
      → IsPlaneMatrix g h m
