-- The matrix of two geometries in terms of the arrangement of their edges.
use Rattle.std.specs.Prelude.{◌≡◌, ◌≢◌, ◌⊎◌, ⊤, ℕ, ◌≤◌, ◌<◌, pos, List, ◌++◌}
use Rattle.relation_core.specs.declared.extent.Extent.{Extent}
use Rattle.relation_core.specs.declared.extent.Extent.TheVariants.{Empty, Point as Dot, Line, Area}
use Rattle.relation_core.specs.declared.matrix.Matrix.{Matrix}
use Rattle.plane_core.specs.declared.part.Part.{Part}
use Rattle.plane_core.specs.declared.part.Part.TheVariants.{Exterior}
use Rattle.plane_core.specs.declared.vertex.Vertex.{Vertex}
use Rattle.plane_core.specs.declared.edge.Edge.{Edge}
use Rattle.plane_core.specs.Points.{Point, at, run}
use Rattle.plane_core.specs.Figures.{Figure, part_of, part_above, edges_of, points_of}
use Rattle.plane_core.specs.PlaneMatrices.{entry, IsInBoth}
use Rattle.noding_core.specs.Nodes.{IsAmong, NodedEdge, AreAllNoded, IsGapOf, middle}

abbrev pub rank : Extent → ℕ
rank Empty = 0
rank Dot = 1
rank Line = 2
rank Area = 3

abbrev pub all_edges : Figure → Figure → List Edge
all_edges g h = edges_of g ++ edges_of h

abbrev pub all_points : Figure → Figure → List Vertex
all_points g h = points_of g ++ points_of h

-- a piece of an edge, given by the nodes between which it lies
pub record IsPiece (noded : List NodedEdge) (e : Edge) (k l : Point) : Type 0 where
  pub nodes : List Point
  pub one : IsAmong (record { edge = e; nodes = nodes }) noded
  pub gap : IsGapOf k l nodes

-- the parts just above a point
pub record IsAboveBoth (g h : Figure) (i j : Part) (p : Point) : Type 0 where
  pub first : part_above g p ≡ i
  pub second : part_above h p ≡ j

-- a piece whose points are in these parts
pub record HasPiece (g h : Figure) (noded : List NodedEdge) (i j : Part) : Type 0 where
  pub edge : Edge
  pub from_ : Point
  pub to_ : Point
  pub piece : IsPiece noded edge from_ to_
  pub in_both : IsInBoth g h i j (middle from_ to_)

-- a piece of an edge that isn't vertical, with these parts just above it
pub record HasFace (g h : Figure) (noded : List NodedEdge) (i j : Part) : Type 0 where
  pub edge : Edge
  pub from_ : Point
  pub to_ : Point
  pub piece : IsPiece noded edge from_ to_
  pub slanted : run edge ≢ pos 0
  pub above_both : IsAboveBoth g h i j (middle from_ to_)

-- the evidence for an entry
abbrev pub IsWitnessed : Figure → Figure → List NodedEdge → Part → Part → Extent → Type 0
IsWitnessed g h noded i j Empty = ⊤
IsWitnessed g h noded i j Dot = (p : Point) × (0 < p.w) × IsInBoth g h i j p
IsWitnessed g h noded i j Line = HasPiece g h noded i j
IsWitnessed g h noded i j Area = ((i ≡ Exterior) × (j ≡ Exterior)) ⊎ HasFace g h noded i j

-- the matrix read off the nodes, the pieces and the faces above pieces
pub record IsReadOff (g h : Figure) (noded : List NodedEdge) (m : Matrix) : Type 0 where
  pub are_noded : AreAllNoded (all_edges g h) (all_points g h) noded
  pub sound : (i j : Part) → IsWitnessed g h noded i j (entry m i j)
  pub nodes : (n : NodedEdge) (p : Point) → IsAmong n noded → IsAmong p n.nodes
      → 1 ≤ rank (entry m (part_of g p) (part_of h p))
  pub pieces : (i j : Part) → HasPiece g h noded i j → 2 ≤ rank (entry m i j)
  pub faces : (i j : Part) → HasFace g h noded i j → 3 ≤ rank (entry m i j)
  pub points : (v : Vertex) → IsAmong v (all_points g h)
      → 1 ≤ rank (entry m (part_of g (at v)) (part_of h (at v)))
  pub outside : entry m Exterior Exterior ≡ Area
