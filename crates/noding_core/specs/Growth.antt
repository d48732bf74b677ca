-- What points and pieces of edges add to a matrix, and a matrix to which it was added.
use Rattle.std.specs.Prelude.{◌≡◌, ◌⊎◌, ◌≤◌, pos, List, [], ◌∷◌, ◌++◌, map, if◌then◌else◌}
use Rattle.std.specs.Ordering.{int_eq, is_lt}
use Rattle.relation_core.specs.declared.extent.Extent.{Extent}
use Rattle.relation_core.specs.declared.extent.Extent.TheVariants.{Empty, Point as Dot, Line, Area}
use Rattle.relation_core.specs.declared.part.Parts.{Parts}
use Rattle.relation_core.specs.declared.matrix.Matrix.{Matrix}
use Rattle.plane_core.specs.declared.part.Part.{Part}
use Rattle.plane_core.specs.declared.part.Part.TheVariants.{Interior, Boundary, Exterior}
use Rattle.plane_core.specs.declared.vertex.Vertex.{Vertex}
use Rattle.plane_core.specs.declared.edge.Edge.{Edge}
use Rattle.plane_core.specs.declared.outline.Outline.{Outline}
use Rattle.plane_core.specs.Points.{Point, at, run}
use Rattle.plane_core.specs.Places.{place_order}
use Rattle.plane_core.specs.Outlines.{outline_part, outline_above}
use Rattle.plane_core.specs.PlaneMatrices.{entry}
use Rattle.noding_core.specs.Nodes.{IsAmong, NodedEdge, middle}
use Rattle.noding_core.specs.Marks.{rank}

-- the intersection of two parts has at least this extent
pub record Mark : Type 0 where
  pub first : Part
  pub second : Part
  pub extent : Extent

abbrev pub mark_at : Outline → Outline → Extent → Point → Mark
mark_at a b extent p = record {
  first = outline_part a p;
  second = outline_part b p;
  extent = extent;
}

abbrev pub mark_above : Outline → Outline → Point → Mark
mark_above a b p = record { first = outline_above a p; second = outline_above b p; extent = Area }

-- a point's mark, if the first part is known
abbrev pub mark_in : Part → Outline → Point → Mark
mark_in part b p = record { first = part; second = outline_part b p; extent = Dot }

-- the mark of the face above a point, if the second part is known
abbrev pub mark_beside : Outline → Part → Point → Mark
mark_beside a above p = record { first = outline_above a p; second = above; extent = Area }

-- a matrix after marks: it has its former extents and those of the marks, and nothing else
pub record HasGrownBy (marks : List Mark) (old new : Matrix) : Type 0 where
  pub kept : (i j : Part) → rank (entry old i j) ≤ rank (entry new i j)
  pub reached : (k : Mark) → IsAmong k marks → rank k.extent ≤ rank (entry new k.first k.second)
  pub sound : (i j : Part) → (entry new i j ≡ entry old i j)
      ⊎ IsAmong (record { first = i; second = j; extent = entry new i j }) marks

-- the marks of a piece of an edge, given a point of it
abbrev pub piece_marks : Outline → Outline → Edge → Point → List Mark
piece_marks a b e q =
    mark_at a b Line q ∷ (if int_eq (run e) (pos 0) then [] else mark_above a b q ∷ [])

-- the marks of the piece between two consecutive points, if they differ
abbrev pub gap_marks : Outline → Outline → Edge → Point → Point → List Mark
gap_marks a b e k l = if is_lt (place_order k l) then piece_marks a b e (middle k l) else []

abbrev pub gaps_marks : Outline → Outline → Edge → List Point → List Mark
gaps_marks a b e [] = []
gaps_marks a b e (n ∷ []) = []
gaps_marks a b e (m ∷ n ∷ ns) = gap_marks a b e m n ++ gaps_marks a b e (n ∷ ns)

-- the marks of an edge, given its nodes
abbrev pub edge_marks : Outline → Outline → NodedEdge → List Mark
edge_marks a b n = map (mark_at a b Dot) n.nodes ++ gaps_marks a b n.edge n.nodes

-- the marks of single points
abbrev pub point_marks : Outline → Outline → List Vertex → List Mark
point_marks a b vs = map (λ v. mark_at a b Dot (at v)) vs

-- the three values with one replaced
abbrev pub with_part : {A : Type 0} → Part → A → Parts A → Parts A
with_part Interior v parts = record parts { interior = v }
with_part Boundary v parts = record parts { boundary = v }
with_part Exterior v parts = record parts { exterior = v }

-- the matrix that includes only the common area of the exteriors
abbrev pub outside : Matrix
outside =
    let none : Parts Extent = record { interior = Empty; boundary = Empty; exterior = Empty } in
    let last : Parts Extent = record none { exterior = Area } in
    record { rows = record { interior = none; boundary = none; exterior = last } }

-- rows as columns
abbrev pub column : Part → Matrix → Parts Extent
column j m = record {
  interior = entry m Interior j;
  boundary = entry m Boundary j;
  exterior = entry m Exterior j;
}

-- the matrix of the same geometries in reverse order
abbrev pub transposed : Matrix → Matrix
transposed m = record {
  rows = record {
    interior = column Interior m;
    boundary = column Boundary m;
    exterior = column Exterior m;
  };
}
