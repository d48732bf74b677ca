-- What is known of a vertex, a point or an edge by the edges of the other geometry near it.
use Rattle.std.specs.Prelude.{◌≡◌, true, List, All}
use Rattle.geom_core.specs.declared.shape.Shape.{Shape}
use Rattle.plane_core.specs.declared.edge.Edge.{Edge}
use Rattle.plane_core.specs.declared.outline.Outline.{Outline}
use Rattle.plane_core.specs.declared.vertex.Vertex.{Vertex}
use Rattle.plane_core.specs.Points.{Point, at, is_at}
use Rattle.plane_core.specs.Outlines.{outline_part}
use Rattle.edge_index_core.specs.Beyond.{is_beyond}
use Rattle.noding_core.specs.Near.{IsFound}
use Rattle.noding_core.specs.Nodes.{IsAmong}
use Rattle.shown_core.specs.declared.course.Course.{Course}
use Rattle.shown_core.specs.Lying.{LiesIn, IsKnownIn}
use Rattle.shown_core.specs.Shown.{IsKnownApart}
use Rattle.arrangement_core.specs.declared.known.Seen.{Seen}

-- the part of a vertex is known
abbrev pub IsSeen : Outline → Seen → Type 0
IsSeen o seen = outline_part o (at seen.vertex) ≡ seen.part

-- the edge lies in a part, which is known of its last end
pub record IsSeenAlong (o : Outline) (e : Edge) (seen : Seen) : Type 0 where
  pub end : seen.vertex ≡ e.b
  pub lies : LiesIn o e seen.part

-- edges of a geometry, among them all that have a point of an edge
pub record AreNear (o : Outline) (e : Edge) (near : List Edge) : Type 0 where
  pub own : (f : Edge) → IsAmong f near → IsAmong f o.edges.items
  pub found : All (IsFound e near) o.edges.items

-- what is known of the course of an edge does hold
pub record IsCourseIn (o : Outline) (c : Course) : Type 0 where
  pub known : IsKnownIn o c
  pub apart : IsKnownApart o c

-- a point at a vertex that lies on one side of a box
pub record IsOutside (s : Shape) (p : Point) : Type 0 where
  pub vertex : Vertex
  pub here : is_at vertex p ≡ true
  pub beyond : is_beyond s (record { a = vertex; b = vertex }) ≡ true
