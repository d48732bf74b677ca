-- Points of an edge that are collected one by one, before they are sorted.
use Rattle.std.specs.Prelude.{◌≡◌, ◌≢◌, ◌<◌, pos, List, ◌++◌, Bool, true, ◌&&◌, ◌||◌, int_lt}
use Rattle.std.specs.Ordering.{int_eq}
use Rattle.std.specs.List.{Contains}
use Rattle.plane_core.specs.declared.edge.Edge.{Edge}
use Rattle.plane_core.specs.declared.node.Node.{Node}
use Rattle.plane_core.specs.declared.vertex.Vertex.{Vertex}
use Rattle.plane_core.specs.Points.{Point, at, side, is_on, turn_of, IsSamePlace}
use Rattle.plane_core.specs.Places.{node_point}
use Rattle.plane_core.specs.Meetings.{IsMeeting}

-- the same elements, and more after them
pub record Extends {A : Type 0} (old new : List A) : Type 0 where
  pub more : List A
  pub is : new ≡ old ++ more

-- the node is a place of the edge
abbrev pub IsOn : Edge → Node → Type 0
IsOn e n = n.place.edge ≡ e

-- some node is at the same place as the point
pub record HasPlace (ns : List Node) (p : Point) : Type 0 where
  pub node : Node
  pub among : Contains ns node
  pub same : IsSamePlace p (node_point node)

-- the vertex, if it is on the edge
pub record HasVertex (e : Edge) (ns : List Node) (v : Vertex) : Type 0 where
  pub here : is_on e (at v) ≡ true → HasPlace ns (at v)

-- the point where another edge meets the edge, unless they are parallel
pub record HasMeeting (e : Edge) (ns : List Node) (f : Edge) : Type 0 where
  pub here : (p : Point) → 0 < p.w → IsMeeting e f p → HasPlace ns p

-- the ends of another edge that are on the edge, and the point where the two meet
pub record HasMeetings (e : Edge) (ns : List Node) (f : Edge) : Type 0 where
  pub first : HasVertex e ns f.a
  pub last : HasVertex e ns f.b
  pub meeting : HasMeeting e ns f

-- both ends of the edge
pub record HasEnds (e : Edge) (ns : List Node) : Type 0 where
  pub first : HasVertex e ns e.a
  pub last : HasVertex e ns e.b

abbrev pub is_same : Vertex → Vertex → Bool
is_same u v = int_eq u.x v.x && int_eq u.y v.y

-- a vertex is an end of an edge
abbrev pub is_end : Edge → Vertex → Bool
is_end e v = is_same e.a v || is_same e.b v

-- an edge lies strictly on one side of the line of the first
abbrev pub is_aside : Edge → Edge → Bool
is_aside e f =
    int_lt (side e (at f.a)) (pos 0) && int_lt (side e (at f.b)) (pos 0)
    || int_lt (pos 0) (side e (at f.a)) && int_lt (pos 0) (side e (at f.b))

-- edges that aren't parallel have an end in common
pub record IsJoint (e f : Edge) : Type 0 where
  pub turning : turn_of e f ≢ pos 0
  pub end : is_end e f.a || is_end e f.b ≡ true
