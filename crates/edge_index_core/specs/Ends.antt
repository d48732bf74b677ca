-- Vertices in order.
use Rattle.std.specs.Prelude.{◌≡◌, ℕ, Bool, true, false, ◌&&◌, ◌||◌, List, int_lt, int_le}
use Rattle.std.specs.Prelude.{All, Contains}
use Rattle.std.specs.Prelude.{IsPermutation, IsSorted}
use Rattle.std.specs.Ordering.{int_cmp, ordering_then, is_gt, is_ge}
use Rattle.std.specs.List.Sorted.{IsPartitionPoint}
use Rattle.std.specs.declared.cmp.Ordering.{Ordering}
use Rattle.plane_core.specs.declared.vertex.Vertex.{Vertex}
use Rattle.plane_core.specs.declared.edge.Edge.{Edge}
use Rattle.plane_core.specs.Points.{Point, at, is_on}
use Rattle.plane_core.specs.Places.{place_order}

-- the order by x, and then by y
abbrev pub vertex_order : Vertex → Vertex → Ordering
vertex_order u v = ordering_then (int_cmp u.x v.x) (int_cmp u.y v.y)

-- the same vertices as often, in this order
pub record AreInOrder (vs ordered : List Vertex) : Type 0 where
  pub same : IsPermutation vs ordered
  pub order : IsSorted vertex_order ordered

-- in this order, the vertex is before a point, or not after it
abbrev pub is_before : Point → Vertex → Bool
is_before p v = is_gt (place_order p (at v))

abbrev pub is_up_to : Point → Vertex → Bool
is_up_to p v = is_ge (place_order p (at v))

-- the vertex is left of both ends of an edge, or not right of both
abbrev pub is_left_of : Edge → Vertex → Bool
is_left_of e v = int_lt v.x e.a.x && int_lt v.x e.b.x

abbrev pub is_left_to : Edge → Vertex → Bool
is_left_to e v = int_le v.x e.a.x || int_le v.x e.b.x

-- as many vertices pass a test, and none after them
abbrev pub IsParted : (Vertex → Bool) → List Vertex → ℕ → Type 0
IsParted f vs i = IsPartitionPoint (λ v. f v ≡ true) (λ v. f v ≡ false) vs i

-- some of the vertices, with all that are on an edge
pub record AreAlong (e : Edge) (vs some : List Vertex) : Type 0 where
  pub own : All (Contains vs) some
  pub kept : (v : Vertex) → Contains vs v → is_on e (at v) ≡ true → Contains some v
