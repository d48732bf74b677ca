-- Points of the plane with rational coordinates, and how an edge lies to them.
use Rattle.std.specs.Prelude.{◌≡◌, ◌⊎◌, ℕ, ◌+◌, ◌*◌, Bool, ◌&&◌, ◌||◌}
use Rattle.std.specs.Prelude.{ℤ, pos, ◌+ℤ◌, ◌-ℤ◌, ◌*ℤ◌, ◌<ℤ◌, int_lt, int_le}
use Rattle.std.specs.Ordering.{int_eq}
use Rattle.plane_core.specs.declared.vertex.Vertex.{Vertex}
use Rattle.plane_core.specs.declared.edge.Edge.{Edge}

-- the point (x / w, y / w), where w is positive
pub record Point : Type 0 where
  pub x : ℤ
  pub y : ℤ
  pub w : ℕ

-- a vertex as such a point
abbrev pub at : Vertex → Point
at v = record { x = v.x; y = v.y; w = 1 }

-- the mix of s parts of one point and t of another; each point of the segment between is such a mix
abbrev pub mix : ℕ → Point → ℕ → Point → Point
mix s p t q = record {
  x = pos s *ℤ p.x +ℤ pos t *ℤ q.x;
  y = pos s *ℤ p.y +ℤ pos t *ℤ q.y;
  w = s * p.w + t * q.w;
}

-- the same place of the plane
abbrev pub IsSamePlace : Point → Point → Type 0
IsSamePlace p q = (p.x *ℤ pos q.w ≡ q.x *ℤ pos p.w) × (p.y *ℤ pos q.w ≡ q.y *ℤ pos p.w)

-- further left, or straight below: along any edge, this is the order from one end to the other
abbrev pub IsBefore : Point → Point → Type 0
IsBefore p q =
    ((p.x *ℤ pos q.w) <ℤ (q.x *ℤ pos p.w))
    ⊎ ((p.x *ℤ pos q.w ≡ q.x *ℤ pos p.w) × ((p.y *ℤ pos q.w) <ℤ (q.y *ℤ pos p.w)))

-- the lengths of an edge along the axes, with their signs
abbrev pub run : Edge → ℤ
run e = e.b.x -ℤ e.a.x

abbrev pub rise : Edge → ℤ
rise e = e.b.y -ℤ e.a.y

-- the cross product of the directions of two edges, which is 0 if and only if they are parallel
abbrev pub turn_of : Edge → Edge → ℤ
turn_of e f = run e *ℤ rise f -ℤ run f *ℤ rise e

-- the cross product of the edge and the vector from its first end to the point, times w
abbrev pub side : Edge → Point → ℤ
side e p = run e *ℤ (p.y -ℤ pos p.w *ℤ e.a.y) -ℤ rise e *ℤ (p.x -ℤ pos p.w *ℤ e.a.x)

-- z / w is between two integers, inclusive
abbrev pub is_between : ℤ → ℤ → ℕ → ℤ → Bool
is_between a b w z =
    int_le (pos w *ℤ a) z && int_le z (pos w *ℤ b) || int_le (pos w *ℤ b) z && int_le z (pos w *ℤ a)

-- the point is on the edge, including its ends
abbrev pub is_on : Edge → Point → Bool
is_on e p =
    int_eq (side e p) (pos 0) && is_between e.a.x e.b.x p.w p.x && is_between e.a.y e.b.y p.w p.y

-- z / w is at least the first of two integers and less than the second
abbrev pub is_from_to : ℤ → ℤ → ℕ → ℤ → Bool
is_from_to a b w z = int_le (pos w *ℤ a) z && int_lt z (pos w *ℤ b)

-- the edge passes strictly below the point: it has a point with the same x, except its right end,
-- that is below. So a vertex between two edges is counted once, and a vertical edge never.
abbrev pub is_below : Edge → Point → Bool
is_below e p =
    is_from_to e.a.x e.b.x p.w p.x && int_lt (pos 0) (side e p)
    || is_from_to e.b.x e.a.x p.w p.x && int_lt (side e p) (pos 0)

-- the same, or the edge passes through the point
abbrev pub is_at_or_below : Edge → Point → Bool
is_at_or_below e p =
    is_from_to e.a.x e.b.x p.w p.x && int_le (pos 0) (side e p)
    || is_from_to e.b.x e.a.x p.w p.x && int_le (side e p) (pos 0)

-- the vertex equals the point
abbrev pub is_at : Vertex → Point → Bool
is_at v p = int_eq p.x (pos p.w *ℤ v.x) && int_eq p.y (pos p.w *ℤ v.y)

-- the determinant of three triples, which is 0 if and only if the points are on one line
abbrev pub turn : Point → Point → Point → ℤ
turn p q r =
    p.x *ℤ (q.y *ℤ pos r.w -ℤ pos q.w *ℤ r.y)
    -ℤ p.y *ℤ (q.x *ℤ pos r.w -ℤ pos q.w *ℤ r.x)
    +ℤ pos p.w *ℤ (q.x *ℤ r.y -ℤ q.y *ℤ r.x)
