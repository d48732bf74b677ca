-- The ends of polylines outside a box.
use Rattle.std.specs.Prelude.{◌≡◌, ◌<◌, Bool, true, false, ◌&&◌, ◌||◌, int_le, List, count_by}
use Rattle.std.specs.Ordering.{int_eq}
use Rattle.geom_core.specs.declared.shape.Shape.{Shape}
use Rattle.geom_core.specs.Shapes.{x1, y1, x2, y2}
use Rattle.plane_core.specs.declared.edge.Edge.{Edge}
use Rattle.plane_core.specs.declared.vertex.Vertex.{Vertex}
use Rattle.plane_core.specs.Points.{Point, is_on, is_at}
use Rattle.plane_core.specs.Figures.{is_odd}
use Rattle.edge_index_core.specs.Beyond.{is_beyond}

-- the vertex is in the closed box
abbrev pub is_held_across : Shape → Vertex → Bool
is_held_across s v = int_le (x1 s) v.x && int_le v.x (x2 s)

abbrev pub is_held_up : Shape → Vertex → Bool
is_held_up s v = int_le (y1 s) v.y && int_le v.y (y2 s)

abbrev pub is_held : Shape → Vertex → Bool
is_held s v = is_held_across s v && is_held_up s v

-- two vertices are the same, or both are in the box
abbrev pub are_settled : Shape → Vertex → Vertex → Bool
are_settled s u v = (int_eq u.x v.x && int_eq u.y v.y) || (is_held s u && is_held s v)

-- no point of an edge on one side of the box is among the vertices an odd number of times
abbrev pub HasNoOuterEnd : Shape → List Vertex → Type 0
HasNoOuterEnd s ends =
    (e : Edge) (p : Point) → is_beyond s e ≡ true → 0 < p.w → is_on e p ≡ true
    → is_odd (count_by (λ v. is_at v p) ends) ≡ false
