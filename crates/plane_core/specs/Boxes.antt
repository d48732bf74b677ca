-- The closed bounding boxes of edges, and points over boxes.
use Rattle.std.specs.Prelude.{ℤ, pos, ◌*ℤ◌, Bool, ◌&&◌, ◌||◌, int_le}
use Rattle.geom_core.specs.declared.shape.Shape.{Shape}
use Rattle.geom_core.specs.Shapes.{x1, y1, x2}
use Rattle.plane_core.specs.declared.edge.Edge.{Edge}
use Rattle.plane_core.specs.Points.{Point}

-- the greater of the first two numbers is at least the lesser of the last two
abbrev pub does_reach : ℤ → ℤ → ℤ → ℤ → Bool
does_reach a b c d = int_le c a || int_le c b || int_le d a || int_le d b

-- the interval between the first two numbers, in either order, shares a number with that between
-- the last two
abbrev pub do_overlap : ℤ → ℤ → ℤ → ℤ → Bool
do_overlap a b c d = does_reach a b c d && does_reach c d a b

abbrev pub do_boxes_meet : Edge → Edge → Bool
do_boxes_meet e f = do_overlap e.a.x e.b.x f.a.x f.b.x && do_overlap e.a.y e.b.y f.a.y f.b.y

-- the point is within the extent of the shape along the first axis, and not below it
abbrev pub is_over : Shape → Point → Bool
is_over s p =
    int_le (pos p.w *ℤ x1 s) p.x && int_le p.x (pos p.w *ℤ x2 s) && int_le (pos p.w *ℤ y1 s) p.y
