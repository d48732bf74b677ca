-- Edges that lie entirely on one side of a box.
use Rattle.std.specs.Prelude.{Bool, ◌&&◌, ◌||◌, int_lt}
use Rattle.geom_core.specs.declared.shape.Shape.{Shape}
use Rattle.geom_core.specs.Shapes.{x1, y1, x2, y2}
use Rattle.plane_core.specs.declared.edge.Edge.{Edge}

-- the edge is entirely left of a box, right of it, below it, or above it
abbrev pub is_left : Shape → Edge → Bool
is_left s e = int_lt e.a.x (x1 s) && int_lt e.b.x (x1 s)

abbrev pub is_right : Shape → Edge → Bool
is_right s e = int_lt (x2 s) e.a.x && int_lt (x2 s) e.b.x

abbrev pub is_low : Shape → Edge → Bool
is_low s e = int_lt e.a.y (y1 s) && int_lt e.b.y (y1 s)

abbrev pub is_high : Shape → Edge → Bool
is_high s e = int_lt (y2 s) e.a.y && int_lt (y2 s) e.b.y

-- the edge is entirely on one side of the box
abbrev pub is_beyond : Shape → Edge → Bool
is_beyond s e = is_left s e || is_right s e || is_low s e || is_high s e
