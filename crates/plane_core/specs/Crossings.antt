-- Edges whose ends are on different sides of each other.
use Rattle.std.specs.Prelude.{ℤ, pos, Bool, ◌&&◌, ◌||◌, int_le, int_lt}
use Rattle.plane_core.specs.declared.edge.Edge.{Edge}
use Rattle.plane_core.specs.Points.{at, side, turn_of}

-- 0 is between two numbers, inclusive
abbrev pub is_zero_between : ℤ → ℤ → Bool
is_zero_between a b = int_le a (pos 0) && int_le (pos 0) b || int_le b (pos 0) && int_le (pos 0) a

abbrev pub is_not_zero : ℤ → Bool
is_not_zero a = int_lt a (pos 0) || int_lt (pos 0) a

-- the edges aren't parallel, and the ends of each are on different sides of the other or on its
-- line
abbrev pub do_cross : Edge → Edge → Bool
do_cross e f =
    is_not_zero (turn_of e f) && is_zero_between (side f (at e.a)) (side f (at e.b))
    && is_zero_between (side e (at f.a)) (side e (at f.b))
