-- The tests of whether two edges meet properly.
use Rattle.std.specs.Prelude.{ℤ, pos, Bool, ◌&&◌, ◌||◌, int_lt}
use Rattle.std.specs.Int.{int_min, int_max}
use Rattle.std.specs.Ordering.{int_eq}
use Rattle.plane_core.specs.declared.edge.Edge.{Edge}
use Rattle.plane_core.specs.Points.{at, side}

-- the numbers have opposite signs
abbrev pub are_opposite : ℤ → ℤ → Bool
are_opposite a b = int_lt a (pos 0) && int_lt (pos 0) b || int_lt b (pos 0) && int_lt (pos 0) a

-- the interval between the first two numbers, in either order, and that between the last two have
-- more than one number in common
abbrev pub share_interval : ℤ → ℤ → ℤ → ℤ → Bool
share_interval a b c d =
    int_lt (int_max (int_min a b) (int_min c d)) (int_min (int_max a b) (int_max c d))

-- the ends of each edge are on opposite sides of the other
abbrev pub do_cross_inside : Edge → Edge → Bool
do_cross_inside e f =
    are_opposite (side f (at e.a)) (side f (at e.b))
    && are_opposite (side e (at f.a)) (side e (at f.b))

-- the edges are on the same line, and have more than one point of it in common
abbrev pub do_run_along : Edge → Edge → Bool
do_run_along e f =
    int_eq (side f (at e.a)) (pos 0) && int_eq (side f (at e.b)) (pos 0)
    && (share_interval e.a.x e.b.x f.a.x f.b.x || share_interval e.a.y e.b.y f.a.y f.b.y)
