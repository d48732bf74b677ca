-- The points that places of edges represent, and the order of points.
use Rattle.std.specs.Prelude.{◌≡◌, pos, ◌*ℤ◌}
use Rattle.std.specs.Ordering.{int_cmp, ordering_then}
use Rattle.std.specs.declared.cmp.Ordering.{Ordering}
use Rattle.plane_core.specs.declared.node.Node.{Node}
use Rattle.plane_core.specs.declared.place.Place.{Place}
use Rattle.plane_core.specs.declared.place.Lie.{Lie}
use Rattle.plane_core.specs.declared.edge.Edge.{Edge}
use Rattle.plane_core.specs.Points.{Point, is_on, is_below, is_at_or_below}
use Rattle.plane_core.specs.Meetings.{divided}

abbrev pub point_of : Place → Point
point_of p = divided p.edge p.n p.w

abbrev pub node_point : Node → Point
node_point n = point_of n.place

-- the order by x, and then by y
abbrev pub place_order : Point → Point → Ordering
place_order p q =
    ordering_then (int_cmp (p.x *ℤ pos q.w) (q.x *ℤ pos p.w))
    (int_cmp (p.y *ℤ pos q.w) (q.y *ℤ pos p.w))

-- how an edge lies to a point
pub record IsLie (e : Edge) (p : Point) (lie : Lie) : Type 0 where
  pub on : lie.is_on ≡ is_on e p
  pub below : lie.is_below ≡ is_below e p
  pub at_or_below : lie.is_at_or_below ≡ is_at_or_below e p
