-- The intersection of two edges that aren't parallel.
use Rattle.std.specs.Prelude.{◌≡◌, ◌≢◌, ℤ, pos, ◌<◌, ◌*ℤ◌, ◌-ℤ◌, nat_abs, true}
use Rattle.plane_core.specs.declared.edge.Edge.{Edge}
use Rattle.plane_core.specs.Points.{Point, is_on, turn_of}

-- w times the number at the fraction n / w of the way from one number to another
abbrev pub part_of_way : ℤ → ℤ → ℤ → ℤ → ℤ
part_of_way a b n w = w *ℤ a -ℤ n *ℤ (a -ℤ b)

-- the point of an edge at the fraction n / w of its length
abbrev pub divided : Edge → ℤ → ℤ → Point
divided e n w = record {
  x = part_of_way e.a.x e.b.x n w;
  y = part_of_way e.a.y e.b.y n w;
  w = nat_abs w;
}

-- the point on two edges that aren't parallel
pub record IsMeeting (e f : Edge) (p : Point) : Type 0 where
  pub turning : turn_of e f ≢ pos 0
  pub first : is_on e p ≡ true
  pub second : is_on f p ≡ true

-- the edges are parallel or share no point
pub record HaveNoMeeting (e f : Edge) : Type 0 where
  pub none : (p : Point) → 0 < p.w → ¬ (IsMeeting e f p)
