-- How far a point lies along the direction of an edge.
use Rattle.std.specs.Prelude.{ℤ, pos, ◌+ℤ◌, ◌-ℤ◌, ◌*ℤ◌}
use Rattle.plane_core.specs.declared.edge.Edge.{Edge}
use Rattle.plane_core.specs.Points.{Point, run, rise}

-- the dot product of the edge and the vector from its first end to the point, times w
abbrev pub along : Edge → Point → ℤ
along e p = run e *ℤ (p.x -ℤ pos p.w *ℤ e.a.x) +ℤ rise e *ℤ (p.y -ℤ pos p.w *ℤ e.a.y)

-- the square of the length of an edge
abbrev pub reach : Edge → ℤ
reach e = run e *ℤ run e +ℤ rise e *ℤ rise e
