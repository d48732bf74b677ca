use Rattle.geometry_text_core.specs.Positions.{position_at}
use Rattle.geometry_text_core.proofs.HeldLemmas.{position_added}
use Rattle.geometry_text_core.proofs.OnlyLemmas.{no_position}
use Rattle.geometry_text_core.proofs.point.read_point.Goals as goal

pub returns-in_default-clause-none : goal.returns-in_default-clause-none
returns-in_default-clause-none c = λ p rest (x, y, m, i, j, at). let none = rw c.in_default.is at c.read_double.ensures.none in none x m i

pub returns-in_default-read_double-clause-none : goal.returns-in_default-read_double-clause-none
returns-in_default-read_double-clause-none c =
    let none = rw c.in_default-read_double.is at c.read_double-2.ensures.none in
    no_position c.args.scale c.args.order c.args.bytes.now c.in-Some.middle.now c.in-Some.x c.in-Some.ensures.some none

pub returns-clause-some : goal.returns-clause-some
returns-clause-some c = (
  position_at c.vertex_at-vertex.result,
  (c.in-Some.x, c.in-Some-read_double.y, c.in-Some.middle.now, c.in-Some.ensures.some, c.in-Some-read_double.ensures.some, c.vertex_at-vertex.ensures),
  position_added _ _ c.vertex_at-vertex.result c.in_ok-add.ensures,
)
