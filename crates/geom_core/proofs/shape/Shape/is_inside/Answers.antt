use Rattle.geom_core.proofs.SetLaws.{inside_along, not_inside}
use Rattle.geom_core.proofs.shape.Shape.is_inside.Goals as goal

pub returns-then-across : goal.returns-then-across
returns-then-across c = inside_along c.args.self.now c.args.other.now c.is_inside-across.result (rw (c.x.ensures, c.x-2.ensures) at c.is_inside-across.ensures) _
    c.if-across.true (rw (c.y.ensures, c.y-then-across.ensures) at c.is_inside.ensures)

pub returns-else-across : goal.returns-else-across
returns-else-across c = not_inside c.args.self.now c.args.other.now c.is_inside-across.result (rw (c.x.ensures, c.x-2.ensures) at c.is_inside-across.ensures)
    c.if-across.false
