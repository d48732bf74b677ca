use Rattle.geom_core.proofs.SetLaws.{both_hold}
use Rattle.geom_core.proofs.shape.Shape.is_within.Goals as goal

pub returns-then-inside : goal.returns-then-inside
returns-then-inside c = both_hold c.is_in-inside.result _ c.if-inside.true c.is_in-inside.ensures (search)
