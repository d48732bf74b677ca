use Rattle.plane_core.proofs.OutlineLemmas.{some_here, none_here}
use Rattle.plane_core.proofs.outline.points_standing.Goals as goal

pub returns-then-here-gt0-clause-part : goal.returns-then-here-gt0-clause-part
returns-then-here-gt0-clause-part c = λ points p is. some_here points p c.args.here is c.if-here-gt0.true

pub returns-else-here-gt0-clause-part : goal.returns-else-here-gt0-clause-part
returns-else-here-gt0-clause-part c = λ points p is. none_here points p c.args.here is c.if-here-gt0.false
