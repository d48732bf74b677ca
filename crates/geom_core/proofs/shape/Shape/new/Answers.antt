use Rattle.std.proofs.Common.{rules}
use Rattle.geom_core.proofs.HeldLemmas.{held_corners}
use Rattle.geom_core.proofs.shape.Shape.new.Goals as goal

pub returns-clause-some : goal.returns-clause-some
returns-clause-some c = search (rules, held_corners)
