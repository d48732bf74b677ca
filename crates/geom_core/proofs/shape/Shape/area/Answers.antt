use Rattle.geom_core.proofs.SpanLemmas.{length_held}
use Rattle.geom_core.proofs.ShapeLemmas.{area_bound}
use Rattle.geom_core.proofs.shape.Shape.area.Goals as goal

pub returns-clause-bound : goal.returns-clause-bound
returns-clause-bound c = area_bound _ _ (search length_held) (search length_held)
