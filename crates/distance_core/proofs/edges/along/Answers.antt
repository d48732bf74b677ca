use Rattle.distance_core.proofs.DotLemmas.{along_from}
use Rattle.distance_core.proofs.edges.along.Goals as goal

pub returns-clause-value : goal.returns-clause-value
returns-clause-value c =
    along_from c.args.e.now c.args.v.now _ _ _ _ c.dot.result c.between.ensures.x c.between.ensures.y c.between-2.ensures.x c.between-2.ensures.y
    c.dot.ensures.value c.dot.ensures.bound
