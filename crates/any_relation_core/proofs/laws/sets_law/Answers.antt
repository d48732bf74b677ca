use Rattle.any_relation_core.proofs.SetLemmas.{stand_as_sets}
use Rattle.any_relation_core.proofs.laws.sets_law.Goals as goal

pub returns : goal.returns
returns c = stand_as_sets
