use Rattle.number_core.proofs.RoundedLemmas.{nearest_above, nearest_below}
use Rattle.number_core.proofs.laws.nearest_law.Goals as goal

pub returns-clause-above : goal.returns-clause-above
returns-clause-above c = nearest_above

pub returns-clause-below : goal.returns-clause-below
returns-clause-below c = nearest_below
