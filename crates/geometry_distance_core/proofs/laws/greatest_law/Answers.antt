use Rattle.geometry_distance_core.proofs.RangeLemmas.{within_greatest}
use Rattle.geometry_distance_core.proofs.laws.greatest_law.Goals as goal

pub returns : goal.returns
returns c = within_greatest
