use Rattle.plane_core.proofs.NodeLemmas.{then_less, then_equal, then_greater}
use Rattle.plane_core.proofs.place.Place.compare.Goals as goal

pub returns-in-Less : goal.returns-in-Less
returns-in-Less c = then_less _ _ c.in-Less.ensures

pub returns-in-Equal : goal.returns-in-Equal
returns-in-Equal c = then_equal _ _ _ c.in-Equal.ensures c.compare_y.ensures

pub returns-in-Greater : goal.returns-in-Greater
returns-in-Greater c = then_greater _ _ c.in-Greater.ensures
