use Rattle.plane_core.proofs.PlaceLemmas.{order_held, width_positive}
use Rattle.plane_core.proofs.node.Node.compare_along.Goals as goal

pub compare_fractions-requires : goal.compare_fractions-requires
compare_fractions-requires c = width_positive c.args.self.now.place

pub returns : goal.returns
returns c = order_held _ c.args.self.now.place c.args.other.now.place c.compare_fractions.ensures
