use Rattle.planar_core.proofs.BoxLemmas.{as_root}
use Rattle.planar_core.proofs.square.SquaredDistanceSquare.rounded_root.Goals as goal

pub returns : goal.returns
returns c = as_root c.args.self.now c.rounded_root.result c.rounded_root.ensures
