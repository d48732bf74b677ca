use Rattle.plane_core.proofs.PlaceLemmas.{direction_made}
use Rattle.plane_core.proofs.edge.Edge.direction.Goals as goal

pub returns : goal.returns
returns c =
    direction_made c.then.result c.cmp-across.result c.cmp-upward.result c.args.self.now c.then.ensures c.cmp-across.ensures c.cmp-upward.ensures
