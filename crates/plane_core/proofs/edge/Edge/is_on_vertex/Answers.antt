use Rattle.plane_core.proofs.TestLemmas.{on_made}
use Rattle.plane_core.proofs.edge.Edge.is_on_vertex.Goals as goal

pub returns : goal.returns
returns c =
    on_made c.args.self.now c.args.v.now _ _ _
    c.is_level-level.ensures c.is_between-along_x.ensures c.is_between-along_y.ensures
