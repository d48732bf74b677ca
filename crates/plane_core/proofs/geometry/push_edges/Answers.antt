use Rattle.std.proofs.Common.{rules}
use Rattle.plane_core.proofs.StoredLemmas.{edge_more}
use Rattle.plane_core.proofs.geometry.push_edges.Goals as goal

pub loop-i-preserved : goal.loop-i-preserved
loop-i-preserved c = edge_more _ _ _ _ _ _ (search rules) (search rules) c.edge_at-e.ensures c.loop-i.invariant c.in_ok-push.ensures.items
