use Rattle.edge_index_core.proofs.AroundLemmas.{around_all}
use Rattle.edge_index_core.proofs.around.scan_around.Goals as goal

pub returns : goal.returns
returns c = around_all _ _ _ _ c.in_ok-near.ensures.items c.in_ok-push_around.ensures
