use Rattle.std.proofs.Common.{rules}
use Rattle.plane_core.proofs.StoredLemmas.{steps_more}
use Rattle.plane_core.proofs.check.is_path.Goals as goal

pub loop-i-preserved : goal.loop-i-preserved
loop-i-preserved c = steps_more _ _ _ _ _ _ (search rules) (search rules) c.edge_at-e.ensures c.loop-i.invariant c.has_length-is_step.ensures
