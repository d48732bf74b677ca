use Rattle.std.proofs.Common.{rules}
use Rattle.plane_core.proofs.StoredLemmas.{last_more}
use Rattle.plane_core.proofs.path.last_or.Goals as goal

pub loop-v-preserved : goal.loop-v-preserved
loop-v-preserved c = last_more c.args.first c.args.rest.now c.loop-v.v-index _ (search rules) (search rules)
