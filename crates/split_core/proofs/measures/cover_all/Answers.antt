use Rattle.std.proofs.Common.{rules}
use Rattle.split_core.proofs.CoverLemmas.{cover_first, cover_more}
use Rattle.split_core.proofs.measures.cover_all.Goals as goal

pub loop-place-init : goal.loop-place-init
loop-place-init g c = search (rules, cover_first)

pub loop-place-preserved : goal.loop-place-preserved
loop-place-preserved g c = search (rules, cover_more)
