use Rattle.report_core.proofs.WrittenLemmas.{appends_up_to_more, not_failed}
use Rattle.report_core.proofs.sink.write_all.Goals as goal

pub loop-rest-preserved : goal.loop-rest-preserved
loop-rest-preserved g c = (
  not_failed _ c.in_ok-taken.ensures.failed,
  appends_up_to_more _ _ _ _ _ _ c.in_ok-taken.ensures.within c.loop-rest.invariant.1 c.in_ok-taken.ensures.bytes,
)
