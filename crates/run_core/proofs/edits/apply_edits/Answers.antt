use Rattle.std.proofs.Common.{refl, ◌+◌}
use Rattle.run_core.proofs.EditsLemmas.{ends_at, none_done, one_done}
use Rattle.run_core.proofs.edits.apply_edits.Goals as goal

pub loop-edit-init : goal.loop-edit-init
loop-edit-init g c = none_done _ _ _ (search)

pub returns-in-Err-clause-err : goal.returns-in-Err-clause-err
returns-in-Err-clause-err g c = (
  c.loop-edit.row + 1,
  c.in-Err.fault,
  refl,
  ends_at _ _ _ _ _ _ _ c.loop-edit.invariant c.in-Some.ensures.steps.0 _ c.in-Err.fault c.in-Err.ensures.refused,
)

pub loop-edit-preserved : goal.loop-edit-preserved
loop-edit-preserved g c =
    one_done _ _ _ _ _ _ _ c.loop-edit.invariant c.in-Some.ensures.steps.0 _ _ c.in_default.ensures.ok c.in_default.ensures.refused
