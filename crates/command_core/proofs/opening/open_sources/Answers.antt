use Rattle.command_core.specs.Opening.{no_left, no_right, no_edits}
use Rattle.command_core.proofs.PairCommandLemmas.{missing_as}
use Rattle.command_core.proofs.opening.open_sources.Goals as goal

pub returns-in_err-left-clause-missing : goal.returns-in_err-left-clause-missing
returns-in_err-left-clause-missing g c =
    missing_as _ _ c.from_residual.result _ _ c.from_residual.ensures.1 c.in_err-left.ensures.fault (no_left c.in_err-left.ensures.missing)

pub returns-in_err-right-clause-missing : goal.returns-in_err-right-clause-missing
returns-in_err-right-clause-missing g c =
    missing_as _ _ c.from_residual-in_err-right.result _ _ c.from_residual-in_err-right.ensures.1 c.in_err-right.ensures.fault
    (no_right _ c.in_ok-left.ensures.ok c.in_err-right.ensures.missing)

pub returns-in_err-edits-clause-missing : goal.returns-in_err-edits-clause-missing
returns-in_err-edits-clause-missing g c =
    missing_as _ _ c.from_residual-in_err-edits.result _ _ c.from_residual-in_err-edits.ensures.1 c.in_err-edits.ensures.fault
    (no_edits _ _ c.in_ok-left.ensures.ok c.in_ok-right.ensures.ok c.in_err-edits.ensures.missing)
