use Rattle.command_core.specs.Opening.{no_file, no_keys}
use Rattle.command_core.proofs.LayerCommandLemmas.{handed_unready}
use Rattle.command_core.proofs.opening.open_layer.Goals as goal

pub returns-in_err-layer-clause-fault : goal.returns-in_err-layer-clause-fault
returns-in_err-layer-clause-fault g c =
    handed_unready _ _ c.from_residual.result _ _ c.from_residual.ensures.1 c.in_err-layer.ensures.fault (no_file c.in_err-layer.ensures.missing)

pub returns-in_err-state-clause-fault : goal.returns-in_err-state-clause-fault
returns-in_err-state-clause-fault g c =
    let r = c.from_residual-in_err-state in
    handed_unready _ _ r.result _ _ r.ensures.1 c.in_err-state.ensures (no_keys _ c.in_ok-layer.ensures.ok)
