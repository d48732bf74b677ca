use Rattle.std.proofs.Common.{ap, refl}
use Rattle.run_core.specs.EditedLayers.{no_left, no_right}
use Rattle.run_core.proofs.EditsLemmas.{both_are, fault_is, fault_ended, fault_at_end}
use Rattle.run_core.proofs.edits.edit_both.Goals as goal

pub returns-in_err-left-clause-err : goal.returns-in_err-left-clause-err
returns-in_err-left-clause-err g c = fault_is c.from_residual.result _ _ _ c.from_residual.ensures.1 _ c.in_err-left.ensures.err no_left

pub returns-in_err-right-clause-err : goal.returns-in_err-right-clause-err
returns-in_err-right-clause-err g c =
    let r = c.from_residual-in_err-right in
    fault_is r.result _ _ _ r.ensures.1 _ c.in_err-right.ensures.err no_right

pub returns-in_err-apply_edits-clause-err : goal.returns-in_err-apply_edits-clause-err
returns-in_err-apply_edits-clause-err g c =
    let r = c.from_residual-in_err-apply_edits in
    let same = both_are _ _ _ _ (ap (λ l. l.list) c.in_ok-left.ensures.ok) (ap (λ l. l.list) c.in_ok-right.ensures.ok) in
    fault_ended r.result _ _ _ r.ensures.1 _ same c.in_err-apply_edits.ensures.err

pub returns-in_err-left_layer-clause-err : goal.returns-in_err-left_layer-clause-err
returns-in_err-left_layer-clause-err g c =
    let r = c.from_residual-in_err-left_layer in
    let same = both_are _ _ _ _ (ap (λ l. l.list) c.in_ok-left.ensures.ok) (ap (λ l. l.list) c.in_ok-right.ensures.ok) in
    fault_at_end r.result _ _ _ r.ensures.1 _ _ same c.in_ok-apply_edits.ensures.ok refl

pub returns-in_err-right_layer-clause-err : goal.returns-in_err-right_layer-clause-err
returns-in_err-right_layer-clause-err g c =
    let r = c.from_residual-in_err-right_layer in
    let same = both_are _ _ _ _ (ap (λ l. l.list) c.in_ok-left.ensures.ok) (ap (λ l. l.list) c.in_ok-right.ensures.ok) in
    fault_at_end r.result _ _ _ r.ensures.1 _ _ same c.in_ok-apply_edits.ensures.ok refl
