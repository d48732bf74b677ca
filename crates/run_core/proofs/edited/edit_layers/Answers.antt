use Rattle.std.proofs.Common.{refl}
use Rattle.run_core.proofs.EditedLayersLemmas.{edits_handed_on, edits_made, edits_unmade}
use Rattle.run_core.proofs.SourceLemmas.{made_io}
use Rattle.run_core.proofs.edited.edit_layers.Goals as goal

pub returns-in_err-edit_list-clause-fault : goal.returns-in_err-edit_list-clause-fault
returns-in_err-edit_list-clause-fault g c =
    let fault = c.in_err-edit_list.ensures.fault in
    edits_handed_on (g.F.Format.reads c.args.format) _ _ c.from_residual.result _ fault.0 c.from_residual.ensures.1 fault.1 fault.2

pub returns-clause-ok : goal.returns-clause-ok
returns-clause-ok g c = edits_made (g.F.Format.reads c.args.format) _ _ _ (λ edited. edited.0.list) (λ edited. edited.1.list) _ _ refl c.in_ok-edit_list.ensures.ok (search)

pub returns-clause-fault : goal.returns-clause-fault
returns-clause-fault g c = edits_unmade (g.F.Format.reads c.args.format) _ _ _ _ _ refl c.in_ok-edit_list.ensures.ok (search)

pub returns-clause-io : goal.returns-clause-io
returns-clause-io g c = made_io _ _ _ _ _ c.in_ok-edit_list.ensures.io c.edit_both.ensures.err
