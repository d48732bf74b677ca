use Rattle.std.proofs.Common.{◌∙◌, ap, rules}
use Rattle.report_core.specs.ReportRows.{header_line}
use Rattle.report_core.proofs.RefiningLemmas.{refined_report}
use Rattle.report_core.proofs.refining.report_refining.Goals as goal

pub returns-clause-report : goal.returns-clause-report
returns-clause-report g c =
    let condition = c.args.form.now.condition.now in
    let field = c.args.form.now.field.now in
    refined_report (g.C.Condition.stands condition) (g.C.Condition.answers condition) (g.F.LastField.name_of field) (g.F.LastField.is_field field) _ _ _ _
    c.push.new.self.items c.push_all.new.texts.items c.in_ok-header.header _ c.new-texts.ensures.items (search rules)
    (c.in_ok-header.ensures ∙ ap header_line c.name.ensures) c.in_ok-chunks.ensures.rows c.in_ok-push_all.ensures.all c.in_ok-push_all.ensures.texts
