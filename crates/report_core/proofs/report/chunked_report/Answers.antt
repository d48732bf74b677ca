use Rattle.std.proofs.Common.{◌∙◌, ap, rules}
use Rattle.report_core.specs.ReportRows.{header_line}
use Rattle.report_core.proofs.ReportChunkLemmas.{report_of_chunks}
use Rattle.report_core.proofs.report.chunked_report.Goals as goal

pub returns-clause-report : goal.returns-clause-report
returns-clause-report g c =
    let field = c.args.form.now.field.now in
    report_of_chunks g.M.AsPair.pair_of (g.F.LastField.name_of field) (g.F.LastField.is_field field) _ _ _ _ c.push.new.self.items c.push_all.new.texts.items
    c.in_ok-header.header _ c.new-texts.ensures.items (search rules) (c.in_ok-header.ensures ∙ ap header_line c.name.ensures)
    c.in_ok-chunks.ensures.rows c.in_ok-push_all.ensures.all c.in_ok-push_all.ensures.texts
