use Rattle.std.proofs.Common.{All, IfOk, map-id, subst, sym, ◌∙◌}
use Rattle.std.proofs.lemmas.List.Elements.{All-filter}
use Rattle.report_core.specs.Reports.{IsReportBy}
use Rattle.run_core.specs.Texts.{bytes_of_text}
use Rattle.join_core.proofs.output.first_report.Goals as goal

pub report-requires-after_bounds : goal.report-requires-after_bounds
report-requires-after_bounds g c κs within =
    let is_match = g.F.LastField.is_match c.args.left.now.list c.args.right.now.list in
    subst (All is_match) (sym (c.as_slice.ensures.value ∙ c.in_ok-firsts.ensures)) (All-filter _ is_match _ c.requires.held)

pub returns-clause-ok : goal.returns-clause-ok
returns-clause-ok g c =
    let field = c.args.field.now in
    subst (λ ps. IfOk c.report.result (λ text. IsReportBy (g.F.LastField.name_of field) (g.F.LastField.is_field field) c.args.left.now.list c.args.right.now.list ps (bytes_of_text text)))
    (map-id _ ∙ c.as_slice.ensures.value ∙ c.in_ok-firsts.ensures) c.report.ensures.ok
