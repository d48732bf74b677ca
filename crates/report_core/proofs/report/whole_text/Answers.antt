use Rattle.std.proofs.Common.{◌∙◌, ap, refl, rules}
use Rattle.report_core.specs.ReportRows.{header_line}
use Rattle.report_core.proofs.ReportLemmas.{report_written}
use Rattle.report_core.proofs.report.whole_text.Goals as goal

pub returns : goal.returns
returns g c =
    report_written g.M.AsPair.pair_of (g.F.LastField.name_of c.args.field.now) _ _ _ _ _ _ _
    (c.in_ok-text.ensures ∙ ap header_line c.name.ensures) (search rules) refl
