use Rattle.std.proofs.Common.{rules}
use Rattle.report_core.proofs.ReportLemmas.{rows_alone}
use Rattle.report_core.proofs.report.rows_text.Goals as goal

pub returns : goal.returns
returns g c = search (rules, rows_alone)
