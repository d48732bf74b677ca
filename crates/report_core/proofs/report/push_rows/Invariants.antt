use Rattle.std.proofs.Common.{take}
use Rattle.report_core.specs.ReportRows.{AddsRows, IsRowOf}
use Rattle.report_core.proofs.report.push_rows.Given as goal

abbrev pub invariant-loop-place : goal.invariant-loop-place
invariant-loop-place g l =
    AddsRows (IsRowOf g.M.AsPair.pair_of (g.F.LastField.name_of l.fields.last.now) (g.F.LastField.is_field l.fields.last.now) l.left.list l.right.list) (take l.place l.matches) l.fn.text.items l.text.items
