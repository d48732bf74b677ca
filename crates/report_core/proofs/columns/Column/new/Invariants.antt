use Rattle.std.proofs.Common.{◌≡◌, ◌+◌, length, get_or}
use Rattle.report_core.specs.Columns.{id_in, IsColumn}
use Rattle.report_core.proofs.columns.Column.new.Given as goal

abbrev pub invariant-loop-number : goal.invariant-loop-number
invariant-loop-number g l = record {
  fields : IsColumn (id_in l.layer.list) l.starts.items l.text.items;
  len : length l.starts.items ≡ l.number + 1;
  last : get_or l.starts.items l.number 0 ≡ length l.text.items;
}
