use Rattle.std.proofs.Common.{rules}
use Rattle.report_core.specs.Columns.{id_in}
use Rattle.report_core.proofs.ColumnLemmas.{one_field_more, one_start_more, next_start}
use Rattle.report_core.proofs.columns.Column.new.Goals as goal

pub loop-number-preserved : goal.loop-number-preserved
loop-number-preserved g c =
    let before = c.loop-number.invariant in
    let starts = c.loop-number.starts.items in
    let text = c.loop-number.text.items in
    let n = c.loop-number.number in
    record {
      fields = one_field_more _ starts text _ _ n c.len-end.result before.len (search rules) (search rules) before.fields before.last (search rules);
      len = one_start_more starts _ n c.len-end.result before.len (search rules);
      last = next_start (id_in c.args.layer.now.list) starts text _ _ n c.len-end.result before.len (search rules) (search rules);
    }
