use Rattle.std.proofs.Common.{rules}
use Rattle.descent_core.proofs.RowLemmas.{sorted_row}
use Rattle.descent_core.proofs.rows.row.Goals as goal

pub returns : goal.returns
returns c =
    rw c.task.ensures.task (sorted_row _ _ c.new-found.result.items _ _ c.task.ensures.lawful (search rules) (search rules) c.sorted-pairs.ensures.as_often (search rules))
