use Rattle.std.proofs.Common.{◌≡◌, All}
use Rattle.std.specs.Vec.Iter.{into_iter_items}
use Rattle.file_core.specs.Batches.{CanNumber, with_rows}
use Rattle.row_core.specs.LayerRows.{HasId}
use Rattle.file_core.specs.SkippedRows.{loaded_of}
use Rattle.file_core.proofs.insertion.add_rows.Given as goal

-- the remaining rows have the result of all rows
abbrev pub invariant-loop-row : goal.invariant-loop-row
invariant-loop-row g l = record {
  gives : with_rows (loaded_of l.fn.loading) l.fn.rows.items ≡ with_rows (loaded_of l.loading) (into_iter_items l.row-iterator);
  ids : All HasId (into_iter_items l.row-iterator);
  few : CanNumber (loaded_of l.loading) (into_iter_items l.row-iterator);
}
