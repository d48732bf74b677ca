use Rattle.std.proofs.Common.{◌≡◌, All}
use Rattle.std.specs.Vec.Iter.{into_iter_items}
use Rattle.file_core.specs.Batches.{CanNumber, all_rows, with_rows}
use Rattle.row_core.specs.LayerRows.{HasId}
use Rattle.file_core.specs.SkippedRows.{loaded_of}
use Rattle.file_core.proofs.insertion.add_parts.Given as goal

-- the remaining parts have the result of all parts
abbrev pub invariant-loop-rows : goal.invariant-loop-rows
invariant-loop-rows g l = record {
  gives : with_rows (loaded_of l.fn.loading) (all_rows l.fn.parts.items) ≡ with_rows (loaded_of l.loading) (all_rows (into_iter_items l.rows-iterator));
  ids : All HasId (all_rows (into_iter_items l.rows-iterator));
  few : CanNumber (loaded_of l.loading) (all_rows (into_iter_items l.rows-iterator));
}
