use Rattle.std.proofs.Common.{◌≡◌, ◌+◌, ◌≤◌, false, All, vec_len, vec_capacity}
use Rattle.file_core.specs.Batches.{SayInTurn}
use Rattle.row_core.specs.LayerRows.{HasId, form_of}
use Rattle.row_core.specs.Cuts.{IsClosed}
use Rattle.row_core.specs.Rows.{IsReading, has_unended, rows_left, rows_read}
use Rattle.file_core.proofs.batch.fill.Given as goal

-- the rows so far were said by the records before those that are left, and there is room for all
abbrev pub invariant-loop : goal.invariant-loop
invariant-loop g l = record {
  reading : IsReading l.rows;
  rows : SayInTurn (form_of g.F.Format.reads l.reader) (rows_left l.fn.rows) l.read.items (rows_left l.rows);
  counted : rows_read l.rows ≡ rows_read l.fn.rows + vec_len l.read;
  ids : All HasId l.read.items;
  closed : has_unended l.rows ≡ false → All IsClosed (rows_left l.rows) → All IsClosed (rows_left l.fn.rows);
  room : l.most ≤ vec_capacity l.read;
  filled : vec_len l.read ≡ l.counter;
}
