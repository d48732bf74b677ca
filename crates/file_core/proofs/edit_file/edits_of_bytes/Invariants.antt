use Rattle.std.proofs.Common.{◌+◌, ◌≤◌, List, Result, length, map}
use Rattle.row_core.specs.declared.read_fault.ReadFault.{ReadFault}
use Rattle.file_core.specs.EditFiles.{IsEditFile, EditsRowGives}
use Rattle.layer_core.specs.Edits.{EditContent, content_of}
use Rattle.row_core.specs.Rows.{IsReading, RowsGive, most_rows, rows_left, rows_read}
use Rattle.file_core.proofs.edit_file.edits_of_bytes.Given as goal

-- the remaining rows have the result of the file, and each row so far gave an edit
abbrev pub invariant-loop-edits : goal.invariant-loop-edits
invariant-loop-edits g l =
    IsReading l.rows
    × (length l.edits.items + length (rows_left l.rows) ≤ most_rows)
    × ((answer : Result (List (EditContent _)) ReadFault) → RowsGive (EditsRowGives (g.F.Format.reads l.fn.format).text) (rows_read l.rows + 1) (map content_of l.edits.items)
    (rows_left l.rows) answer → IsEditFile (g.F.Format.reads l.fn.format) l.bytes answer)

abbrev pub decreases-loop-edits : goal.decreases-loop-edits
decreases-loop-edits g l = length (rows_left l.rows)
