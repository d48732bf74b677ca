use Rattle.std.proofs.Common.{map, take}
use Rattle.file_core.specs.SkippedRows.{skipped_content}
use Rattle.run_core.specs.CsvWriting.{AddsRows}
use Rattle.run_core.specs.SkippedTexts.{side_rows}
use Rattle.run_core.proofs.listing.push_side.Given as goal

-- the rows so far are written
abbrev pub invariant-loop-row : goal.invariant-loop-row
invariant-loop-row l = AddsRows l.initial.writer l.writer (side_rows l.side (map skipped_content (take l.row-index l.rows)))
