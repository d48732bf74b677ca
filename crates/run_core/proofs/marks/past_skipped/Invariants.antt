use Rattle.std.proofs.Common.{drop, map}
use Rattle.file_core.specs.SkippedRows.{skipped_content}
use Rattle.run_core.specs.Marks.{numbers_of}
use Rattle.run_core.proofs.MarkLemmas.{HasSkipped}
use Rattle.run_core.proofs.marks.past_skipped.Given as goal

abbrev pub invariant-loop-i : goal.invariant-loop-i
invariant-loop-i l = HasSkipped l.row (numbers_of (map skipped_content l.skipped)) l.number (drop l.i (numbers_of (map skipped_content l.skipped)))
