use Rattle.std.proofs.Common.{map}
use Rattle.file_core.specs.SkippedRows.{skipped_content}
use Rattle.run_core.specs.Marks.{numbers_of}
use Rattle.run_core.proofs.MarkLemmas.{HasMarked}
use Rattle.run_core.proofs.marks.marked_rows.Given as goal

abbrev pub invariant-loop-feature : goal.invariant-loop-feature
invariant-loop-feature g l =
    HasMarked (g.M.Marks.is_marked l.marks) l.next (numbers_of (map skipped_content l.left)) l.feature-iterator l.rows.items
    (numbers_of (map skipped_content l.skipped)) l.fn.features
