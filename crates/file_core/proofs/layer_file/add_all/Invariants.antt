use Rattle.std.proofs.Common.{◌≡◌, Result}
use Rattle.row_core.specs.declared.read_fault.ReadFault.{ReadFault}
use Rattle.row_core.specs.declared.unread.Unread.{Unread}
use Rattle.file_core.specs.Batches.{CanNumber, IsBatch, UnreadGive, all_rows}
use Rattle.file_core.specs.SkippedRows.{Loaded, loaded_of, rows_in}
use Rattle.row_core.specs.LayerRows.{form_of}
use Rattle.row_core.specs.Unread.{count_unread}
use Rattle.file_core.proofs.BatchLemmas.{most_rounds}
use Rattle.file_core.proofs.layer_file.add_all.Given as goal

-- what the rows of the batch and those behind it give from here, all rows give, and each row before
-- them was loaded
abbrev pub invariant-loop-round : goal.invariant-loop-round
invariant-loop-round g l =
    (old : Unread) × IsBatch (form_of g.F.Format.reads l.reader) old (all_rows l.round.batch.rows.items) l.round.batch.more l.round.unread
    × (count_unread old ≡ rows_in (loaded_of l.round.loading))
    × CanNumber (loaded_of l.round.loading) (all_rows l.round.batch.rows.items)
    × ((answer : Result (Loaded _) ReadFault) → UnreadGive (form_of g.F.Format.reads l.reader) old (loaded_of l.round.loading) answer
    → UnreadGive (form_of g.F.Format.reads l.reader) l.fn.unread (loaded_of l.fn.loading) answer)

abbrev pub decreases-loop-round : goal.decreases-loop-round
decreases-loop-round g l = most_rounds l.round.unread l.round.batch.more
