-- The list of the rows that were skipped, as CSV.
use Rattle.std.specs.Prelude.{ℕ, List, [], ◌∷◌, ◌++◌, codes, decimal, map}
use Rattle.row_core.specs.FaultTexts.{cause_text}
use Rattle.row_core.specs.RowFaults.{fault_of_text}
use Rattle.file_core.specs.SkippedRows.{SkippedContent}
use Rattle.report_core.specs.CsvTexts.{csv_text}
use Rattle.run_core.specs.EditedLayers.{SkippedLists}

abbrev pub skipped_header : List (List ℕ)
skipped_header = codes "side" ∷ codes "row" ∷ codes "id" ∷ codes "fault" ∷ []

-- the side, the row's number in its file, its id, and the fault of its geometry's text in words
abbrev pub skipped_row : List ℕ → SkippedContent → List (List ℕ)
skipped_row side row =
    side ∷ decimal row.row ∷ row.id ∷ cause_text (fault_of_text row.row row.fault) ∷ []

abbrev pub side_rows : List ℕ → List SkippedContent → List (List (List ℕ))
side_rows side rows = map (skipped_row side) rows

-- the header, and one record for each row: those of the left file, and then those of the right one
abbrev pub skipped_text : SkippedLists → List ℕ
skipped_text rows = csv_text (skipped_header
    ∷ (side_rows (codes "left") rows.left ++ side_rows (codes "right") rows.right))
