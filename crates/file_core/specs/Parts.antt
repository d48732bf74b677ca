-- Parts of a text of records, and the rows read from them.
use Rattle.std.specs.Prelude.{◌≡◌, ◌+◌, ◌++◌, ℕ, List, [], length, All}
use Rattle.csv.specs.Reading.{default_config, records}
use Rattle.csv.specs.declared.parser.State.TheVariants.{StartRecord}
use Rattle.row_core.specs.declared.layer_row.ReadRow.{ReadRow}
use Rattle.file_core.specs.declared.parts.Parts.{Parts}
use Rattle.file_core.specs.Batches.{SayInTurn, all_rows}
use Rattle.row_core.specs.LayerRows.{HasId, RowForm}
use Rattle.row_core.specs.Cuts.{EndsBetween}

-- the rows of all parts
abbrev pub rows_of : {G : Type 0} → Parts G → List (ReadRow G)
rows_of parts = all_rows parts.rows.items

-- the text ends between two records, and these are its rows
pub record IsParts {G : Type 0} (form : RowForm G) (text : List ℕ) (parts : Parts G) : Type 0 where
  pub rows : SayInTurn form (records default_config text) (rows_of parts) []
  pub counted : parts.count ≡ length (rows_of parts)
  pub ends : EndsBetween StartRecord text
  pub ids : All HasId (rows_of parts)

-- the rows of the first, and then those of the second
pub record IsBoth {G : Type 0} (first second both : Parts G) : Type 0 where
  pub rows : rows_of both ≡ rows_of first ++ rows_of second
  pub count : both.count ≡ first.count + second.count

-- only these rows
pub record IsOnePart {G : Type 0} (read : List (ReadRow G)) (parts : Parts G) : Type 0 where
  pub rows : rows_of parts ≡ read
  pub count : parts.count ≡ length read
