-- A CSV writer over memory, between two rows.
use Rattle.std.specs.Prelude.{◌≡◌, false, ℕ, List, [], ◌∷◌, ◌++◌, Option, Some}
use Rattle.std.specs.Global.{Global}
use Rattle.std.specs.declared.vec.Vec.{Vec}
use Rattle.csv.specs.Writing.{default_writer, writer_setup, fields_written, has_written}
use Rattle.csv.specs.Writing.{text_written}
use Rattle.csv.specs.declared.writer.Writer.{Writer}
use Rattle.report_core.specs.CsvTexts.{csv_text}

-- the contents of memory as a writer reports them
abbrev pub contents_of : Vec ℕ Global → Option (List ℕ)
contents_of text = Some text.items

-- the writer has the default settings of `csv`, has ended its last row, and has written these rows
pub record HasRows (writer : Writer (Vec ℕ Global)) (rows : List (List (List ℕ))) : Type 0 where
  pub setup : writer_setup writer ≡ default_writer
  pub ended : fields_written writer ≡ 0
  pub clean : has_written writer ≡ false
  pub written : text_written contents_of writer ≡ Some (csv_text rows)

-- one more row is written
abbrev pub AddsRow : Writer (Vec ℕ Global) → Writer (Vec ℕ Global) → List (List ℕ) → Type 0
AddsRow old new row =
    (rows : List (List (List ℕ))) → HasRows old rows → HasRows new (rows ++ row ∷ [])

-- more rows are written
abbrev pub AddsRows : Writer (Vec ℕ Global) → Writer (Vec ℕ Global) → List (List (List ℕ)) → Type 0
AddsRows old new more =
    (rows : List (List (List ℕ))) → HasRows old rows → HasRows new (rows ++ more)
