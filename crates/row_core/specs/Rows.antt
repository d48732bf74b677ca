-- The rows of a CSV file: their joint result, and reading them in order.
use Rattle.std.specs.Prelude.{◌≡◌, ◌≤◌, ◌+◌, ◌⊎◌, ℕ, Bool, false, List, [], ◌∷◌, length, map}
use Rattle.std.specs.Prelude.{nat_lt, Result, Ok, Err, IsErrAnd, MatchResult}
use Rattle.std.specs.Bool.{MatchBool}
use Rattle.std.specs.Char.{to_ascii_lowercase}
use Rattle.csv.specs.Records.{fields_of}
use Rattle.number_core.specs.declared.limits.Limits.{Limits}
use Rattle.format_core.specs.declared.layout.Delimiter.{Delimiter}
use Rattle.format_core.specs.declared.layout.Delimiter.TheVariants.{Comma}
use Rattle.row_core.specs.declared.read_fault.ReadFault.{ReadFault}
use Rattle.row_core.specs.declared.read_fault.ReadFault.TheVariants.{TooLong}
use Rattle.row_core.specs.declared.rows.Rows.{Rows}
use Rattle.row_core.specs.Beginnings.{IsHeaderFault}
use Rattle.row_core.specs.Cuts.{IsClosed}
use Rattle.row_core.specs.Limits.{most_file_bytes}
use Rattle.row_core.specs.Records.{Record, records_of, records_left, IsBetweenRecords}

abbrev pub lowercase : Record → Record
lowercase fields = map (map to_ascii_lowercase) fields

-- the record names these columns, in any ASCII case
abbrev pub IsHeader : List (List ℕ) → Record → Type 0
IsHeader columns header = lowercase header ≡ lowercase columns

-- the records of a file of these bytes after a header with these columns, or why there are none
abbrev pub AreBehindHeader : List (List ℕ) → List ℕ → List Record → Result (List Record) ReadFault
    → Type 0
AreBehindHeader columns bytes [] rows = IsErrAnd rows (IsHeaderFault bytes)
AreBehindHeader columns bytes (header ∷ others) rows =
    (IsHeader columns header × (rows ≡ Ok others))
    ⊎ (¬ (IsHeader columns header) × IsErrAnd rows (IsHeaderFault bytes))

-- the rows of a file with these columns and a number of bytes that the limits permit, or why there
-- are none
abbrev pub AreRows : Limits → List (List ℕ) → List ℕ → Result (List Record) ReadFault → Type 0
AreRows limits columns bytes rows =
    MatchBool (nat_lt (most_file_bytes limits) (length bytes))
    (rows ≡ Err TooLong)
    (AreBehindHeader columns bytes (records_of Comma bytes) rows)

-- the result of the rows in order, starting with this number, each applied to the result of those
-- before it: that of all of them, or the fault of the first that has one
abbrev pub RowsGive : {A : Type 0} → (ℕ → A → Record → Result A ReadFault → Type 0)
    → ℕ → A → List Record → Result A ReadFault → Type 0
RowsGive RowGives n sofar [] answer = answer ≡ Ok sofar
RowsGive {A} RowGives n sofar (row ∷ rows) answer =
    (next : Result A ReadFault) × RowGives n sofar row next
    × MatchResult next (λ a. RowsGive RowGives (n + 1) a rows answer) (λ fault. answer ≡ Err fault)

-- the result of a file with these limits and columns: that of its rows, numbered from 1, or why it
-- has none
abbrev pub FileGives : {A : Type 0} → Limits → List (List ℕ)
    → (ℕ → A → Record → Result A ReadFault → Type 0) → A → List ℕ → Result A ReadFault → Type 0
FileGives limits columns RowGives start bytes answer =
    (rows : Result (List Record) ReadFault) × AreRows limits columns bytes rows
    × MatchResult rows (λ rows. RowsGive RowGives 1 start rows answer) (λ fault. answer ≡ Err fault)

-- ---- reading them

-- the fields of the last row read
abbrev pub last_row : Rows → Record
last_row rows = fields_of rows.records.value.last

-- the remaining rows
abbrev pub rows_left : Rows → List Record
rows_left rows = records_left rows.records.value.reader

-- the number of rows read
abbrev pub rows_read : Rows → ℕ
rows_read rows = rows.count

-- whether a record was read whose last field ends with a line feed
abbrev pub has_unended : Rows → Bool
has_unended rows = rows.unended

-- the greatest number of a row
abbrev pub most_rows : ℕ
most_rows = 4294967295

-- the reader is between two rows, and the remaining ones can be numbered
pub record IsReading (rows : Rows) : Type 0 where
  pub reader : IsBetweenRecords rows.records.value.reader
  pub few : rows_read rows + length (rows_left rows) ≤ most_rows

-- the rows of a file behind its first record, which was read last
pub record IsBehindFirst (limits : Limits) (delimiter : Delimiter) (bytes : List ℕ) (rows : Rows)
    : Type 0 where
  pub short : length bytes ≤ most_file_bytes limits
  pub records : records_of delimiter bytes ≡ last_row rows ∷ rows_left rows
  pub closed : has_unended rows ≡ false → IsClosed (last_row rows)
  pub none_read : rows_read rows ≡ 0
  pub reading : IsReading rows

-- why a file has no first record
abbrev pub HasNoFirst : Limits → Delimiter → List ℕ → ReadFault → Type 0
HasNoFirst limits delimiter bytes fault =
    MatchBool (nat_lt (most_file_bytes limits) (length bytes))
    (fault ≡ TooLong)
    ((records_of delimiter bytes ≡ []) × IsHeaderFault bytes fault)

-- the rows of a file with these columns, before any was read
pub record IsOpened (limits : Limits) (columns : List (List ℕ)) (bytes : List ℕ) (rows : Rows)
    : Type 0 where
  pub behind_header : AreRows limits columns bytes (Ok (rows_left rows))
  pub none_read : rows_read rows ≡ 0
  pub reading : IsReading rows

-- no row remained
pub record IsEnded (old new : Rows) : Type 0 where
  pub none_left : rows_left old ≡ []
  pub same : has_unended new ≡ has_unended old

-- the first remaining row was read, and this is its number
pub record ReadsRow (old : Rows) (number : ℕ) (new : Rows) : Type 0 where
  pub row : rows_left old ≡ last_row new ∷ rows_left new
  pub numbered : number ≡ rows_read old + 1
  pub counted : rows_read new ≡ number
  pub closed : has_unended new ≡ false
      → (has_unended old ≡ false) × IsClosed (last_row new)
  pub reading : IsReading new
