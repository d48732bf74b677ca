-- The result of a file, from its header and its rows.
use Rattle.std.proofs.Common.{◌≡◌, ◌≢◌, ℕ, ◌+◌, ◌<◌, ◌≤◌, Bool, true, false, List, [], ◌∷◌, length, Option, Some, None, IfSome, Result, Ok, Err, if◌then◌else◌, nat_lt}
use Rattle.std.proofs.Common.{refl, ap, inl, inr, arith, le-ltb, lt-ltb}
use Rattle.std.specs.Bool.{MatchBool}
use Rattle.csv.specs.Reading.{is_bom, strip_bom}
use Rattle.csv.specs.declared.parser.State.TheVariants as st
use Rattle.number_core.specs.declared.limits.Limits.{Limits}
use Rattle.number_core.specs.declared.limits.Limits.TheVariants.{Any, Boxes}
use Rattle.format_core.specs.declared.layout.Delimiter.{Delimiter}
use Rattle.format_core.specs.declared.layout.Delimiter.TheVariants.{Comma}
use Rattle.format_core.specs.declared.layout.Layout.{Layout}
use Rattle.format_core.specs.Layouts.{delimiter_byte}
use Rattle.row_core.specs.declared.header.Places.{Places}
use Rattle.row_core.specs.declared.rows.Rows.{Rows}
use Rattle.row_core.specs.declared.read_fault.ReadFault.{ReadFault}
use Rattle.row_core.specs.declared.read_fault.ReadFault.TheVariants.{Io, TooLong, Memory}
use Rattle.row_core.specs.Beginnings.{IsHeaderFault}
use Rattle.row_core.specs.Limits.{most_file_bytes}
use Rattle.row_core.specs.Records.{Record, records_of}
use Rattle.row_core.specs.Rows.{AreBehindHeader, AreRows, FileGives, HasNoFirst, IsHeader, last_row, most_rows, rows_left}
use Rattle.row_core.specs.Tables.{ArePlaces, IsOpenedTable, IsTable, IsTableBehind, Table, TableGives}
use Rattle.row_core.specs.Sources.{IsReadingFault}
use Rattle.row_core.proofs.RecordLemmas.{length_records_from}

-- the rows of a file of any limits can be numbered
pub file_fits : (limits : Limits) → most_file_bytes limits ≤ most_rows
file_fits Boxes = omega arith
file_fits Any = omega arith

module _ (limits : Limits) (columns : List (List ℕ)) (bytes : List ℕ) (few : length bytes ≤ most_file_bytes limits) where
  -- the rows after a header with these columns
  pub rows-headed : (header : Record) (rows : List Record) → records_of Comma bytes ≡ header ∷ rows → IsHeader columns header → AreRows limits columns bytes (Ok rows)
  rows-headed header rows records headed = rw (le-ltb (most_file_bytes limits) (length bytes) few, records) (inl (headed, refl))

  pub rows-unheaded : (header : Record) (rows : List Record) → records_of Comma bytes ≡ header ∷ rows → ¬ (IsHeader columns header)
      → (fault : ReadFault) → IsHeaderFault bytes fault → AreRows limits columns bytes (Err fault)
  rows-unheaded header rows records unheaded fault says = rw (le-ltb (most_file_bytes limits) (length bytes) few, records) (inr (unheaded, says))

-- a file without a first record
pub rows-headless : (limits : Limits) (columns : List (List ℕ)) (bytes : List ℕ) (fault : ReadFault) → HasNoFirst limits Comma bytes fault → AreRows limits columns bytes (Err fault)
rows-headless limits columns bytes fault none = by (nat_lt (most_file_bytes limits) (length bytes)) none
  where
    none_are : Result (List Record) ReadFault
    none_are = Err fault

    by : (t : Bool) → MatchBool t (fault ≡ TooLong) ((records_of Comma bytes ≡ []) × IsHeaderFault bytes fault)
        → MatchBool t (none_are ≡ Err TooLong) (AreBehindHeader columns bytes (records_of Comma bytes) none_are)
    by true is = ap Err is
    by false (empty, says) = rw empty says

pub table-headless : (limits : Limits) (layout : Layout) (bytes : List ℕ) (fault : ReadFault) → HasNoFirst limits layout.delimiter bytes fault → IsTable limits layout bytes (Err fault)
table-headless limits layout bytes fault none = by (nat_lt (most_file_bytes limits) (length bytes)) none
  where
    no_table : Result Table ReadFault
    no_table = Err fault

    by : (t : Bool) → MatchBool t (fault ≡ TooLong) ((records_of layout.delimiter bytes ≡ []) × IsHeaderFault bytes fault)
        → MatchBool t (no_table ≡ Err TooLong) (IsTableBehind layout.columns bytes (records_of layout.delimiter bytes) no_table)
    by true is = ap Err is
    by false (empty, says) = rw empty says

-- the rows after a header with the columns of a layout, and those of a file with another header
module _ (limits : Limits) (layout : Layout) (bytes : List ℕ) (header : Record) (rows : List Record) (few : length bytes ≤ most_file_bytes limits)
    (records : records_of layout.delimiter bytes ≡ header ∷ rows) where
  pub table-placed : (places : Places) → ArePlaces layout.columns header places → IsTable limits layout bytes (Ok (record { places = places; rows = rows }))
  table-placed places placed = rw (le-ltb (most_file_bytes limits) (length bytes) few, records) (inl (places, placed, refl))

  pub table-unplaced : ((places : Places) → ¬ (ArePlaces layout.columns header places)) → (fault : ReadFault) → IsHeaderFault bytes fault
      → IsTable limits layout bytes (Err fault)
  table-unplaced none fault says = rw (le-ltb (most_file_bytes limits) (length bytes) few, records) (inr (none, says))

pub table-opened : (limits : Limits) (layout : Layout) (bytes : List ℕ) (rows : Rows) (places : Places) → IsOpenedTable limits layout bytes rows places
    → IsTable limits layout bytes (Ok (record { places = places; rows = rows_left rows }))
table-opened limits layout bytes rows places opened =
    table-placed limits layout bytes (last_row rows) (rows_left rows) opened.behind.short opened.behind.records places opened.placed

strip-le : (bytes : List ℕ) → length (strip_bom bytes) ≤ length bytes
unfolding strip_bom
strip-le [] = omega arith
strip-le (a ∷ []) = omega arith
strip-le (a ∷ b ∷ []) = omega arith
strip-le (a ∷ b ∷ c ∷ rest) = by (is_bom a b c)
  where
    by : (t : Bool) → length (if t then rest else a ∷ b ∷ c ∷ rest) ≤ length (a ∷ b ∷ c ∷ rest)
    by true = omega arith
    by false = omega arith

-- there are no more records than bytes, and one
pub length-records_of : (delimiter : Delimiter) (bytes : List ℕ) → length (records_of delimiter bytes) ≤ length bytes + 1
length-records_of delimiter bytes = omega (arith, length_records_from (delimiter_byte delimiter) (length (strip_bom bytes) + 1) st.StartRecord (strip_bom bytes), strip-le bytes)

-- a file that is not read to its end, for its length if it is known
pub table-unread : {A : Type 0} (limits : Limits) (layout : Layout) (RowGives : Places → ℕ → A → Record → Result A ReadFault → Type 0) (start : A)
    (left : Option (List ℕ)) (fault : ReadFault) → IsReadingFault fault
    → (fault ≡ TooLong → IfSome left (λ bytes. most_file_bytes limits < length bytes)) → fault ≢ Io → fault ≢ Memory
    → IfSome left (λ bytes. TableGives limits layout RowGives start bytes (Err fault))
table-unread limits layout RowGives start None fault is long no_io no_memory = tt
table-unread limits layout RowGives start (Some bytes) fault (inl io) long no_io no_memory = absurd (no_io io)
table-unread limits layout RowGives start (Some bytes) fault (inr (inl too_long)) long no_io no_memory =
    (Err TooLong, rw (lt-ltb (most_file_bytes limits) (length bytes) (long too_long)) refl, ap Err too_long)
table-unread limits layout RowGives start (Some bytes) fault (inr (inr memory)) long no_io no_memory = absurd (no_memory memory)

pub file-unread : {A : Type 0} (limits : Limits) (columns : List (List ℕ)) (RowGives : ℕ → A → Record → Result A ReadFault → Type 0) (start : A)
    (left : Option (List ℕ)) (fault : ReadFault) → IsReadingFault fault
    → (fault ≡ TooLong → IfSome left (λ bytes. most_file_bytes limits < length bytes)) → fault ≢ Io → fault ≢ Memory
    → IfSome left (λ bytes. FileGives limits columns RowGives start bytes (Err fault))
file-unread limits columns RowGives start None fault is long no_io no_memory = tt
file-unread limits columns RowGives start (Some bytes) fault (inl io) long no_io no_memory = absurd (no_io io)
file-unread limits columns RowGives start (Some bytes) fault (inr (inl too_long)) long no_io no_memory =
    (Err TooLong, rw (lt-ltb (most_file_bytes limits) (length bytes) (long too_long)) refl, ap Err too_long)
file-unread limits columns RowGives start (Some bytes) fault (inr (inr memory)) long no_io no_memory = absurd (no_memory memory)
