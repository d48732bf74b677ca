-- The records of a CSV text, and those that a reader of it hasn't read yet.
use Rattle.std.specs.Prelude.{◌≡◌, ◌+◌, ℕ, true, false, List, [], ◌∷◌, length, IsTrue, Option, Some}
use Rattle.std.specs.Prelude.{unwrap_or}
use Rattle.std.specs.Borrow.{Bor}
use Rattle.csv.specs.Machine.{ends_at_end}
use Rattle.csv.specs.Reading.{Ready, default_config, is_flexible, reader_config, reader_state}
use Rattle.csv.specs.Reading.{reader_trim, records, records_from, source_of, stops_reader}
use Rattle.csv.specs.Reading.{strip_bom}
use Rattle.csv.specs.declared.error.ErrorKind.{ErrorKind}
use Rattle.csv.specs.declared.parser.Config.{Config}
use Rattle.csv.specs.declared.reader.Reader.{Reader}
use Rattle.csv.specs.declared.reader.Trim.TheVariants as trim
use Rattle.format_core.specs.declared.layout.Delimiter.{Delimiter}
use Rattle.format_core.specs.Layouts.{delimiter_byte}

-- a record, as the list of its fields
abbrev pub Record : Type 0
Record = List (List ℕ)

-- how `csv` reads records by default, with this byte between their fields
abbrev pub config_of : ℕ → Config
config_of delimiter = record default_config { delimiter = delimiter }

-- the records that `csv` reads from a text with this character between fields, without a byte order
-- mark at its start
abbrev pub records_of : Delimiter → List ℕ → List Record
records_of delimiter text = records (config_of (delimiter_byte delimiter)) (strip_bom text)

abbrev pub source : Reader (Bor (List ℕ)) → Option (List ℕ)
source reader = source_of (λ s. Some s.now) reader

-- the bytes that a reader hasn't read yet
abbrev pub unread : Reader (Bor (List ℕ)) → List ℕ
unread reader = unwrap_or (source reader) []

-- the records that a reader hasn't read yet
abbrev pub records_left : Reader (Bor (List ℕ)) → List Record
records_left reader = records_from (reader_config reader) (length (unread reader) + 1)
    (reader_state reader) (unread reader)

-- the reader is between two records, and reads each unchanged and of any length, by default but for
-- the byte between fields
pub record IsBetweenRecords (reader : Reader (Bor (List ℕ))) : Type 0 where
  pub trim : reader_trim reader ≡ trim.None
  pub flexible : is_flexible reader ≡ true
  pub ready : Ready reader
  pub config : reader_config reader ≡ config_of (reader_config reader).delimiter
  pub known : source reader ≡ Some (unread reader)
  pub between : ends_at_end (reader_state reader) ≡ false

-- the first remaining record was read, and the others remain
pub record TakesRecord (old : Reader (Bor (List ℕ))) (fields : Record) (new : Reader (Bor (List ℕ)))
    : Type 0 where
  pub records : records_left old ≡ fields ∷ records_left new
  pub reading : IsBetweenRecords new

-- memory was refused or the bytes could not be read; no record is at fault
abbrev pub IsRefusedOrUnread : ErrorKind → Type 0
IsRefusedOrUnread kind = IsTrue (stops_reader kind)
