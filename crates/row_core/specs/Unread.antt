-- The part of a layer's file that isn't read yet.
use Rattle.std.specs.Prelude.{◌≡◌, ◌≤◌, ◌+◌, ℕ, List, [], ◌∷◌, ◌++◌, length, Ok}
use Rattle.csv.specs.Reading.{default_config, records, strip_bom}
use Rattle.csv.specs.declared.parser.State.TheVariants.{StartRecord}
use Rattle.number_core.specs.declared.limits.Limits.{Limits}
use Rattle.format_core.specs.declared.layout.Columns.{Columns}
use Rattle.format_core.specs.declared.layout.Delimiter.TheVariants.{Comma}
use Rattle.format_core.specs.declared.layout.Layout.{Layout}
use Rattle.row_core.specs.declared.header.Places.{Places}
use Rattle.row_core.specs.declared.unread.Unread.{Unread}
use Rattle.row_core.specs.declared.unread.Unread.TheVariants.{Text, Rows}
use Rattle.row_core.specs.Cuts.{EndsBetween, IsPlain}
use Rattle.row_core.specs.Limits.{most_file_bytes}
use Rattle.row_core.specs.Records.{Record, records_of}
use Rattle.row_core.specs.Rows.{IsReading, most_rows, rows_left, rows_read}
use Rattle.row_core.specs.Tables.{ArePlaces, IsTable}

-- the remaining rows
abbrev pub records_unread : Unread → List Record
records_unread (Text text count) = records default_config text.now
records_unread (Rows rows) = rows_left rows

-- the number of rows read
abbrev pub count_unread : Unread → ℕ
count_unread (Text text count) = count
count_unread (Rows rows) = rows_read rows

-- the rows can be read without change, and can be numbered
abbrev pub IsUnread : Unread → Type 0
IsUnread (Text text count) =
    IsPlain text.now × (count + length (records default_config text.now) ≤ most_rows)
IsUnread (Rows rows) = IsReading rows

-- all rows of a file with these limits and this layout, and the places of its columns
pub record IsUnreadFile (limits : Limits) (layout : Layout) (bytes : List ℕ) (unread : Unread)
    (places : Places) : Type 0 where
  pub table : IsTable limits layout bytes
      (Ok (record { places = places; rows = records_unread unread }))
  pub none_read : count_unread unread ≡ 0
  pub reading : IsUnread unread

-- the line has a header with these columns at these places as its only record, even if a mark
-- precedes it
pub record IsHeaderLine (columns : Columns) (line : List ℕ) (places : Places) : Type 0 where
  pub header : Record
  pub placed : ArePlaces columns header places
  pub records : records_of Comma line ≡ header ∷ []
  pub ends : EndsBetween StartRecord (strip_bom line)
  pub long : 3 ≤ length line

-- a file with commas whose first line consists of the header alone, and whose rest is plain
pub record IsHeaded (limits : Limits) (layout : Layout) (bytes rest : List ℕ) (places : Places)
    : Type 0 where
  pub commas : layout.delimiter ≡ Comma
  pub line : List ℕ
  pub whole : line ++ rest ≡ bytes
  pub few : length bytes ≤ most_file_bytes limits
  pub headed : IsHeaderLine layout.columns line places
  pub plain : IsPlain rest
