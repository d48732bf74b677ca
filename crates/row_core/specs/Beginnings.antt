-- What a file without the columns that are read begins with.
use Rattle.std.specs.Prelude.{◌≡◌, ◌⊎◌, ◌≤◌, ◌<◌, ℕ, Bool, false, List, [], ◌∷◌, codes, get_or}
use Rattle.std.specs.Prelude.{if◌then◌else◌, IsTrue, length, map, take}
use Rattle.std.specs.Str.{bytes_eq}
use Rattle.row_core.specs.declared.beginning.Beginning.{Beginning}
use Rattle.row_core.specs.declared.beginning.Beginning.TheVariants as begins
use Rattle.row_core.specs.declared.first_line.FirstLine.{FirstLine}
use Rattle.row_core.specs.FirstLines.{is_line_end, most_told, shown}
use Rattle.row_core.specs.declared.read_fault.ReadFault.{ReadFault}
use Rattle.row_core.specs.declared.read_fault.ReadFault.TheVariants as read_faults

abbrev pub line_text : FirstLine → List ℕ
line_text line = take line.len line.bytes

-- the bytes up to the end of the file's first line, at most 64, as they are told
pub record IsFirstLine (bytes : List ℕ) (line : FirstLine) : Type 0 where
  pub text : line_text line ≡ map shown (take line.len bytes)
  pub one_line : (place : ℕ) → place < line.len → is_line_end (get_or bytes place 0) ≡ false
  pub ended : (line.len ≡ most_told) ⊎ (length bytes ≤ line.len)
      ⊎ IsTrue (is_line_end (get_or bytes line.len 0))

abbrev pub begins_with : List ℕ → List ℕ → Bool
begins_with bytes others = bytes_eq (take (length others) bytes) others

-- what the first bytes of a file say
pub data FirstBytes : Type 0 where
  geo_package shapefile gzip json other : FirstBytes

abbrev pub first_bytes : List ℕ → FirstBytes
first_bytes bytes =
    if begins_with bytes (codes "SQLite format 3") then geo_package
    else if begins_with bytes (0 ∷ 0 ∷ 39 ∷ 10 ∷ []) then shapefile
    else if begins_with bytes (31 ∷ 139 ∷ []) then gzip
    else if begins_with bytes (codes "{") then json
    else other

-- what the file begins with: what its first bytes say, else its first line
abbrev pub IsBeginning : List ℕ → Beginning → Type 0
IsBeginning bytes (begins.Line line) = (first_bytes bytes ≡ other) × IsFirstLine bytes line
IsBeginning bytes begins.GeoPackage = first_bytes bytes ≡ geo_package
IsBeginning bytes begins.Shapefile = first_bytes bytes ≡ shapefile
IsBeginning bytes begins.Gzip = first_bytes bytes ≡ gzip
IsBeginning bytes begins.Json = first_bytes bytes ≡ json

-- the fault of a file without the columns that are read, which says what the file begins with
abbrev pub IsHeaderFault : List ℕ → ReadFault → Type 0
IsHeaderFault bytes fault =
    (beginning : Beginning) × IsBeginning bytes beginning
    × (fault ≡ read_faults.Header beginning)
