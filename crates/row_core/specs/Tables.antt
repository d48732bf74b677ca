-- The rows of a layer's file, and the places at which its header has the columns that are read.
use Rattle.std.specs.Prelude.{◌≡◌, ◌≤◌, ◌<◌, ◌⊎◌, ℕ, List, [], ◌∷◌, length, map, get_or, codes}
use Rattle.std.specs.Prelude.{nat_lt, Option, Some, None, Result, Ok, Err, IsErrAnd, MatchResult}
use Rattle.std.specs.Bool.{MatchBool}
use Rattle.std.specs.Borrow.{Bor}
use Rattle.std.specs.Char.{to_ascii_lowercase}
use Rattle.number_core.specs.declared.limits.Limits.{Limits}
use Rattle.format_core.specs.declared.layout.Columns.{Columns}
use Rattle.format_core.specs.declared.layout.Columns.TheVariants.{Exact, Named}
use Rattle.format_core.specs.declared.layout.Layout.{Layout}
use Rattle.row_core.specs.declared.header.Places.{Places}
use Rattle.row_core.specs.declared.read_fault.ReadFault.{ReadFault}
use Rattle.row_core.specs.declared.read_fault.ReadFault.TheVariants.{TooLong}
use Rattle.row_core.specs.declared.rows.Rows.{Rows}
use Rattle.row_core.specs.Beginnings.{IsHeaderFault}
use Rattle.row_core.specs.Limits.{most_file_bytes}
use Rattle.row_core.specs.Records.{Record, records_of}
use Rattle.row_core.specs.Rows.{IsBehindFirst, IsHeader, RowsGive, last_row}

abbrev pub layer_columns : List (List ℕ)
layer_columns = codes "id" ∷ codes "wkt" ∷ []

-- the header has this name at this place, in any ASCII case
abbrev pub IsNamedAt : List ℕ → Record → ℕ → Type 0
IsNamedAt name header place =
    map to_ascii_lowercase (get_or header place []) ≡ map to_ascii_lowercase name

-- the header has this name at this place, and at no other
pub record IsOnlyAt (name : List ℕ) (header : Record) (place : ℕ) : Type 0 where
  pub within : place < length header
  pub named : IsNamedAt name header place
  pub only : (other : ℕ) → other < length header → IsNamedAt name header other → other ≡ place

-- the header has this name at no place from this one on
abbrev pub HasNoneFrom : List ℕ → Record → ℕ → Type 0
HasNoneFrom name header start =
    (place : ℕ) → start ≤ place → place < length header → ¬ (IsNamedAt name header place)

-- the first place from `start` on at which the header has this name
pub record IsNextNamed (name : List ℕ) (header : Record) (start place : ℕ) : Type 0 where
  pub from : start ≤ place
  pub within : place < length header
  pub named : IsNamedAt name header place
  pub none_before : (other : ℕ) → start ≤ other → other < place → ¬ (IsNamedAt name header other)

-- the place of the ids, if a name of their column is given
abbrev pub IsIdPlace : Option (Bor (List ℕ)) → Record → Option ℕ → Type 0
IsIdPlace None header place = place ≡ None
IsIdPlace (Some name) header None = ⊥
IsIdPlace (Some name) header (Some place) = IsOnlyAt name.now header place

-- the number of fields, and the places of the columns with these names
pub record AreNamed (ids : Option (Bor (List ℕ))) (geometries : List ℕ) (header : Record)
    (places : Places) : Type 0 where
  pub count : places.count ≡ length header
  pub id : IsIdPlace ids header places.id
  pub geometry : IsOnlyAt geometries header places.geometry

-- two fields, the id and then the geometry
abbrev pub plain_places : Places
plain_places = record { count = 2; id = Some 0; geometry = 1 }

-- the places of the columns that are read, in a file with this header
abbrev pub ArePlaces : Columns → Record → Places → Type 0
ArePlaces Exact header places = IsHeader layer_columns header × (places ≡ plain_places)
ArePlaces (Named id geometry) header places = AreNamed id geometry.now header places

-- the rows of a file, and the places of its columns
pub record Table : Type 0 where
  pub places : Places
  pub rows : List Record

-- the rows of a file of these bytes behind a header with these columns, or why there are none
abbrev pub IsTableBehind : Columns → List ℕ → List Record → Result Table ReadFault → Type 0
IsTableBehind columns bytes [] table = IsErrAnd table (IsHeaderFault bytes)
IsTableBehind columns bytes (header ∷ others) table =
    ((places : Places) × ArePlaces columns header places
    × (table ≡ Ok (record { places = places; rows = others })))
    ⊎ (((places : Places) → ¬ (ArePlaces columns header places))
    × IsErrAnd table (IsHeaderFault bytes))

-- the rows of a file with this layout and a number of bytes that the limits permit, or why there
-- are none
abbrev pub IsTable : Limits → Layout → List ℕ → Result Table ReadFault → Type 0
IsTable limits layout bytes table =
    MatchBool (nat_lt (most_file_bytes limits) (length bytes))
    (table ≡ Err TooLong)
    (IsTableBehind layout.columns bytes (records_of layout.delimiter bytes) table)

-- the result of a file with these limits and this layout: that of its rows, numbered from 1, or why
-- it has none
abbrev pub TableGives : {A : Type 0} → Limits → Layout
    → (Places → ℕ → A → Record → Result A ReadFault → Type 0) → A → List ℕ → Result A ReadFault
    → Type 0
TableGives limits layout RowGives start bytes answer =
    (table : Result Table ReadFault) × IsTable limits layout bytes table
    × MatchResult table (λ t. RowsGive (RowGives t.places) 1 start t.rows answer)
    (λ fault. answer ≡ Err fault)

-- the rows of a file with this layout, before any was read, and the places of its columns
pub record IsOpenedTable (limits : Limits) (layout : Layout) (bytes : List ℕ) (rows : Rows)
    (places : Places) : Type 0 where
  pub behind : IsBehindFirst limits layout.delimiter bytes rows
  pub placed : ArePlaces layout.columns (last_row rows) places
