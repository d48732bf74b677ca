-- The content of a row of a layer's file: an id and a shape, or the row's own fault.
use Rattle.std.specs.Prelude.{◌≡◌, ◌≢◌, ◌⊎◌, ⊤, ℕ, List, [], get_or, length, IsTrue, Option, Some}
use Rattle.std.specs.Prelude.{None, option_map, Result, Ok, Err}
use Rattle.layer_core.specs.Ids.{id_bytes}
use Rattle.layer_core.specs.Refusals.{is_id}
use Rattle.layer_core.specs.declared.id.Id.{Id}
use Rattle.layer_core.specs.declared.fault.LayerFault.TheVariants.{BadId}
use Rattle.format_core.specs.declared.text_fault.TextFault.{TextFault}
use Rattle.format_core.specs.Layouts.{Reading, TextReading}
use Rattle.row_core.specs.declared.header.Places.{Places}
use Rattle.row_core.specs.declared.layer_row.LayerRowReader.{LayerRowReader}
use Rattle.row_core.specs.declared.layer_row.ReadRow.{ReadRow}
use Rattle.row_core.specs.declared.read_fault.ReadFault.{ReadFault}
use Rattle.row_core.specs.declared.read_fault.ReadFault.TheVariants.{Layer, Row}
use Rattle.row_core.specs.Fields.{AfterId, IsId}
use Rattle.row_core.specs.Records.{Record}

-- the places of the columns that are read, and how the texts of geometries read
pub record RowForm (G : Type 0) : Type 1 where
  pub places : Places
  pub text : TextReading G

-- the form of rows whose columns are at these places
abbrev pub form_at : {G : Type 0} → Reading G → Places → RowForm G
form_at reads places = record { places = places; text = reads.text }

abbrev pub form_of : {F G : Type 0} → (F → Reading G) → LayerRowReader F → RowForm G
form_of reads reader = form_at (reads reader.format) reader.places

-- the id of a row, unless its file has none, and its shape or the fault of the shape's text
pub record RowContent (G : Type 0) : Type 0 where
  pub id : Option (List ℕ)
  pub shape : Result G TextFault

abbrev pub content_of : {G : Type 0} → ReadRow G → RowContent G
content_of row = record { id = option_map id_bytes row.id; shape = row.shape }

abbrev pub HasIdLength : Option Id → Type 0
HasIdLength None = ⊤
HasIdLength (Some id) = IsTrue (is_id (id_bytes id))

-- the length of the row's id, if it has one, is that of an id
abbrev pub HasId : {G : Type 0} → ReadRow G → Type 0
HasId row = HasIdLength row.id

-- the field with the id, if the file has a column of ids
abbrev pub id_field : Places → Record → Option (List ℕ)
id_field places fields = option_map (λ place. get_or fields place []) places.id

-- a field of this row that has to be an id, if there is one, and the consequence if it is
abbrev pub AfterIdField : {A : Type 0} → ℕ → Option (List ℕ) → Result A ReadFault → Type 0 → Type 0
AfterIdField n None answer Then = Then
AfterIdField n (Some id) answer Then = AfterId n id answer Then

-- the field with the id, if there is one, is an id
abbrev pub AreGoodIds : Option (List ℕ) → Type 0
AreGoodIds None = ⊤
AreGoodIds (Some id) = IsId id

-- there is a field with the id, which is none: the fault of the row with this number
abbrev pub IsIdFault : ℕ → Option (List ℕ) → ReadFault → Type 0
IsIdFault n None fault = ⊥
IsIdFault n (Some id) fault = ¬ (IsId id) × (fault ≡ Layer n BadId)

-- the content of the row with this number, given the places of its columns and how its geometry
-- reads: a row has as many fields as the header
abbrev pub RowSays : {G : Type 0} → RowForm G → ℕ → Record → Result (RowContent G) ReadFault
    → Type 0
RowSays {G} form n fields content =
    ((length fields ≢ form.places.count) × (content ≡ Err (Row n)))
    ⊎ ((length fields ≡ form.places.count) × AfterIdField n (id_field form.places fields) content
    ((shape : Result G TextFault) × form.text (get_or fields form.places.geometry []) shape
    × (content ≡ Ok (record { id = id_field form.places fields; shape = shape }))))

-- the content of the row, whatever its number
abbrev pub Says : {G : Type 0} → RowForm G → Record → RowContent G → Type 0
Says form row content = (n : ℕ) → RowSays form n row (Ok content)
