-- A layer's file, read with or without the rows whose geometry can't be read.
use Rattle.std.specs.Prelude.{◌≡◌, ◌+◌, ℕ, List, [], ◌∷◌, ◌++◌, length, map, Result, Ok, Err}
use Rattle.format_core.specs.declared.text_fault.TextFault.{TextFault}
use Rattle.format_core.specs.Layouts.{Reading}
use Rattle.layer_core.specs.Ids.{id_bytes}
use Rattle.layer_core.specs.Layers.{Contents, empty, inserted}
use Rattle.layer_core.specs.Refusals.{insert_refusal}
use Rattle.file_core.specs.declared.loading.Loading.{Loading}
use Rattle.row_core.specs.declared.read_fault.ReadFault.{ReadFault}
use Rattle.file_core.specs.declared.skipped.SkippedRow.{SkippedRow}
use Rattle.file_core.specs.declared.skipped.Unreadable.{Unreadable}
use Rattle.file_core.specs.declared.skipped.Unreadable.TheVariants.{Refuse, Skip}
use Rattle.file_core.specs.declared.skipped.WithSkipped.{WithSkipped}
use Rattle.file_core.specs.LayerFiles.{IsLayerFile, id_in, refused_or}
use Rattle.row_core.specs.LayerRows.{RowContent, RowForm, RowSays, form_at}
use Rattle.row_core.specs.Records.{Record}
use Rattle.row_core.specs.Tables.{TableGives}
use Rattle.row_core.specs.RowFaults.{fault_of_text}

-- a row that was skipped: its number in the file, its id, and the fault of its geometry's text
pub record SkippedContent : Type 0 where
  pub row : ℕ
  pub id : List ℕ
  pub fault : TextFault

-- whether unreadable rows are skipped, the layer of the rows that were not, and those that were
pub record Loaded (G : Type 0) : Type 0 where
  pub unreadable : Unreadable
  pub list : Contents G
  pub skipped : List SkippedContent

-- before the first row
abbrev pub begun : {G : Type 0} → Unreadable → Loaded G
begun unreadable = record { unreadable = unreadable; list = empty; skipped = [] }

-- the number of rows, each of which was inserted or skipped
abbrev pub rows_in : {G : Type 0} → Loaded G → ℕ
rows_in loaded = loaded.list.next + length loaded.skipped

-- after a row with this number and id whose geometry has this fault
abbrev pub with_unreadable : {G : Type 0} → Unreadable → ℕ → Loaded G → List ℕ → TextFault
    → Result (Loaded G) ReadFault
with_unreadable Refuse n loaded id fault = Err (fault_of_text n fault)
with_unreadable Skip n loaded id fault = Ok (record loaded {
  skipped = loaded.skipped ++ record { row = n; id = id; fault = fault } ∷ [];
})

-- after a row with this number and id whose geometry's text reads as this
abbrev pub with_reading : {G : Type 0} → ℕ → Loaded G → List ℕ → Result G TextFault
    → Result (Loaded G) ReadFault
with_reading n loaded id (Ok shape) =
    refused_or n (insert_refusal loaded.list id)
    (record loaded { list = inserted loaded.list id shape })
with_reading n loaded id (Err fault) = with_unreadable loaded.unreadable n loaded id fault

-- after the row with this number, unless it has a fault
abbrev pub loaded_with : {G : Type 0} → ℕ → Loaded G → Result (RowContent G) ReadFault
    → Result (Loaded G) ReadFault
loaded_with n loaded (Ok row) = with_reading n loaded (id_in n row.id) row.shape
loaded_with n loaded (Err fault) = Err fault

-- the result of the row with this number, after those before it, given the form of rows
abbrev pub LoadsRow : {G : Type 0} → RowForm G → ℕ → Loaded G → Record
    → Result (Loaded G) ReadFault → Type 0
LoadsRow {G} form n loaded row answer =
    (content : Result (RowContent G) ReadFault) × RowSays form n row content
    × (answer ≡ loaded_with n loaded content)

abbrev pub LoadsFile : {G : Type 0} → Reading G → Unreadable → List ℕ
    → Result (Loaded G) ReadFault → Type 0
LoadsFile reads unreadable bytes answer = TableGives reads.limits reads.layout
    (λ places. LoadsRow (form_at reads places)) (begun unreadable) bytes answer

-- the layer of a file that is read in this way, or its fault
abbrev pub IsLayerFileBy : {G : Type 0} → Reading G → Unreadable → List ℕ
    → Result (Contents G) ReadFault → Type 0
IsLayerFileBy reads Refuse bytes answer = IsLayerFile reads bytes answer
IsLayerFileBy reads Skip bytes (Ok layer) = (rows : List SkippedContent)
    × LoadsFile reads Skip bytes (Ok (record { unreadable = Skip; list = layer; skipped = rows }))
IsLayerFileBy reads Skip bytes (Err fault) = LoadsFile reads Skip bytes (Err fault)

-- the rows of a file that are skipped where it is read in this way
abbrev pub AreSkipped : {G : Type 0} → Reading G → Unreadable → List ℕ → List SkippedContent
    → Type 0
AreSkipped {G} reads unreadable bytes rows = (layer : Contents G) × LoadsFile reads unreadable bytes
    (Ok (record { unreadable = unreadable; list = layer; skipped = rows }))

-- ---- the values that stand for these

abbrev pub skipped_content : SkippedRow → SkippedContent
skipped_content row = record { row = row.row; id = id_bytes row.id; fault = row.fault }

abbrev pub loaded_of : {G : Type 0} → Loading (Contents G) → Loaded G
loaded_of loading = record {
  unreadable = loading.unreadable;
  list = loading.features;
  skipped = map skipped_content loading.skipped.items;
}

-- what was loaded, or the fault
abbrev pub loaded_or : {G : Type 0} → Result (Loading (Contents G)) ReadFault
    → Result (Loaded G) ReadFault
loaded_or (Ok loading) = Ok (loaded_of loading)
loaded_or (Err fault) = Err fault

-- what is read of a file in this way, and the rows that are skipped
abbrev pub with_skipped : {G T : Type 0} → Unreadable → (T → Contents G) → WithSkipped T → Loaded G
with_skipped unreadable list result = record {
  unreadable = unreadable;
  list = list result.read;
  skipped = map skipped_content result.skipped.items;
}

abbrev pub with_skipped_or : {G T : Type 0} → Unreadable → (T → Contents G)
    → Result (WithSkipped T) ReadFault → Result (Loaded G) ReadFault
with_skipped_or unreadable list (Ok result) = Ok (with_skipped unreadable list result)
with_skipped_or unreadable list (Err fault) = Err fault
