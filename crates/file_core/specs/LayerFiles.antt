-- The layer of a CSV file, or its fault.
use Rattle.std.specs.Prelude.{◌≡◌, ℕ, List, decimal, Option, Some, None, Result, Ok, Err}
use Rattle.layer_core.specs.declared.fault.LayerFault.{LayerFault}
use Rattle.format_core.specs.declared.text_fault.TextFault.{TextFault}
use Rattle.format_core.specs.Layouts.{Reading}
use Rattle.row_core.specs.declared.read_fault.ReadFault.{ReadFault}
use Rattle.row_core.specs.declared.read_fault.ReadFault.TheVariants.{Layer}
use Rattle.row_core.specs.LayerRows.{RowContent, RowForm, RowSays, form_at}
use Rattle.layer_core.specs.Layers.{Contents, empty, inserted}
use Rattle.layer_core.specs.LayerTrees.{LayerState}
use Rattle.row_core.specs.Records.{Record}
use Rattle.layer_core.specs.Refusals.{insert_refusal}
use Rattle.row_core.specs.Tables.{TableGives}
use Rattle.row_core.specs.RowFaults.{fault_of_text}

abbrev pub refused_or : {A : Type 0} → ℕ → Option LayerFault → A → Result A ReadFault
refused_or n (Some fault) a = Err (Layer n fault)
refused_or n None a = Ok a

-- the id of the row with this number: its number where its file has no ids
abbrev pub id_in : ℕ → Option (List ℕ) → List ℕ
id_in n None = decimal n
id_in n (Some id) = id

-- the layer with this feature of the row with this number, or the row's fault
abbrev pub with_shape : {G : Type 0} → ℕ → Contents G → List ℕ → Result G TextFault
    → Result (Contents G) ReadFault
with_shape n layer id (Ok shape) =
    refused_or n (insert_refusal layer id) (inserted layer id shape)
with_shape n layer id (Err fault) = Err (fault_of_text n fault)

abbrev pub with_row : {G : Type 0} → ℕ → Contents G → Result (RowContent G) ReadFault
    → Result (Contents G) ReadFault
with_row n layer (Ok row) = with_shape n layer (id_in n row.id) row.shape
with_row n layer (Err fault) = Err fault

-- the result of adding the row with this number to a layer, given the form of rows
abbrev pub LayerRowGives : {G : Type 0} → RowForm G → ℕ → Contents G → Record
    → Result (Contents G) ReadFault → Type 0
LayerRowGives {G} form n layer row answer =
    (content : Result (RowContent G) ReadFault) × RowSays form n row content
    × (answer ≡ with_row n layer content)

-- the layer of a file, read by its layout and with its limits, or its first fault
abbrev pub IsLayerFile : {G : Type 0} → Reading G → List ℕ → Result (Contents G) ReadFault → Type 0
IsLayerFile reads bytes answer = TableGives reads.limits reads.layout
    (λ places. LayerRowGives (form_at reads places)) empty bytes answer

-- the list of a layer that was read, or the fault
abbrev pub list_read : {G : Type 0} → Result (LayerState G) ReadFault
    → Result (Contents G) ReadFault
list_read (Ok layer) = Ok layer.list
list_read (Err fault) = Err fault
