-- The faults of a row: that of its geometry's text, and that for which a layer refuses it.
use Rattle.std.specs.Prelude.{◌≡◌, ℕ, List, Err}
use Rattle.format_core.specs.declared.text_fault.TextFault.{TextFault}
use Rattle.format_core.specs.declared.text_fault.TextFault.TheVariants as text
use Rattle.format_core.specs.Layouts.{TextReading}
use Rattle.layer_core.specs.declared.fault.LayerFault.{LayerFault}
use Rattle.layer_core.specs.declared.fault.LayerFault.TheVariants.{BadId, DoubleId, LayerFull}
use Rattle.layer_core.specs.declared.fault.LayerFault.TheVariants.{NoSuchId, Memory}
use Rattle.row_core.specs.declared.read_fault.ReadFault.{ReadFault}
use Rattle.row_core.specs.declared.read_fault.ReadFault.TheVariants.{Memory as no_memory, Layer}
use Rattle.row_core.specs.declared.read_fault.ReadFault.TheVariants.{Wkt, Geometry}

-- the fault of the row with this number, whose geometry has this fault
abbrev pub fault_of_text : ℕ → TextFault → ReadFault
fault_of_text n (text.Wkt fault any) = Wkt n fault any
fault_of_text n (text.Geometry fault) = Geometry n fault

-- the text has a fault, which is this fault of the row with this number
abbrev pub HasTextFault : {G : Type 0} → TextReading G → ℕ → List ℕ → ReadFault → Type 0
HasTextFault reads n wkt fault =
    (cause : TextFault) × reads wkt (Err cause) × (fault ≡ fault_of_text n cause)

-- the fault of the row with this number, which a layer refuses for this one; lack of memory is no
-- fault of the row
abbrev pub fault_of_row : ℕ → LayerFault → ReadFault
fault_of_row n Memory = no_memory
fault_of_row n BadId = Layer n BadId
fault_of_row n DoubleId = Layer n DoubleId
fault_of_row n LayerFull = Layer n LayerFull
fault_of_row n NoSuchId = Layer n NoSuchId
