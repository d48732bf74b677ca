-- The meaning of the fields of a row.
use Rattle.std.specs.Prelude.{◌≡◌, ◌⊎◌, ℕ, List, IsTrue, IsUtf8, codes, Option, Some, None, Result}
use Rattle.std.specs.Prelude.{Err, if◌then◌else◌}
use Rattle.std.specs.Str.{bytes_eq}
use Rattle.layer_core.specs.declared.edit.Side.{Side}
use Rattle.layer_core.specs.declared.edit.Side.TheVariants.{Left, Right}
use Rattle.layer_core.specs.declared.fault.LayerFault.TheVariants.{BadId}
use Rattle.row_core.specs.declared.read_fault.ReadFault.{ReadFault}
use Rattle.row_core.specs.declared.read_fault.ReadFault.TheVariants.{Layer}
use Rattle.layer_core.specs.Refusals.{is_id}

-- the bytes are UTF-8, and their number is that of an id
abbrev pub IsId : List ℕ → Type 0
IsId bytes = IsUtf8 bytes × IsTrue (is_id bytes)

-- a field of this row that has to be an id, and the consequence if it is one
abbrev pub AfterId : {A : Type 0} → ℕ → List ℕ → Result A ReadFault → Type 0 → Type 0
AfterId n id answer Then =
    (¬ (IsId id) × (answer ≡ Err (Layer n BadId))) ⊎ (IsId id × Then)

abbrev pub side_named : List ℕ → Option Side
side_named name =
    if bytes_eq name (codes "left") then Some Left
    else if bytes_eq name (codes "right") then Some Right
    else None
