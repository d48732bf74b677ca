-- The edits of a CSV file, or its fault.
use Rattle.std.specs.Prelude.{◌≡◌, ◌&&◌, ℕ, List, [], ◌∷◌, ◌++◌, map, codes, Some, None}
use Rattle.std.specs.Prelude.{MatchOption, Result, Ok, Err}
use Rattle.std.specs.Bool.{MatchBool}
use Rattle.std.specs.Str.{bytes_eq}
use Rattle.std.specs.declared.vec.Vec.{Vec}
use Rattle.std.specs.declared.alloc.Global.{Global}
use Rattle.layer_core.specs.declared.edit.Edit.{Edit}
use Rattle.layer_core.specs.declared.edit.Side.{Side}
use Rattle.format_core.specs.declared.text_fault.TextFault.{TextFault}
use Rattle.format_core.specs.Layouts.{Reading, TextReading}
use Rattle.row_core.specs.declared.read_fault.ReadFault.{ReadFault}
use Rattle.row_core.specs.declared.read_fault.ReadFault.TheVariants.{Row}
use Rattle.layer_core.specs.Edits.{EditContent, content_of}
use Rattle.row_core.specs.Fields.{AfterId, side_named}
use Rattle.row_core.specs.RowFaults.{fault_of_text}
use Rattle.row_core.specs.Records.{Record}
use Rattle.row_core.specs.Rows.{FileGives}

abbrev pub edit_columns : List (List ℕ)
edit_columns = codes "op" ∷ codes "layer" ∷ codes "id" ∷ codes "wkt" ∷ []

abbrev pub insertion : {G : Type 0} → ℕ → Side → List ℕ → Result G TextFault
    → Result (EditContent G) ReadFault
insertion n side id (Ok shape) = Ok (record { side = side; id = id; shape = Some shape })
insertion n side id (Err fault) = Err (fault_of_text n fault)

abbrev pub InsertionGives : {G : Type 0} → TextReading G → ℕ → Side → List ℕ → List ℕ
    → Result (EditContent G) ReadFault → Type 0
InsertionGives {G} reads n side id wkt answer =
    AfterId n id answer
    ((shape : Result G TextFault) × reads wkt shape × (answer ≡ insertion n side id shape))

abbrev pub DeletionGives : {G : Type 0} → ℕ → Side → List ℕ → Result (EditContent G) ReadFault
    → Type 0
DeletionGives n side id answer =
    AfterId n id answer (answer ≡ Ok (record { side = side; id = id; shape = None }))

abbrev pub EditRowGives : {G : Type 0} → TextReading G → ℕ → Record → Result (EditContent G) ReadFault
    → Type 0
EditRowGives reads n (op ∷ layer ∷ id ∷ wkt ∷ []) answer =
    MatchOption (side_named layer) (answer ≡ Err (Row n)) (λ side.
    MatchBool (bytes_eq op (codes "insert")) (InsertionGives reads n side id wkt answer)
    (MatchBool (bytes_eq op (codes "delete") && bytes_eq wkt []) (DeletionGives n side id answer)
    (answer ≡ Err (Row n))))
EditRowGives reads n _ answer = answer ≡ Err (Row n)

abbrev pub with_edit : {G : Type 0} → List (EditContent G) → Result (EditContent G) ReadFault
    → Result (List (EditContent G)) ReadFault
with_edit edits (Ok edit) = Ok (edits ++ edit ∷ [])
with_edit edits (Err fault) = Err fault

abbrev pub EditsRowGives : {G : Type 0} → TextReading G → ℕ → List (EditContent G) → Record
    → Result (List (EditContent G)) ReadFault → Type 0
EditsRowGives {G} reads n edits row answer =
    (edit : Result (EditContent G) ReadFault) × EditRowGives reads n row edit
    × (answer ≡ with_edit edits edit)

abbrev pub IsEditFile : {G : Type 0} → Reading G → List ℕ
    → Result (List (EditContent G)) ReadFault → Type 0
IsEditFile reads bytes answer =
    FileGives reads.limits edit_columns (EditsRowGives reads.text) [] bytes answer

-- the contents of a list of edits, or the fault
abbrev pub edit_contents : {G : Type 0} → Result (Vec (Edit G) Global) ReadFault
    → Result (List (EditContent G)) ReadFault
edit_contents (Ok edits) = Ok (map content_of edits.items)
edit_contents (Err fault) = Err fault
