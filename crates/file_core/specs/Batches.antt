-- Rows that are read together, and the layer with all of them.
use Rattle.std.specs.Prelude.{◌≡◌, ◌≢◌, ◌+◌, ◌<◌, ◌≤◌, ◌++◌, ℕ, Bool, true, false, List, [], ◌∷◌}
use Rattle.std.specs.Prelude.{length}
use Rattle.std.specs.Prelude.{All}
use Rattle.std.specs.Prelude.{Result, Ok, Err}
use Rattle.std.specs.declared.alloc.Global.{Global}
use Rattle.std.specs.declared.vec.Vec.{Vec}
use Rattle.file_core.specs.declared.batch.Batch.{Batch}
use Rattle.row_core.specs.declared.layer_row.ReadRow.{ReadRow}
use Rattle.file_core.specs.declared.loading.Loading.{Loading}
use Rattle.row_core.specs.declared.read_fault.ReadFault.{ReadFault}
use Rattle.row_core.specs.declared.read_fault.ReadFault.TheVariants.{Io, Memory}
use Rattle.row_core.specs.declared.unread.Unread.{Unread}
use Rattle.row_core.specs.LayerRows.{HasId, RowForm, RowSays, Says, content_of}
use Rattle.layer_core.specs.Layers.{Contents}
use Rattle.row_core.specs.Records.{Record}
use Rattle.row_core.specs.Rows.{RowsGive, most_rows}
use Rattle.file_core.specs.SkippedRows.{Loaded, LoadsRow, loaded_or, loaded_with, rows_in}
use Rattle.row_core.specs.Unread.{IsUnread, count_unread, records_unread}

-- the consequence of what was loaded, or the fault
abbrev pub if_loaded : {G : Type 0} → Result (Loaded G) ReadFault
    → (Loaded G → Result (Loaded G) ReadFault) → Result (Loaded G) ReadFault
if_loaded (Ok loaded) next = next loaded
if_loaded (Err fault) next = Err fault

-- after these rows in order, or the fault of the first that has one; each row before them was
-- inserted or skipped
abbrev pub with_rows : {G : Type 0} → Loaded G → List (ReadRow G) → Result (Loaded G) ReadFault
with_rows loaded [] = Ok loaded
with_rows loaded (row ∷ rows) =
    if_loaded (loaded_with (rows_in loaded + 1) loaded (Ok (content_of row)))
    (λ l. with_rows l rows)

-- these rows, too, can be numbered
abbrev pub CanNumber : {G : Type 0} → Loaded G → List (ReadRow G) → Type 0
CanNumber loaded rows = rows_in loaded + length rows ≤ most_rows

-- what was loaded of the rows read, or the fault of the row after them
abbrev pub after_rows : {G : Type 0} → Result Bool ReadFault → Loaded G
    → Result (Loaded G) ReadFault
after_rows (Ok more) loaded = Ok loaded
after_rows (Err fault) loaded = Err fault

-- the rows of all parts
abbrev pub all_rows : {G : Type 0} → List (Vec (ReadRow G) Global) → List (ReadRow G)
all_rows [] = []
all_rows (rows ∷ parts) = rows.items ++ all_rows parts

-- the result is that of these rows or the fault, unless memory ran out
abbrev pub AnswersRows : {G : Type 0} → Loaded G → List (ReadRow G)
    → Result (Loading (Contents G)) ReadFault → Type 0
AnswersRows loaded rows answer =
    (answer ≢ Err Memory → with_rows loaded rows ≡ loaded_or answer) × (answer ≢ Err Io)

-- the first of these records have the contents of these rows in order, and the others remain
abbrev pub SayInTurn : {G : Type 0} → RowForm G → List Record → List (ReadRow G) → List Record
    → Type 0
SayInTurn form records [] left = records ≡ left
SayInTurn form [] (row ∷ rows) left = ⊥
SayInTurn form (first ∷ records) (row ∷ rows) left =
    Says form first (content_of row) × SayInTurn form records rows left

-- the first of these records, whose number this is, has this fault by itself
abbrev pub HasFault : {G : Type 0} → RowForm G → ℕ → List Record → ReadFault → Type 0
HasFault form n [] fault = ⊥
HasFault form n (row ∷ rows) fault = RowSays form n row (Err fault)

-- what follows the rows read, if the next row has this number: possibly unread rows, certainly
-- none, or a row with this fault
abbrev pub IsBehind : {G : Type 0} → RowForm G → ℕ → List (ReadRow G) → Result Bool ReadFault
    → List Record → Unread → Type 0
IsBehind form n read (Ok true) left new =
    IsUnread new × (left ≡ records_unread new) × (n ≡ count_unread new + 1) × (0 < length read)
IsBehind form n read (Ok false) left new = left ≡ []
IsBehind form n read (Err fault) left new = fault ≢ Memory → HasFault form n left fault

-- a batch: these rows were read, and this follows them
pub record IsBatch {G : Type 0}
    (form : RowForm G) (old : Unread) (read : List (ReadRow G)) (more : Result Bool ReadFault)
    (new : Unread)
    : Type 0 where
  pub left : List Record
  pub rows : SayInTurn form (records_unread old) read left
  pub behind : IsBehind form (count_unread old + 1 + length read) read more left new
  pub ids : All HasId read
  pub no_io : more ≢ Err Io

-- after these unread rows, the ones left are the first of the two, and the batch is the second
abbrev pub IsNext : {G : Type 0} → RowForm G → Unread → Unread × Batch G → Type 0
IsNext form old next = IsBatch form old (all_rows next.1.rows.items) next.1.more next.0

-- the rows that aren't read yet give this, after those before them
abbrev pub UnreadGive : {G : Type 0} → RowForm G → Unread → Loaded G → Result (Loaded G) ReadFault
    → Type 0
UnreadGive form unread loaded answer =
    RowsGive (LoadsRow form) (count_unread unread + 1) loaded (records_unread unread) answer
