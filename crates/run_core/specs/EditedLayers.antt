-- The two layers of three files after the edits of both, and the faults of reading them.
use Rattle.std.specs.Prelude.{◌≡◌, ◌≢◌, ◌<◌, ◌≤◌, ⊤, ℕ, List, [], Option, Some, None, Result, Ok}
use Rattle.std.specs.Prelude.{Err, IfSome, length, map, take}
use Rattle.layer_core.specs.declared.fault.LayerFault.{LayerFault}
use Rattle.layer_core.specs.declared.fault.LayerFault.TheVariants.{Memory as no_memory}
use Rattle.format_core.specs.Layouts.{Reading, laid_out}
use Rattle.format_core.specs.declared.layout.Layout.{Layout}
use Rattle.row_core.specs.declared.read_fault.ReadFault.{ReadFault}
use Rattle.row_core.specs.declared.read_fault.ReadFault.TheVariants.{Io, Memory as no_bytes}
use Rattle.layer_core.specs.Layers.{Contents}
use Rattle.layer_core.specs.Edits.{EditContent, Layers, both, edits_give}
use Rattle.file_core.specs.EditFiles.{IsEditFile}
use Rattle.file_core.specs.SkippedRows.{SkippedContent, skipped_content}
use Rattle.file_core.specs.declared.skipped.Unreadable.{Unreadable}
use Rattle.parallel_core.specs.Faults.{IsWant}
use Rattle.run_core.specs.declared.fault.Input.TheVariants.{Left, Right, Edits}
use Rattle.run_core.specs.declared.fault.RunFault.{RunFault}
use Rattle.run_core.specs.declared.fault.RunFault.TheVariants.{Read, Edit, Join, Memory}
use Rattle.run_core.specs.declared.loaded.SkippedRows.{SkippedRows}
use Rattle.run_core.specs.declared.sources.JoinSources.{JoinSources}
use Rattle.run_core.specs.Inputs.{LayerFileBy, GivesLayerBy, SkipsRows, BlamesBytes, BlamesEdit}

-- how geometries read and the files of a join's layers are laid out, what becomes of rows whose
-- geometry doesn't read, and the known bytes of its sources; there may be no file of edits
pub record JoinFiles (G : Type 0) : Type 1 where
  pub reads : Reading G
  pub left_layout : Layout
  pub right_layout : Layout
  pub unreadable : Unreadable
  pub left : Option (List ℕ)
  pub right : Option (List ℕ)
  pub edits : Option (Option (List ℕ))

-- the bytes of a file of edits, if there is one
abbrev pub bytes_of : {E : Type 0} → (E → Option (List ℕ)) → Option E → Option (Option (List ℕ))
bytes_of remaining None = None
bytes_of remaining (Some e) = Some (remaining e)

-- the known bytes of the sources, which are read in this way, each layer by its own layout
abbrev pub files_by : {G A B E : Type 0} → Unreadable → Reading G → (A → Option (List ℕ))
    → (B → Option (List ℕ)) → (E → Option (List ℕ)) → JoinSources A B E → JoinFiles G
files_by unreadable reads left_bytes right_bytes edits_bytes sources = record {
  reads = reads;
  left_layout = sources.left_layout;
  right_layout = sources.right_layout;
  unreadable = unreadable;
  left = left_bytes sources.left;
  right = right_bytes sources.right;
  edits = bytes_of edits_bytes sources.edits;
}

-- how the left file reads, and how the right one
abbrev pub left_reads : {G : Type 0} → JoinFiles G → Reading G
left_reads files = laid_out files.left_layout files.reads

abbrev pub right_reads : {G : Type 0} → JoinFiles G → Reading G
right_reads files = laid_out files.right_layout files.reads

-- the layer of the left file or of the right one, or its fault
abbrev pub LeftGives : {G : Type 0} → JoinFiles G → Result (Contents G) ReadFault → Type 0
LeftGives files = LayerFileBy (left_reads files) files.unreadable files.left

abbrev pub RightGives : {G : Type 0} → JoinFiles G → Result (Contents G) ReadFault → Type 0
RightGives files = LayerFileBy (right_reads files) files.unreadable files.right

-- the edits or the fault of a file of edits; no edits without a file
abbrev pub EditFile : {G : Type 0} → Reading G → Option (Option (List ℕ))
    → Result (List (EditContent G)) ReadFault → Type 0
EditFile reads None answer = answer ≡ Ok []
EditFile reads (Some known) answer = IfSome known (λ bytes. IsEditFile reads bytes answer)

-- a fault of reading two layers: one of the right file comes only if the left is valid, except that
-- its source fails
abbrev pub IsLayersFault : {G : Type 0} → Reading G → Reading G → Unreadable
    → Option (List ℕ) → Option (List ℕ) → RunFault → Type 0
IsLayersFault as_left as_right unreadable left right (Read Left f) =
    BlamesBytes f → LayerFileBy as_left unreadable left (Err f)
IsLayersFault as_left as_right unreadable left right (Read Right f) =
    (f ≢ Io → GivesLayerBy as_left unreadable left)
    × (BlamesBytes f → LayerFileBy as_right unreadable right (Err f))
IsLayersFault as_left as_right unreadable left right _ = ⊥

-- the fault of two layers if the right one has a fault: a failing right source comes before a fault
-- of the left one
abbrev pub first_fault : Option ReadFault → ReadFault → RunFault
first_fault left Io = Read Right Io
first_fault (Some fault) right = Read Left fault
first_fault None right = Read Right right

-- the edited layers, or the first fault of the left file, the right one, that of edits and the
-- edits, in this order
pub data LayersGive {G : Type 0} (files : JoinFiles G) : Result (Layers G) RunFault → Type 0 where
  left_fault : (f : ReadFault) → LeftGives files (Err f) → LayersGive files (Err (Read Left f))
  right_fault : (l : Contents G) (f : ReadFault) → LeftGives files (Ok l)
      → RightGives files (Err f) → LayersGive files (Err (Read Right f))
  edits_fault : (l r : Contents G) (f : ReadFault) → LeftGives files (Ok l)
      → RightGives files (Ok r)
      → EditFile files.reads files.edits (Err f) → LayersGive files (Err (Read Edits f))
  edit_refused : (l r : Contents G) (edits : List (EditContent G)) (row : ℕ)
      (f : LayerFault) → LeftGives files (Ok l) → RightGives files (Ok r)
      → EditFile files.reads files.edits (Ok edits)
      → edits_give 1 (both l r) edits ≡ Err (row, f) → LayersGive files (Err (Edit row f))
  edited : (l r : Contents G) (edits : List (EditContent G)) (layers : Layers G)
      → LeftGives files (Ok l) → RightGives files (Ok r)
      → EditFile files.reads files.edits (Ok edits)
      → edits_give 1 (both l r) edits ≡ Ok layers → LayersGive files (Ok layers)

-- the rows that are skipped of the left and of the right file
pub record SkippedLists : Type 0 where
  pub left : List SkippedContent
  pub right : List SkippedContent

abbrev pub skipped_lists : SkippedRows → SkippedLists
skipped_lists rows = record {
  left = map skipped_content rows.left.items;
  right = map skipped_content rows.right.items;
}

-- exactly the rows that are skipped of the two files
pub record AreRowsSkipped {G : Type 0} (files : JoinFiles G) (rows : SkippedLists) : Type 0 where
  pub left : SkipsRows (left_reads files) files.unreadable files.left rows.left
  pub right : SkipsRows (right_reads files) files.unreadable files.right rows.right

-- a possible fault after all files are read and the edits are applied, except that of the sink:
-- lack of memory or of threads
abbrev pub IsLateFault : RunFault → Type 0
IsLateFault (Join f) = IsWant f
IsLateFault Memory = ⊤
IsLateFault _ = ⊥

-- this number of edits, at least one, can be applied: none of them is refused
pub record AreMade {G : Type 0} (count : ℕ) (layers : Layers G) (edits : List (EditContent G))
    : Type 0 where
  pub some : 0 < count
  pub within : count ≤ length edits
  pub made : Layers G
  pub none_refused : edits_give 1 layers (take count edits) ≡ Ok made

-- applying edits ends at this row with this fault: its edit is the first that is refused, or memory
-- ran out at it, and neither it nor any edit before it is refused
pub record EndsAt {G : Type 0} (row : ℕ) (fault : LayerFault) (layers : Layers G)
    (edits : List (EditContent G)) : Type 0 where
  pub refused : BlamesEdit fault → edits_give 1 layers edits ≡ Err (row, fault)
  pub want : fault ≡ no_memory → AreMade row layers edits

-- the layers after all edits of a file
abbrev pub AreEdited : {G : Type 0} → Reading G → Option (Option (List ℕ)) → Layers G → Layers G
    → Type 0
AreEdited {G} reads file old new =
    (edits : List (EditContent G)) × EditFile reads file (Ok edits)
    × (edits_give 1 old edits ≡ Ok new)

-- why not all of some edits are applied, or their layers aren't there: applying them ends at a row,
-- memory runs out before a layer can be edited, or once all edits are applied
pub data IsEditFault {G : Type 0} (layers : Layers G) (edits : List (EditContent G))
    : RunFault → Type 0 where
  ended : (row : ℕ) (f : LayerFault) → EndsAt row f layers edits
      → IsEditFault layers edits (Edit row f)
  no_left : IsEditFault layers edits (Read Left no_bytes)
  no_right : IsEditFault layers edits (Read Right no_bytes)
  no_end : (made : Layers G) → edits_give 1 layers edits ≡ Ok made
      → IsEditFault layers edits Memory

-- why there are no layers after all edits of a file: it can't be read, or they can't be applied
pub data IsEditsFault {G : Type 0} (reads : Reading G) (file : Option (Option (List ℕ)))
    (layers : Layers G) : RunFault → Type 0 where
  unread : (f : ReadFault) → (BlamesBytes f → EditFile reads file (Err f))
      → IsEditsFault reads file layers (Read Edits f)
  unmade : (edits : List (EditContent G)) (e : RunFault) → EditFile reads file (Ok edits)
      → IsEditFault layers edits e → IsEditsFault reads file layers e

-- both layer files are valid
abbrev pub GiveLayers : {G : Type 0} → JoinFiles G → Type 0
GiveLayers files = GivesLayerBy (left_reads files) files.unreadable files.left
    × GivesLayerBy (right_reads files) files.unreadable files.right

-- the file of edits is valid too, and its edits are applied up to that of this row
pub record AreMadeTo {G : Type 0} (files : JoinFiles G) (row : ℕ) : Type 0 where
  pub left : Contents G
  pub right : Contents G
  pub edits : List (EditContent G)
  pub left_read : LeftGives files (Ok left)
  pub right_read : RightGives files (Ok right)
  pub edits_read : EditFile files.reads files.edits (Ok edits)
  pub are_made : AreMade row (both left right) edits

-- a possible fault of a join of files, except that of its sink; it comes only if everything read
-- and applied before it is valid, except that a failing right source comes before the left file's
-- bytes
abbrev pub IsJoinFault : {G : Type 0} → JoinFiles G → RunFault → Type 0
IsJoinFault files (Read Left f) = ⊤
IsJoinFault files (Read Right f) =
    f ≢ Io → GivesLayerBy (left_reads files) files.unreadable files.left
IsJoinFault files (Read Edits f) = GiveLayers files
IsJoinFault files (Edit row f) = f ≡ no_memory → AreMadeTo files row
IsJoinFault {G} files fault =
    IsLateFault fault × ((layers : Layers G) × LayersGive files (Ok layers))
