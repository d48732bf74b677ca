-- The rows of a layer's file whose geometries have a property.
use Rattle.std.specs.Prelude.{◌≢◌, ◌+◌, ⊤, ℕ, List, [], ◌∷◌, Option, IfSome, Ok, map}
use Rattle.format_core.specs.Layouts.{Reading}
use Rattle.layer_core.specs.Layers.{Contents, Feature}
use Rattle.file_core.specs.LayerFiles.{IsLayerFile}
use Rattle.file_core.specs.SkippedRows.{Loaded, LoadsFile, SkippedContent}
use Rattle.file_core.specs.declared.skipped.Unreadable.{Unreadable}
use Rattle.run_core.specs.EditedLayers.{JoinFiles, left_reads, right_reads}
use Rattle.run_core.specs.declared.marks.MarkedRows.{MarkedRows}

-- the numbers of rows that were skipped
abbrev pub numbers_of : List SkippedContent → List ℕ
numbers_of rows = map (λ row. row.row) rows

-- the first of these numbers, if there is one, is another
abbrev pub IsOther : ℕ → List ℕ → Type 0
IsOther n [] = ⊤
IsOther n (number ∷ numbers) = number ≢ n

-- the rows with the property, of the rows of a file from this number on, given the numbers of those
-- of them that were skipped, and the features of the others: the next row is the next skipped one
-- if that has its number, or else that of the next feature
pub data MarkedFrom {G : Type 0} (IsMarked : G → Type 0)
    : ℕ → List ℕ → List (Feature G) → List ℕ → Type 0 where
  none : {n : ℕ} {skipped : List ℕ} → MarkedFrom IsMarked n skipped [] []
  skips : {n : ℕ} {skipped rows : List ℕ} {features : List (Feature G)} →
      MarkedFrom IsMarked (n + 1) skipped features rows →
      MarkedFrom IsMarked n (n ∷ skipped) features rows
  marked : {n : ℕ} {skipped rows : List ℕ} {f : Feature G} {features : List (Feature G)} →
      IsOther n skipped → IsMarked f.shape →
      MarkedFrom IsMarked (n + 1) skipped features rows →
      MarkedFrom IsMarked n skipped (f ∷ features) (n ∷ rows)
  unmarked : {n : ℕ} {skipped rows : List ℕ} {f : Feature G} {features : List (Feature G)} →
      IsOther n skipped → ¬ (IsMarked f.shape) →
      MarkedFrom IsMarked (n + 1) skipped features rows →
      MarkedFrom IsMarked n skipped (f ∷ features) rows

-- the rows with the property, of a layer's file that is read in this way, if its bytes are known
abbrev pub MarksFile : {G : Type 0} → Reading G → Unreadable → (G → Type 0) → Option (List ℕ)
    → List ℕ → Type 0
MarksFile {G} reads unreadable IsMarked known rows = IfSome known (λ bytes.
    (loaded : Loaded G) × LoadsFile reads unreadable bytes (Ok loaded)
    × MarkedFrom IsMarked 1 (numbers_of loaded.skipped) loaded.list.features rows)

-- the same of a file in which no row is skipped
abbrev pub MarksLayer : {G : Type 0} → Reading G → (G → Type 0) → Option (List ℕ)
    → List ℕ → Type 0
MarksLayer {G} reads IsMarked known rows = IfSome known (λ bytes.
    (layer : Contents G) × IsLayerFile reads bytes (Ok layer)
    × MarkedFrom IsMarked 1 [] layer.features rows)

-- rows of the left and of the right file, by their numbers
pub record MarkedLists : Type 0 where
  pub left : List ℕ
  pub right : List ℕ

abbrev pub marked_lists : MarkedRows → MarkedLists
marked_lists rows = record { left = rows.left.items; right = rows.right.items }

abbrev pub no_rows : MarkedLists
no_rows = record { left = []; right = [] }

-- the rows with the property, of the two files of layers
pub record AreRowsMarked {G : Type 0} (IsMarked : G → Type 0) (files : JoinFiles G)
    (rows : MarkedLists) : Type 0 where
  pub left : MarksFile (left_reads files) files.unreadable IsMarked files.left rows.left
  pub right : MarksFile (right_reads files) files.unreadable IsMarked files.right rows.right

-- ---- skipping

-- these are the numbers from the one to the other, and then the others
pub data SkipsTo : ℕ → List ℕ → ℕ → List ℕ → Type 0 where
  here : {n : ℕ} {numbers : List ℕ} → SkipsTo n numbers n numbers
  next : {n m : ℕ} {numbers others : List ℕ} → SkipsTo (n + 1) numbers m others →
      SkipsTo n (n ∷ numbers) m others
