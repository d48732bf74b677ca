-- The results of the inputs of a run, and the faults that blame one.
use Rattle.std.specs.Prelude.{◌≢◌, ⊤, ℕ, List, Option, Result, Ok, Err, IfSome, IfOk, IfErr, map}
use Rattle.layer_core.specs.declared.fault.LayerFault.{LayerFault}
use Rattle.layer_core.specs.declared.fault.LayerFault.TheVariants as layer_faults
use Rattle.format_core.specs.Layouts.{Reading}
use Rattle.row_core.specs.declared.read_fault.ReadFault.{ReadFault}
use Rattle.row_core.specs.declared.read_fault.ReadFault.TheVariants as read_faults
use Rattle.layer_core.specs.Layers.{Contents}
use Rattle.file_core.specs.LayerFiles.{IsLayerFile}
use Rattle.file_core.specs.SkippedRows.{AreSkipped, IsLayerFileBy, LoadsFile, SkippedContent}
use Rattle.file_core.specs.SkippedRows.{skipped_content, with_skipped_or}
use Rattle.file_core.specs.declared.skipped.Unreadable.{Unreadable}
use Rattle.file_core.specs.declared.skipped.WithSkipped.{WithSkipped}
use Rattle.layer_core.specs.LayerTrees.{LayerState}
use Rattle.run_core.specs.declared.fault.RunFault.{RunFault}
use Rattle.run_core.specs.declared.fault.RunFault.TheVariants.{Read, Geometry, Edit}
use Rattle.run_core.specs.declared.fault.RunFault.TheVariants.{TooManyToDraw}

-- the layer or the fault of a layer's file, if its bytes are known
abbrev pub LayerFile : {G : Type 0} → Reading G → Option (List ℕ)
    → Result (Contents G) ReadFault → Type 0
LayerFile reads known answer = IfSome known (λ bytes. IsLayerFile reads bytes answer)

-- a file that gives a valid layer
abbrev pub GivesLayer : {G : Type 0} → Reading G → Option (List ℕ) → Type 0
GivesLayer {G} reads known = (layer : Contents G) × LayerFile reads known (Ok layer)

-- the same of a file that is read in this way
abbrev pub LayerFileBy : {G : Type 0} → Reading G → Unreadable → Option (List ℕ)
    → Result (Contents G) ReadFault → Type 0
LayerFileBy reads unreadable known answer =
    IfSome known (λ bytes. IsLayerFileBy reads unreadable bytes answer)

abbrev pub GivesLayerBy : {G : Type 0} → Reading G → Unreadable → Option (List ℕ) → Type 0
GivesLayerBy {G} reads unreadable known =
    (layer : Contents G) × LayerFileBy reads unreadable known (Ok layer)

-- the rows of a layer's file that are skipped where it is read in this way, if its bytes are known
abbrev pub SkipsRows : {G : Type 0} → Reading G → Unreadable → Option (List ℕ)
    → List SkippedContent → Type 0
SkipsRows reads unreadable known rows =
    IfSome known (λ bytes. AreSkipped reads unreadable bytes rows)

-- the layer of a file that is read in this way, and the rows that are skipped, if its bytes are
-- known
abbrev pub LoadsLayer : {G : Type 0} → Reading G → Unreadable → Option (List ℕ) → Contents G
    → List SkippedContent → Type 0
LoadsLayer reads unreadable known layer rows =
    IfSome known (λ bytes. LoadsFile reads unreadable bytes
    (Ok (record { unreadable = unreadable; list = layer; skipped = rows })))

-- the result is that of a layer's bytes, or that memory ran out
pub record Builds {G : Type 0} (reads : Reading G) (unreadable : Unreadable) (bytes : List ℕ)
    (answer : Result (WithSkipped (LayerState G)) ReadFault) : Type 0 where
  pub no_io : answer ≢ Err read_faults.Io
  pub gives : answer ≢ Err read_faults.Memory
      → LoadsFile reads unreadable bytes (with_skipped_or unreadable (λ layer. layer.list) answer)

-- a fault of an input's bytes, and not of a device or of memory
abbrev pub BlamesBytes : ReadFault → Type 0
BlamesBytes read_faults.Io = ⊥
BlamesBytes read_faults.Memory = ⊥
BlamesBytes _ = ⊤

-- the result is that of a layer's file, a fault of a device, or that memory ran out
pub record ReadsFeatures {G : Type 0} (reads : Reading G) (known : Option (List ℕ))
    (answer : Result (Contents G) ReadFault) : Type 0 where
  pub ok : IfOk answer (λ layer. LayerFile reads known (Ok layer))
  pub fault : IfErr answer (λ f. BlamesBytes f → LayerFile reads known (Err f))

-- the same of a file that is read in this way, with the rows that are skipped
pub record Reads {G : Type 0} (reads : Reading G) (unreadable : Unreadable)
    (known : Option (List ℕ)) (answer : Result (WithSkipped (LayerState G)) ReadFault)
    : Type 0 where
  pub ok : IfOk answer (λ layer. LoadsLayer reads unreadable known layer.read.list
      (map skipped_content layer.skipped.items))
  pub fault : IfErr answer (λ f. BlamesBytes f → LayerFileBy reads unreadable known (Err f))

abbrev pub BlamesEdit : LayerFault → Type 0
BlamesEdit layer_faults.Memory = ⊥
BlamesEdit _ = ⊤

abbrev pub BlamesInput : RunFault → Type 0
BlamesInput (Read input f) = BlamesBytes f
BlamesInput (Geometry input f) = ⊤
BlamesInput (Edit row f) = BlamesEdit f
BlamesInput TooManyToDraw = ⊤
BlamesInput _ = ⊥
