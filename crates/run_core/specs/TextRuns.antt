-- How a run ends that makes a text of two layers, which it reads from files and edits.
use Rattle.std.specs.Prelude.{◌≡◌, ◌↔◌, ℕ, List, Result, Ok, Err, IfOk, IfErr, IsErrOf, OnOk}
use Rattle.layer_core.specs.Edits.{Layers, both}
use Rattle.row_core.specs.declared.read_fault.ReadFault.TheVariants.{Io}
use Rattle.run_core.specs.declared.fault.Input.{Input}
use Rattle.run_core.specs.declared.fault.RunFault.{RunFault}
use Rattle.run_core.specs.declared.fault.RunFault.TheVariants.{Read, TooManyToDraw}
use Rattle.run_core.specs.declared.loaded.JoinText.{JoinText}
use Rattle.run_core.specs.declared.loaded.LoadedLayers.{LoadedLayers}
use Rattle.run_core.specs.declared.loaded.SkippedRows.{SkippedRows}
use Rattle.run_core.specs.declared.text.Text.{Text}
use Rattle.run_core.specs.Inputs.{BlamesInput}
use Rattle.run_core.specs.EditedLayers.{AreRowsSkipped, JoinFiles, LayersGive, skipped_lists}
use Rattle.run_core.specs.EditedLayers.{IsJoinFault, IsLateFault}
use Rattle.run_core.specs.Marks.{AreRowsMarked, MarkedLists, no_rows}
use Rattle.run_core.specs.Texts.{bytes_of_text}

-- what a run makes of two layers: which texts, and of which layers none, since they have too many
-- features to be drawn
pub record Making (G : Type 0) : Type 1 where
  pub is_text : Layers G → List ℕ → Type 0
  pub are_too_many : Layers G → Type 0

-- a text of any two layers
abbrev pub texts_of_all : {G : Type 0} → (Layers G → List ℕ → Type 0) → Making G
texts_of_all is_text = record { is_text = is_text; are_too_many = λ layers. ⊥ }

-- the text of the edited layers of files, or the fault that there are no such layers, or too many
-- features
pub data TextGives {G : Type 0} (making : Making G) (files : JoinFiles G)
    : Result (List ℕ) RunFault → Type 0 where
  no_layers : (f : RunFault) → LayersGive files (Err f) → TextGives making files (Err f)
  too_many : (layers : Layers G) → LayersGive files (Ok layers) → making.are_too_many layers
      → TextGives making files (Err TooManyToDraw)
  made : (layers : Layers G) (text : List ℕ) → LayersGive files (Ok layers)
      → making.is_text layers text → TextGives making files (Ok text)

-- a possible fault of such a run, except that of its sink
abbrev pub IsTextRunFault : {G : Type 0} → Making G → JoinFiles G → RunFault → Type 0
IsTextRunFault making files TooManyToDraw = TextGives making files (Err TooManyToDraw)
IsTextRunFault making files fault = IsJoinFault files fault

-- a run makes a text of files, or ends with a fault: what it makes; exactly the rows that are
-- skipped and those that have a property, none if no geometry has it; that a fault which blames an
-- input is a result; no other faults; exactly which source has failed
pub record MakesText {G : Type 0} (making : Making G) (IsMarked : G → Type 0) (files : JoinFiles G)
    (HasFailed : Input → Type 0) (rows : MarkedLists) (result : Result JoinText RunFault)
    : Type 0 where
  pub ok : IfOk result (λ made. TextGives making files (Ok (bytes_of_text made.text)))
  pub skipped : IfOk result (λ made. AreRowsSkipped files (skipped_lists made.skipped))
  pub marked : OnOk result (AreRowsMarked IsMarked files rows)
  pub unmarked : ((g : G) → ¬ (IsMarked g)) → OnOk result (rows ≡ no_rows)
  pub fault : IfErr result (λ f. BlamesInput f → TextGives making files (Err f))
  pub faults : IfErr result (IsTextRunFault making files)
  pub io : (i : Input) → IsErrOf result (Read i Io) ↔ HasFailed i

-- ---- the steps of such a run

-- the edited layers of files, or why there are none
pub record LoadsLayers {G : Type 0} (IsMarked : G → Type 0) (files : JoinFiles G)
    (HasFailed : Input → Type 0) (rows : MarkedLists) (result : Result (LoadedLayers G) RunFault)
    : Type 0 where
  pub ok : IfOk result (λ loaded.
      LayersGive files (Ok (both loaded.layers.0.list loaded.layers.1.list)))
  pub skipped : IfOk result (λ loaded. AreRowsSkipped files (skipped_lists loaded.skipped))
  pub marked : OnOk result (AreRowsMarked IsMarked files rows)
  pub unmarked : ((g : G) → ¬ (IsMarked g)) → OnOk result (rows ≡ no_rows)
  pub fault : IfErr result (λ f. BlamesInput f → LayersGive files (Err f))
  pub faults : IfErr result (IsJoinFault files)
  pub io : (i : Input) → IsErrOf result (Read i Io) ↔ HasFailed i

-- why no text is made of two layers: too many features, or lack of memory or of threads
abbrev pub IsMakingFault : {G : Type 0} → Making G → Layers G → RunFault → Type 0
IsMakingFault making layers TooManyToDraw = making.are_too_many layers
IsMakingFault making layers fault = IsLateFault fault

-- a text that is made of two layers, or why there is none
pub record IsMade {G : Type 0} (making : Making G) (layers : Layers G)
    (result : Result Text RunFault) : Type 0 where
  pub ok : IfOk result (λ text. making.is_text layers (bytes_of_text text))
  pub err : IfErr result (IsMakingFault making layers)

-- the text with these skipped rows, or why there is none
pub record IsFinished (text : Result Text RunFault) (skipped : SkippedRows)
    (result : Result JoinText RunFault) : Type 0 where
  pub ok : IfOk result (λ made. text ≡ Ok made.text)
  pub skipped_are : IfOk result (λ made. made.skipped ≡ skipped)
  pub err : IfErr result (λ fault. text ≡ Err fault)
