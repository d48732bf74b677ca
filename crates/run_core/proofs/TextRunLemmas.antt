-- How a run ends that makes a text of two layers, by its steps: loading, making, and freeing the layers.
use Rattle.std.proofs.Common.{◌≡◌, ◌↔◌, ℕ, List, Result, Ok, Err, IsErrAnd, IsErrOf, IfErr, IfOk, OnOk, refl, sym, subst}
use Rattle.layer_core.specs.Edits.{Layers, both}
use Rattle.row_core.specs.declared.read_fault.ReadFault.{ReadFault}
use Rattle.row_core.specs.declared.read_fault.ReadFault.TheVariants.{Io}
use Rattle.run_core.specs.declared.fault.Input.{Input}
use Rattle.run_core.specs.declared.fault.RunFault.{RunFault}
use Rattle.run_core.specs.declared.fault.RunFault.TheVariants.{NoFile, Read, Wkt, Geometry, Edit, Join, TooManyToDraw, Write, NotStored, Memory, NoKeys}
use Rattle.run_core.specs.declared.loaded.JoinText.{JoinText}
use Rattle.run_core.specs.declared.loaded.LoadedLayers.{LoadedLayers}
use Rattle.run_core.specs.declared.loaded.SkippedRows.{SkippedRows}
use Rattle.run_core.specs.declared.text.Text.{Text}
use Rattle.run_core.specs.Inputs.{BlamesInput}
use Rattle.run_core.specs.EditedLayers.{AreRowsSkipped, JoinFiles, LayersGive, IsJoinFault, IsLateFault, skipped_lists}
use Rattle.run_core.specs.Marks.{MarkedLists}
use Rattle.run_core.specs.TextRuns.{Making, TextGives, no_layers, too_many, made, IsTextRunFault, MakesText, LoadsLayers, IsMakingFault, IsMade, IsFinished}
use Rattle.run_core.specs.Texts.{bytes_of_text}
use Rattle.run_core.proofs.EditedLayersLemmas.{late_is_of_join, none_blamed}

-- no layers were loaded
pub none_loaded : {G : Type 0} (IsMarked : G → Type 0) (files : JoinFiles G) (HasFailed : Input → Type 0) (rows : MarkedLists)
    (out : Result (LoadedLayers G) RunFault) (e : RunFault) → IsErrAnd out (λ x. x ≡ e) → IfErr out (λ f. BlamesInput f → LayersGive files (Err f))
    → IfErr out (IsJoinFault files) → ((i : Input) → IsErrOf out (Read i Io) ↔ HasFailed i) → LoadsLayers IsMarked files HasFailed rows out
none_loaded IsMarked files HasFailed rows (Ok x) e is fault faults io = absurd is
none_loaded IsMarked files HasFailed rows (Err x) e is fault faults io = record {
  ok = tt;
  skipped = tt;
  marked = tt;
  unmarked = λ lacks. tt;
  fault = fault;
  faults = faults;
  io = io;
}

-- ---- making a text

module _ {G : Type 0} (making : Making G) (layers : Layers G) where
  -- lack of memory or of threads
  late_is_making : (e : RunFault) → IsLateFault e → IsMakingFault making layers e
  late_is_making TooManyToDraw late = absurd late
  late_is_making e late = late

  -- the text, or lack of memory or of threads
  pub made_or_late : (out : Result Text RunFault) → IfOk out (λ text. making.is_text layers (bytes_of_text text)) → IfErr out IsLateFault
      → IsMade making layers out
  made_or_late (Ok text) is late = record { ok = is; err = tt }
  made_or_late (Err e) is late = record { ok = tt; err = late_is_making e late }

  -- the same fault, which `?` returns
  pub late_made : (out : Result Text RunFault) (e : RunFault) → IsErrAnd out (λ x. x ≡ e) → IsLateFault e → IsMade making layers out
  late_made (Ok text) e is late = absurd is
  late_made (Err x) e is late = record { ok = tt; err = subst (IsMakingFault making layers) (sym is) (late_is_making e late) }

-- ---- the run

module _ {G : Type 0} (making : Making G) (files : JoinFiles G) where
  -- a fault of loading two layers is one of the run
  of_loading : (e : RunFault) → (BlamesInput e → LayersGive files (Err e)) → IsJoinFault files e → IsTextRunFault making files e
  of_loading TooManyToDraw fault faults = no_layers TooManyToDraw (fault tt)
  of_loading e fault faults = faults

  -- and so is one of making the text
  module _ (layers : Layers G) (given : LayersGive files (Ok layers)) where
    of_making : (e : RunFault) → IsMakingFault making layers e → IsTextRunFault making files e
    of_making TooManyToDraw is = too_many layers given is
    of_making e is = late_is_of_join files layers given e is

    making_blames : (e : RunFault) → IsMakingFault making layers e → BlamesInput e → TextGives making files (Err e)
    making_blames TooManyToDraw is blame = too_many layers given is
    making_blames e is blame = absurd (none_blamed e is blame)

  making_reads : (layers : Layers G) (i : Input) (f : ReadFault) → IsMakingFault making layers (Read i f) → ⊥
  making_reads layers i f is = is

  module _ (IsMarked : G → Type 0) (HasFailed : Input → Type 0) (rows : MarkedLists) where
    -- the error that `?` returns where the layers weren't loaded
    pub not_loaded : (out : Result JoinText RunFault) (e : RunFault) → IsErrAnd out (λ x. x ≡ e) → LoadsLayers {G = G} IsMarked files HasFailed rows (Err e)
        → MakesText making IsMarked files HasFailed rows out
    not_loaded (Ok x) e is loads = absurd is
    not_loaded (Err x) e is loads = subst (λ (f : RunFault). MakesText making IsMarked files HasFailed rows (Err f)) (sym is) (record {
      ok = tt;
      skipped = tt;
      marked = tt;
      unmarked = λ lacks. tt;
      fault = λ blame. no_layers e (loads.fault blame);
      faults = of_loading e loads.fault loads.faults;
      io = λ i. let io = loads.io i in ((λ q. io.0 (let is : e ≡ Read i Io = cc in cc)), (λ p. let q = io.1 p in let is : e ≡ Read i Io = cc in cc));
    })

    -- the text of the layers that were loaded, with the rows that were skipped
    pub text_made : (loaded : LoadedLayers G) (text : Result Text RunFault) (out : Result JoinText RunFault)
        → LoadsLayers IsMarked files HasFailed rows (Ok loaded) → IsMade making (both loaded.layers.0.list loaded.layers.1.list) text
        → IsFinished text loaded.skipped out → MakesText making IsMarked files HasFailed rows out
    text_made loaded (Ok text) (Ok it) loads is done = record {
      ok = let same : it.text ≡ text = cc in subst (λ (t : Text). TextGives making files (Ok (bytes_of_text t))) (sym same) (made _ _ loads.ok is.ok);
      skipped = subst (λ (s : SkippedRows). AreRowsSkipped files (skipped_lists s)) (sym done.skipped_are) loads.skipped;
      marked = loads.marked;
      unmarked = loads.unmarked;
      fault = tt;
      faults = tt;
      io = λ i. let io = loads.io i in ((λ q. absurd cc), (λ p. absurd (let q = io.1 p in cc)));
    }
    text_made loaded (Ok text) (Err e) loads is done = absurd cc
    text_made loaded (Err e) (Ok it) loads is done = absurd cc
    text_made loaded (Err e) (Err x) loads is done =
        let layers = both loaded.layers.0.list loaded.layers.1.list in
        let same : e ≡ x = cc in
        let err : IsMakingFault making layers x = subst (IsMakingFault making layers) same is.err in
        record {
          ok = tt;
          skipped = tt;
          marked = tt;
          unmarked = λ lacks. tt;
          fault = making_blames layers loads.ok x err;
          faults = of_making layers loads.ok x err;
          io = λ i. let io = loads.io i in (
            (λ q. absurd (let is : x ≡ Read i Io = cc in making_reads layers i Io (subst (IsMakingFault making layers) is err))),
            (λ p. absurd (let q = io.1 p in cc)),
          );
        }
