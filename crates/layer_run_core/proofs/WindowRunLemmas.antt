-- How a window over a file ends, by its text and by the result for the layer.
use Rattle.std.proofs.Common.{◌≡◌, ℕ, List, Option, Bool, true, false, Result, Ok, Err, IsTrue, ◌↔◌, sym, refl, subst, ◌∙◌}
use Rattle.std.proofs.lemmas.Result.{IfErr-weaker}
use Rattle.geom_core.specs.declared.shape.Shape.{Shape}
use Rattle.wkt_core.specs.declared.fault.WktFault.{WktFault}
use Rattle.number_core.specs.declared.scale.Scale.{Scale}
use Rattle.wkt_core.specs.Readings.{Reads}
use Rattle.format_core.specs.declared.layout.Layout.{Layout}
use Rattle.format_core.specs.Formats.{ReadsBox}
use Rattle.format_core.specs.Layouts.{laid_out}
use Rattle.run_core.specs.declared.fault.Input.{Input}
use Rattle.run_core.specs.declared.fault.Input.TheVariants.{Layer, Window}
use Rattle.run_core.specs.declared.fault.RunFault.{RunFault}
use Rattle.run_core.specs.declared.fault.RunFault.TheVariants.{NoFile, Read, Wkt, Geometry, Edit, Join, TooManyToDraw, Write, NotStored, Memory, NoKeys}
use Rattle.layer_run_core.specs.Jobs.{OnlyAt}
use Rattle.layer_run_core.specs.LayerRuns.{LayerGives, IsLayerRunFault}
use Rattle.run_core.specs.Runs.{NoTextFault, RunEnds}
use Rattle.layer_run_core.specs.WindowRuns.{WindowGives, looked_up, HasWindowFault, IsWindowFault}
use Rattle.layer_run_core.specs.Windows.{IsWindowList}
use Rattle.run_core.proofs.RunLemmas.{ends_as, not_begun}

-- the text has no other result
abbrev pub ReadsOnly : Scale → List ℕ → Result Shape WktFault → Type 0
ReadsOnly scale text read = (answer : Result Shape WktFault) → Reads scale text answer → read ≡ answer

-- the window's text is at fault
window_at_fault : {T : Type 0} (scale : Scale) (wkt : List ℕ) (e : WktFault) (out : Result T RunFault) → out ≡ Err (Wkt Window e)
    → Reads scale wkt (Err e) → ReadsOnly scale wkt (Err e) → (i : Input) (f : WktFault) → (out ≡ Err (Wkt i f)) ↔ HasWindowFault scale wkt i f
window_at_fault scale wkt e out is read only Window f =
    ((λ q. let same : e ≡ f = cc in subst (λ (x : WktFault). Reads scale wkt (Err x)) same read), (λ h. let w = only (Err f) h in cc))
window_at_fault scale wkt e out is read only _ f = ((λ q. absurd cc), (λ h. absurd h))

-- the window's text spells a shape
window_spelled : {T : Type 0} (scale : Scale) (wkt : List ℕ) (s : Shape) (out : Result T RunFault) → ReadsOnly scale wkt (Ok s)
    → ((i : Input) (f : WktFault) → out ≡ Err (Wkt i f) → ⊥) → (i : Input) (f : WktFault) → (out ≡ Err (Wkt i f)) ↔ HasWindowFault scale wkt i f
window_spelled scale wkt s out only none Window f = ((λ q. absurd (none Window f q)), (λ h. let bad = only (Err f) h in absurd cc))
window_spelled scale wkt s out only none _ f = ((λ q. absurd (none _ f q)), (λ h. absurd h))

of_layer : (layout : Layout) (scale : Scale) (wkt : List ℕ) (file : Option (List ℕ)) (s : Shape) → Reads scale wkt (Ok s) → (f : RunFault) → IsLayerRunFault (laid_out layout (ReadsBox scale)) file f
    → IsWindowFault layout scale wkt file f
of_layer layout scale wkt file s spelled (Wkt i w) is = absurd is
of_layer layout scale wkt file s spelled (Geometry i w) is = ((s, spelled), is)
of_layer layout scale wkt file s spelled (NoFile i) is = ((s, spelled), is)
of_layer layout scale wkt file s spelled (Read i r) is = ((s, spelled), is)
of_layer layout scale wkt file s spelled (Edit n e) is = ((s, spelled), is)
of_layer layout scale wkt file s spelled (Join j) is = ((s, spelled), is)
of_layer layout scale wkt file s spelled TooManyToDraw is = ((s, spelled), is)
of_layer layout scale wkt file s spelled Write is = ((s, spelled), is)
of_layer layout scale wkt file s spelled NotStored is = ((s, spelled), is)
of_layer layout scale wkt file s spelled Memory is = ((s, spelled), is)
of_layer layout scale wkt file s spelled NoKeys is = ((s, spelled), is)

module _ {S : Type 0} (written : S → Option (List ℕ)) (is_flushed has_failed : S → Bool) (layout : Layout) (scale : Scale) (wkt : List ℕ) (file : Option (List ℕ)) where
  -- the layer isn't read if the window's text is at fault
  pub not_looked_up : (e : WktFault) (layer_failed : Bool) (sink : S) → Reads scale wkt (Err e) → ReadsOnly scale wkt (Err e)
      → layer_failed ≡ false → has_failed sink ≡ false
      → RunEnds {T = Unit {0}} (WindowGives layout scale wkt file) (HasWindowFault scale wkt) (IsWindowFault layout scale wkt file) (OnlyAt Layer (IsTrue layer_failed))
      written is_flushed has_failed sink sink (Err (Wkt Window e))
  not_looked_up e layer_failed sink read only unread fresh = record {
    writes = not_begun _ written is_flushed has_failed sink (Err (Wkt Window e)) (Wkt Window e) fresh refl (λ is. absurd cc);
    wkt = window_at_fault scale wkt e (Err (Wkt Window e)) refl read only;
    fault = λ blame. absurd blame;
    faults = λ other. tt;
    io = λ i. ((λ is. absurd cc), (λ failed. absurd (let bad : true ≡ false = sym failed.1 ∙ unread in cc)));
  }

  -- the result of a window whose text spells a shape
  pub window_looked_up : {T : Type 0} (s : Shape) (HasFailed : Input → Type 0) (old new : S) (result : Result T RunFault) → Reads scale wkt (Ok s)
      → ReadsOnly scale wkt (Ok s)
      → RunEnds (LayerGives (IsWindowList s) (laid_out layout (ReadsBox scale)) file) NoTextFault (IsLayerRunFault (laid_out layout (ReadsBox scale)) file) HasFailed written is_flushed has_failed old new result
      → RunEnds (WindowGives layout scale wkt file) (HasWindowFault scale wkt) (IsWindowFault layout scale wkt file) HasFailed written is_flushed has_failed old new result
  window_looked_up s HasFailed old new result spelled only ends = record {
    writes = ends_as _ _ written is_flushed has_failed old new result (λ text given. looked_up s (Ok text) spelled given) ends.writes;
    wkt = window_spelled scale wkt s result only (λ i f is. (ends.wkt i f).0 is);
    fault = IfErr-weaker result _ _ (λ f given blame. looked_up s (Err f) spelled (given blame)) ends.fault;
    faults = IfErr-weaker result _ _ (λ f is other. of_layer layout scale wkt file s spelled f (is other)) ends.faults;
    io = ends.io;
  }
