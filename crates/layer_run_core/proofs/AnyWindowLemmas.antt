-- How a window over a file of any geometry ends, by its text and by the result for the layer.
use Rattle.std.proofs.Common.{◌≡◌, ℕ, List, Option, Bool, true, false, Result, Ok, Err, IsTrue, sym, refl, subst, ◌∙◌}
use Rattle.std.proofs.lemmas.Result.{IfErr-weaker}
use Rattle.any_geometry_core.specs.declared.geometry.AnyGeometry.{AnyGeometry}
use Rattle.format_core.specs.Layouts.{Reading}
use Rattle.run_core.specs.declared.fault.Input.{Input}
use Rattle.run_core.specs.declared.fault.Input.TheVariants.{First, Second, Left, Right, Edits, Layer, Window}
use Rattle.run_core.specs.declared.fault.RunFault.{RunFault}
use Rattle.run_core.specs.declared.fault.RunFault.TheVariants.{NoFile, Read, Wkt, Geometry, Edit, Join, TooManyToDraw, Write, NotStored, Memory, NoKeys}
use Rattle.layer_run_core.specs.Jobs.{OnlyAt}
use Rattle.layer_run_core.specs.LayerRuns.{LayerGives, IsLayerRunFault}
use Rattle.run_core.specs.Runs.{NoTextFault, RunEnds}
use Rattle.run_core.proofs.RunLemmas.{ends_as, not_begun}
use Rattle.layer_run_core.specs.AnyWindows.{AnyWindowGives, text_fault, looked_up, IsAnyWindowList, IsAnyWindowFault, IsUnread}

-- a fault of a layer's run is one of a window whose text was read
of_layer : (reads : Reading AnyGeometry) (wkt : List ℕ) (file : Option (List ℕ)) (w : AnyGeometry) → reads.text wkt (Ok w) → (f : RunFault)
    → IsLayerRunFault reads file f → IsAnyWindowFault reads wkt file f
of_layer reads wkt file w spelled (Geometry First g) is = absurd is
of_layer reads wkt file w spelled (Geometry Second g) is = absurd is
of_layer reads wkt file w spelled (Geometry Left g) is = absurd is
of_layer reads wkt file w spelled (Geometry Right g) is = absurd is
of_layer reads wkt file w spelled (Geometry Edits g) is = absurd is
of_layer reads wkt file w spelled (Geometry Layer g) is = absurd is
of_layer reads wkt file w spelled (Geometry Window g) is = absurd is
of_layer reads wkt file w spelled (Wkt i g) is = absurd is
of_layer reads wkt file w spelled (NoFile i) is = ((w, spelled), is)
of_layer reads wkt file w spelled (Read i r) is = ((w, spelled), is)
of_layer reads wkt file w spelled (Edit n e) is = ((w, spelled), is)
of_layer reads wkt file w spelled (Join j) is = ((w, spelled), is)
of_layer reads wkt file w spelled TooManyToDraw is = ((w, spelled), is)
of_layer reads wkt file w spelled Write is = ((w, spelled), is)
of_layer reads wkt file w spelled NotStored is = ((w, spelled), is)
of_layer reads wkt file w spelled Memory is = tt
of_layer reads wkt file w spelled NoKeys is = ((w, spelled), is)

module _ {S : Type 0} (written : S → Option (List ℕ)) (is_flushed has_failed : S → Bool) (reads : Reading AnyGeometry) (wkt : List ℕ)
    (file : Option (List ℕ)) where
  -- the layer isn't read if the window isn't
  pub not_looked_up : (f : RunFault) (layer_failed : Bool) (sink : S) → IsUnread reads.text wkt f → layer_failed ≡ false → has_failed sink ≡ false
      → RunEnds {T = Unit {0}} (AnyWindowGives reads wkt file) NoTextFault (IsAnyWindowFault reads wkt file) (OnlyAt Layer (IsTrue layer_failed))
      written is_flushed has_failed sink sink (Err f)
  not_looked_up (Geometry Window g) layer_failed sink is unread fresh = record {
    writes = not_begun _ written is_flushed has_failed sink (Err (Geometry Window g)) (Geometry Window g) fresh refl (λ same. absurd cc);
    wkt = λ i f. ((λ same. absurd cc), absurd);
    fault = λ blame. text_fault g is;
    faults = λ other. tt;
    io = λ i. ((λ same. absurd cc), (λ failed. absurd (let bad : true ≡ false = sym failed.1 ∙ unread in cc)));
  }
  not_looked_up Memory layer_failed sink is unread fresh = record {
    writes = not_begun _ written is_flushed has_failed sink (Err Memory) Memory fresh refl (λ same. absurd cc);
    wkt = λ i f. ((λ same. absurd cc), absurd);
    fault = λ blame. absurd blame;
    faults = λ other. tt;
    io = λ i. ((λ same. absurd cc), (λ failed. absurd (let bad : true ≡ false = sym failed.1 ∙ unread in cc)));
  }
  not_looked_up f layer_failed sink is unread fresh = absurd is

  -- the result of a window whose text was read
  pub window_looked_up : {T : Type 0} (window w : AnyGeometry) (HasFailed : Input → Type 0) (old new : S) (result : Result T RunFault) → w ≡ window → reads.text wkt (Ok window)
      → RunEnds (LayerGives (IsAnyWindowList w) reads file) NoTextFault (IsLayerRunFault reads file) HasFailed written is_flushed has_failed old new result
      → RunEnds (AnyWindowGives reads wkt file) NoTextFault (IsAnyWindowFault reads wkt file) HasFailed written is_flushed has_failed old new result
  window_looked_up window w HasFailed old new result same read ends =
      let spelled : reads.text wkt (Ok w) = subst (λ (v : AnyGeometry). reads.text wkt (Ok v)) (sym same) read in record {
        writes = ends_as _ _ written is_flushed has_failed old new result (λ text given. looked_up w (Ok text) spelled given) ends.writes;
        wkt = ends.wkt;
        fault = IfErr-weaker result _ _ (λ f given blame. looked_up w (Err f) spelled (given blame)) ends.fault;
        faults = IfErr-weaker result _ _ (λ f is other. of_layer reads wkt file w spelled f (is other)) ends.faults;
        io = ends.io;
      }
