-- The results of a command, by the content of the files at the paths that it names.
use Rattle.std.specs.Prelude.{◌≡◌, ◌≢◌, ⊤, ℕ, List, [], ◌∷◌, ◌++◌, Option, Some, Bool, false}
use Rattle.std.specs.Prelude.{Result, Ok, Err, IfSome, IfErr}
use Rattle.relation_core.specs.Matrices.{letters_of}
use Rattle.number_core.specs.declared.scale.Scale.{Scale}
use Rattle.format_core.specs.declared.layout.Layout.{Layout}
use Rattle.relate_any_core.specs.TextMatrices.{HasTextFault, IsRelated}
use Rattle.relate_any_core.specs.declared.improper.Improper.{Improper}
use Rattle.relate_any_core.specs.declared.texts.Related.{Related}
use Rattle.relate_any_core.specs.declared.texts.TextFault.TheVariants as texts
use Rattle.run_core.specs.declared.fault.Input.TheVariants as input
use Rattle.run_core.specs.declared.fault.RunFault.{RunFault}
use Rattle.run_core.specs.declared.fault.RunFault.TheVariants as run
use Rattle.run_core.specs.Inputs.{BlamesInput}
use Rattle.join_core.specs.Relating.{RelateGives, IsTextFault}
use Rattle.run_core.specs.Runs.{Ends}
use Rattle.command_core.specs.Asked.{Asked, IsAskedFault, PathsGive, known_bytes}
use Rattle.command_core.specs.LayerResults.{GivesCorners, GivesCounts, GivesWindow}
use Rattle.command_core.specs.LayerResults.{IsLayerFaultOf, IsWindowFaultOf}
use Rattle.command_core.specs.Opening.{AfterOpening, Files, bytes_at}
use Rattle.command_core.specs.Requests.{join_asks, near_asks, nearest_asks}
use Rattle.words_core.specs.declared.condition.Geometries.{Geometries}
use Rattle.words_core.specs.declared.condition.Geometries.TheVariants.{Box, Any}
use Rattle.words_core.specs.declared.words.Command.{Command}
use Rattle.words_core.specs.declared.words.Command.TheVariants.{Relate, Join, Near, Nearest}
use Rattle.words_core.specs.declared.words.Command.TheVariants.{Window, Stats, Bounds}
use Rattle.words_core.specs.declared.words.LayerRequest.{LayerRequest}

-- the letters of the matrix of two texts and a line feed, or the fault of the first text that
-- spells none of these geometries
abbrev pub GeometriesGive : Geometries → Scale → List ℕ → List ℕ → Result (List ℕ) RunFault
    → Type 0
GeometriesGive Box scale a b answer = RelateGives scale a b answer
GeometriesGive (Any rings) scale a b (Ok line) =
    (r : Related) × IsRelated scale rings a b r × (line ≡ letters_of r.matrix ++ 10 ∷ [])
GeometriesGive (Any rings) scale a b (Err (run.Geometry input.First fault)) =
    HasTextFault scale rings a b (texts.First fault)
GeometriesGive (Any rings) scale a b (Err (run.Geometry input.Second fault)) =
    HasTextFault scale rings a b (texts.Second fault)
GeometriesGive (Any rings) scale a b (Err _) = ⊥

-- the result of a layer's file, which is opened first
abbrev pub LayerPathGives : (Geometries → Layout → Scale → Option (List ℕ)
    → Result (List ℕ) RunFault → Type 0) → Files → LayerRequest → Result (List ℕ) RunFault → Type 0
LayerPathGives Gives at layer answer =
    AfterOpening input.Layer (at layer.path.now) answer
    (λ bytes. Gives layer.geometries layer.layout layer.scale (Some bytes) answer)

abbrev pub CommandGives : Files → Command → Result (List ℕ) RunFault → Type 0
CommandGives at (Relate request) answer =
    GeometriesGive request.geometries request.scale request.a.now request.b.now answer
CommandGives at (Join join) answer = PathsGive at (join_asks join) answer
CommandGives at (Near near) answer = PathsGive at (near_asks near) answer
CommandGives at (Nearest nearest) answer = PathsGive at (nearest_asks nearest) answer
CommandGives at (Window layer wkt) answer =
    LayerPathGives (λ geometries layout scale. GivesWindow geometries layout scale wkt.now) at layer
    answer
CommandGives at (Stats layer) answer = LayerPathGives GivesCounts at layer answer
CommandGives at (Bounds layer) answer = LayerPathGives GivesCorners at layer answer

-- no geometry has improper rings
abbrev pub none_improper : Improper
none_improper = record { first = false; second = false }

-- which of two texts spell geometries with improper rings
abbrev pub AreImproper : Geometries → Scale → List ℕ → List ℕ → Improper → Type 0
AreImproper Box scale a b improper = improper ≡ none_improper
AreImproper (Any rings) scale a b improper =
    (r : Related) × IsRelated scale rings a b r × (improper ≡ r.improper)

-- which of the geometries of a command have improper rings
abbrev pub HasImproper : Command → Improper → Type 0
HasImproper (Relate request) improper =
    AreImproper request.geometries request.scale request.a.now request.b.now improper
HasImproper _ improper = improper ≡ none_improper

-- the text that a command writes, if the content of its files is known
abbrev pub IsCommandText : Option Files → Command → List ℕ → Type 0
IsCommandText known command text = IfSome known (λ at. CommandGives at command (Ok text))

-- a fault of the words or of a file, and not of a device, of memory or of keys
abbrev pub BlamesCommand : RunFault → Type 0
BlamesCommand (run.NoFile input) = ⊤
BlamesCommand (run.Wkt input fault) = ⊤
BlamesCommand (run.Geometry input fault) = ⊤
BlamesCommand fault = BlamesInput fault

abbrev pub IsBox : Geometries → Type 0
IsBox Box = ⊤
IsBox (Any rings) = ⊥

-- a fault that is found before keys are requested and any memory is allocated
abbrev pub IsFoundFirst : Command → RunFault → Type 0
IsFoundFirst (Relate request) (run.Wkt input fault) = IsBox request.geometries
IsFoundFirst _ (run.NoFile input) = ⊤
IsFoundFirst _ _ = ⊥

-- a fault that is found next, once there are keys: that of the text of a window that is a box
abbrev pub IsFoundNext : Command → RunFault → Type 0
IsFoundNext (Window layer wkt) (run.Wkt input fault) = IsBox layer.geometries
IsFoundNext _ _ = ⊥

-- a possible fault of a command over one layer, given those of its run
abbrev pub OrNoLayer : (RunFault → Type 0) → RunFault → Type 0
OrNoLayer IsRunFault (run.NoFile input.Layer) = ⊤
OrNoLayer IsRunFault run.NoKeys = ⊤
OrNoLayer IsRunFault fault = IsRunFault fault

-- a possible fault of a command over the files of a join, given those of its run
abbrev pub OrNoFile : (RunFault → Type 0) → RunFault → Type 0
OrNoFile IsRunFault (run.NoFile input) = ⊤
OrNoFile IsRunFault run.NoKeys = ⊤
OrNoFile IsRunFault fault = IsRunFault fault

-- a possible fault of a command that asks this of two layers, except that of its sink
abbrev pub IsPairFault : Option Files → Asked → RunFault → Type 0
IsPairFault known asked = OrNoFile (IsAskedFault asked (known_bytes known asked.paths))

-- a possible fault of relating two texts, except that of its sink
abbrev pub IsRelateFault : Geometries → RunFault → Type 0
IsRelateFault Box fault = IsTextFault fault
IsRelateFault (Any rings) (run.Geometry input.First fault) = ⊤
IsRelateFault (Any rings) (run.Geometry input.Second fault) = ⊤
IsRelateFault (Any rings) run.Memory = ⊤
IsRelateFault (Any rings) _ = ⊥

-- a possible fault of a command, except that of its sink, if the content of its files is known
abbrev pub IsFaultOf : Option Files → Command → RunFault → Type 0
IsFaultOf known (Relate request) = IsRelateFault request.geometries
IsFaultOf known (Join join) = IsPairFault known (join_asks join)
IsFaultOf known (Near near) = IsPairFault known (near_asks near)
IsFaultOf known (Nearest nearest) = IsPairFault known (nearest_asks nearest)
IsFaultOf known (Window layer wkt) = OrNoLayer
    (IsWindowFaultOf layer.geometries layer.layout layer.scale wkt.now
    (bytes_at known layer.path.now))
IsFaultOf known (Stats layer) =
    OrNoLayer (IsLayerFaultOf layer.geometries layer.layout layer.scale
    (bytes_at known layer.path.now))
IsFaultOf known (Bounds layer) =
    OrNoLayer (IsLayerFaultOf layer.geometries layer.layout layer.scale
    (bytes_at known layer.path.now))

-- how a command ends: its output, its fault, exactly when the faults that are found first and next
-- come, and that no others do
pub record CommandEnds {T S : Type 0} (known : Option Files)
    (written : S → Option (List ℕ)) (is_flushed has_failed : S → Bool)
    (command : Command) (old new : S) (result : Result T RunFault) : Type 0 where
  pub writes : Ends (IsCommandText known command) written is_flushed has_failed old new result
  pub fault : IfErr result (λ f.
      BlamesCommand f → IfSome known (λ at. CommandGives at command (Err f)))
  pub first : (f : RunFault) → IsFoundFirst command f →
      IfSome known (λ at. CommandGives at command (Err f) → result ≡ Err f)
  pub next : (f : RunFault) → IsFoundNext command f → result ≢ Err run.NoKeys →
      IfSome known (λ at. CommandGives at command (Err f) → result ≡ Err f)
  pub faults : IfErr result (λ f. f ≢ run.Write → IsFaultOf known command f)
