-- How a command that reads one layer ends.
use Rattle.std.proofs.Common.{◌≡◌, ◌≢◌, ◌↔◌, ℕ, List, Option, Some, None, Bool, Result, Ok, Err, IsErrAnd, ◌⊎◌, inl, inr, IfErr, IfSome, false, refl, sym}
use Rattle.std.proofs.Common.{subst}
use Rattle.std.proofs.lemmas.Result.{IfErr-weaker}
use Rattle.std.specs.Borrow.{Bor}
use Rattle.wkt_core.specs.declared.fault.WktFault.{WktFault}
use Rattle.number_core.specs.declared.scale.Scale.{Scale}
use Rattle.any_geometry_core.specs.AnyGeometries.{box_of}
use Rattle.format_core.specs.Formats.{ReadsAny, ReadsBox}
use Rattle.format_core.specs.declared.layout.Layout.{Layout}
use Rattle.format_core.specs.Layouts.{Reading, laid_out}
use Rattle.row_core.specs.declared.read_fault.ReadFault.{ReadFault}
use Rattle.layer_core.specs.Layers.{Contents}
use Rattle.run_core.specs.declared.fault.Input.{Input}
use Rattle.run_core.specs.declared.fault.Input.TheVariants as input
use Rattle.run_core.specs.declared.fault.RunFault.{RunFault}
use Rattle.run_core.specs.declared.fault.RunFault.TheVariants as run
use Rattle.run_core.specs.Inputs.{BlamesInput}
use Rattle.run_core.specs.Runs.{NoTextFault, RunEnds}
use Rattle.layer_run_core.specs.Bounds.{ListsCorners}
use Rattle.layer_run_core.specs.LayerRuns.{LayerGives, layer_fault, made}
use Rattle.layer_run_core.specs.StatsTexts.{AreCounts}
use Rattle.layer_run_core.specs.WindowRuns.{WindowGives, text_fault, looked_up, HasWindowFault}
use Rattle.layer_run_core.specs.AnyStats.{AreAnyCounts}
use Rattle.layer_run_core.specs.AnyWindows.{AnyWindowGives, text_fault as any_text_fault, looked_up as any_looked_up}
use Rattle.words_core.specs.declared.condition.Geometries.{Geometries}
use Rattle.words_core.specs.declared.condition.Geometries.TheVariants.{Box, Any}
use Rattle.words_core.specs.declared.words.Command.{Command}
use Rattle.words_core.specs.declared.words.Command.TheVariants.{Window, Stats, Bounds}
use Rattle.words_core.specs.declared.words.LayerRequest.{LayerRequest}
use Rattle.command_core.specs.Commands.{CommandGives, IsCommandText, BlamesCommand, IsBox, IsFoundFirst, IsFoundNext, IsFaultOf, CommandEnds}
use Rattle.command_core.specs.Commands.{OrNoLayer}
use Rattle.command_core.specs.LayerResults.{GivesCorners, GivesCounts, GivesWindow, IsLayerFaultOf, IsWindowFaultOf}
use Rattle.command_core.specs.Opening.{AfterOpening, Files, IsAt, IsMissing, IsLayerUnready, bytes_at, no_file, no_keys}
use Rattle.run_core.proofs.RunLemmas.{ends_as}
use Rattle.command_core.proofs.KnownLemmas.{told_at, layer_untold, window_untold}
use Rattle.command_core.proofs.CommandLemmas.{IsNoFile, found_missing, refused_ends, input_opened, err_is}

-- the error that `?` returns for a layer that isn't ready
pub handed_unready : {T : Type 0} (known : Option Files) (path : List ℕ) (out : Result T RunFault) (e f : RunFault)
    → IsErrAnd out (λ x. x ≡ e) → e ≡ f → IsLayerUnready known path f → IfErr out (IsLayerUnready known path)
handed_unready known path (Ok x) e f h same unready = tt
handed_unready known path (Err x) e f h same unready = subst (IsLayerUnready known path) (let is : f ≡ x = cc in is) unready

-- a fault of a run is one of its command
allows_all : (IsRunFault : RunFault → Type 0) (f : RunFault) → IsRunFault f → OrNoLayer IsRunFault f
allows_all IsRunFault (run.NoFile input.Layer) is = tt
allows_all IsRunFault run.NoKeys is = tt
allows_all IsRunFault f is = is

-- ---- the end of a command, given its run

-- the results and the faults of a command are those of a run over the file at this path, in which
-- the text of a window may have a fault
pub record RunsOne (command : Command) (path : List ℕ) (Gives : Option (List ℕ) → Result (List ℕ) RunFault → Type 0)
    (HasTextFault : Input → WktFault → Type 0) (IsFault : Option (List ℕ) → RunFault → Type 0) : Type 0 where
  pub gives : (at : Files) (answer : Result (List ℕ) RunFault) →
      AfterOpening input.Layer (at path) answer (λ l. Gives (Some l) answer) ↔ CommandGives at command answer
  pub none_first : (l : Option (List ℕ)) (g : RunFault) → IsFoundFirst command g → Gives l (Err g) → ⊥
  pub next : (l : Option (List ℕ)) (g : RunFault) → IsFoundNext command g → Gives l (Err g)
      → (i : Input) × (w : WktFault) × (g ≡ run.Wkt i w) × HasTextFault i w
  pub text_given : (l : Option (List ℕ)) (i : Input) (w : WktFault) → HasTextFault i w → Gives l (Err (run.Wkt i w))
  pub is_opened : (l : Option (List ℕ)) (i : Input) → IsFault l (run.NoFile i) → ⊥
  pub untold : (l : Option (List ℕ)) (f : RunFault) → IsFault l f → IsFault None f
  pub allows : (known : Option Files) (f : RunFault) → OrNoLayer (IsFault (bytes_at known path)) f → IsFaultOf known command f

module _ {S : Type 0} (known : Option Files) (written : S → Option (List ℕ)) (is_flushed has_failed : S → Bool)
    {command : Command} {path : List ℕ} {Gives : Option (List ℕ) → Result (List ℕ) RunFault → Type 0} {HasTextFault : Input → WktFault → Type 0}
    {IsFault : Option (List ℕ) → RunFault → Type 0} (one : RunsOne command path Gives HasTextFault IsFault) where
  -- the results of an opened file are those of its bytes
  opened : (at : Files) (l : Option (List ℕ)) (answer : Result (List ℕ) RunFault) → IsAt (Some at) path l → Gives l answer ↔ CommandGives at command answer
  opened at l answer is =
      let After = input_opened (at path) is.0 input.Layer answer (λ p. Gives (Some p) answer) is.1 in
      let Told : Option (List ℕ) → Type 0 = λ o. Gives o answer in (
        (λ h. (one.gives at answer).0 (After.0 (subst Told is.2 h))),
        (λ h. subst Told (sym is.2) (After.1 ((one.gives at answer).1 h))),
      )

  only_missing : (known : Option Files) → IsMissing known path → (g : RunFault)
      → IfSome known (λ at. CommandGives at command (Err g) → g ≡ run.NoFile input.Layer)
  only_missing None missing g = tt
  only_missing (Some at) missing g = λ given.
      let After : Option (List ℕ) → Type 0 = λ lies. AfterOpening input.Layer lies (Err g) (λ l. Gives (Some l) (Err g)) in
      err_is g (run.NoFile input.Layer) (subst After missing ((one.gives at (Err g)).1 given))

  is_missing : (known : Option Files) → IsMissing known path
      → IfSome known (λ at. CommandGives at command (Err (run.NoFile input.Layer)) ⊎ (BlamesCommand (run.NoFile input.Layer) → ⊥))
  is_missing None missing = tt
  is_missing (Some at) missing =
      let fault : Result (List ℕ) RunFault = Err (run.NoFile input.Layer) in
      let After : Option (List ℕ) → Type 0 = λ lies. AfterOpening input.Layer lies fault (λ l. Gives (Some l) fault) in
      inl ((one.gives at fault).0 (subst After (sym missing) refl))

  -- there is no file at the path
  layer_missing : {T : Type 0} (sink : S) (result : Result T RunFault) → has_failed sink ≡ false
      → IsErrAnd result (λ x. x ≡ run.NoFile input.Layer) → IsMissing known path → CommandEnds known written is_flushed has_failed command sink sink result
  layer_missing sink result fresh h missing =
      refused_ends known written is_flushed has_failed command sink result (run.NoFile input.Layer) fresh h (λ e. absurd cc) (is_missing known missing)
      (λ g found. only_missing known missing g) (λ g found keys. only_missing known missing g) (one.allows known (run.NoFile input.Layer) tt)

  no_keys_given : (known : Option Files) → IfSome known (λ at. CommandGives at command (Err run.NoKeys) ⊎ (BlamesCommand run.NoKeys → ⊥))
  no_keys_given None = tt
  no_keys_given (Some at) = inr (λ blame. blame)

  none_first : (known : Option Files) (l : Option (List ℕ)) → IsAt known path l → (g f : RunFault) → IsFoundFirst command g
      → IfSome known (λ at. CommandGives at command (Err g) → g ≡ f)
  none_first None l is g f found = tt
  none_first (Some at) l is g f found = λ given. absurd (one.none_first l g found ((opened at l (Err g) is).1 given))

  none_next : (known : Option Files) (g : RunFault) → (run.NoKeys ≢ run.NoKeys) → IfSome known (λ at. CommandGives at command (Err g) → g ≡ run.NoKeys)
  none_next None g keys = tt
  none_next (Some at) g keys = λ given. absurd (keys refl)

  -- the system gives no keys
  layer_without_keys : {T : Type 0} (sink : S) (result : Result T RunFault) (l : Option (List ℕ)) → has_failed sink ≡ false
      → IsErrAnd result (λ x. x ≡ run.NoKeys) → IsAt known path l → CommandEnds known written is_flushed has_failed command sink sink result
  layer_without_keys sink result l fresh h is =
      refused_ends known written is_flushed has_failed command sink result run.NoKeys fresh h (λ e. absurd cc) (no_keys_given known)
      (λ g found. none_first known l is g run.NoKeys found) (λ g found keys. none_next known g keys) (one.allows known run.NoKeys tt)

  -- the layer isn't ready, so the sink is unchanged
  pub layer_unready : {T : Type 0} (sink : S) (result : Result T RunFault) (f : RunFault) → has_failed sink ≡ false → IsErrAnd result (λ x. x ≡ f)
      → IsLayerUnready known path f → CommandEnds known written is_flushed has_failed command sink sink result
  layer_unready sink result f fresh h (no_file missing) = layer_missing sink result fresh h missing
  layer_unready sink result f fresh h (no_keys l is) = layer_without_keys sink result l fresh h is

  text_as : (known : Option Files) (l : Option (List ℕ)) → IsAt known path l → (text : List ℕ) → Gives l (Ok text) → IsCommandText known command text
  text_as None l is text h = tt
  text_as (Some at) l is text h = (opened at l (Ok text) is).0 h

  fault_given : (l : Option (List ℕ)) (f : RunFault) → IsFault l f → ((i : Input) (w : WktFault) → f ≡ run.Wkt i w → HasTextFault i w)
      → (BlamesInput f → Gives l (Err f)) → BlamesCommand f → Gives l (Err f)
  fault_given l (run.Wkt i w) is named given blame = one.text_given l i w (named i w refl)
  fault_given l (run.NoFile i) is named given blame = absurd (one.is_opened l i is)
  fault_given l f is named given blame = given blame

  blamed_as : {T : Type 0} (known : Option Files) (l : Option (List ℕ)) → IsAt known path l → (result : Result T RunFault)
      → ((i : Input) (w : WktFault) → (result ≡ Err (run.Wkt i w)) ↔ HasTextFault i w) → IfErr result (λ f. BlamesInput f → Gives l (Err f))
      → IfErr result (λ f. f ≢ run.Write → IsFault l f) → IfErr result (λ f. BlamesCommand f → IfSome known (λ at. CommandGives at command (Err f)))
  blamed_as known l is (Ok x) exact fault faults = tt
  blamed_as None l is (Err f) exact fault faults = λ blame. tt
  blamed_as (Some at) l is (Err f) exact fault faults = λ blame.
      (opened at l (Err f) is).0 (fault_given l f (faults (λ w. subst BlamesCommand w blame))
      (λ i w e. (exact i w).0 (let same : Err f ≡ Err (run.Wkt i w) = cc in same)) fault blame)

  first_as : {T : Type 0} (known : Option Files) (l : Option (List ℕ)) (result : Result T RunFault) → IsAt known path l
      → (f : RunFault) → IsFoundFirst command f → IfSome known (λ at. CommandGives at command (Err f) → result ≡ Err f)
  first_as None l result is f found = tt
  first_as (Some at) l result is f found = λ given. absurd (one.none_first l f found ((opened at l (Err f) is).1 given))

  next_as : {T : Type 0} (known : Option Files) (l : Option (List ℕ)) (result : Result T RunFault) → IsAt known path l
      → ((i : Input) (w : WktFault) → (result ≡ Err (run.Wkt i w)) ↔ HasTextFault i w) → (f : RunFault) → IsFoundNext command f
      → IfSome known (λ at. CommandGives at command (Err f) → result ≡ Err f)
  next_as None l result is exact f found = tt
  next_as (Some at) l result is exact f found = λ given.
      let named = one.next l f found ((opened at l (Err f) is).1 given) in
      let told = (exact named.0 named.1).1 named.3 in let same : f ≡ run.Wkt named.0 named.1 = named.2 in cc

  -- the layer was opened, and the run was executed
  pub layer_ran : {T : Type 0} {HasFailed : Input → Type 0} (l : Option (List ℕ)) (old new : S) (result : Result T RunFault) → IsAt known path l
      → RunEnds (Gives l) HasTextFault (IsFault l) HasFailed written is_flushed has_failed old new result
      → CommandEnds known written is_flushed has_failed command old new result
  layer_ran l old new result is ran = record {
    writes = ends_as _ _ written is_flushed has_failed old new result (text_as known l is) ran.writes;
    fault = blamed_as known l is result ran.wkt ran.fault ran.faults;
    first = first_as known l result is;
    next = λ f found keys. next_as known l result is ran.wkt f found;
    faults = IfErr-weaker result _ _ (λ f given w. one.allows known f (allows_all (IsFault (bytes_at known path)) f
        (told_at known path l is (λ o. IsFault o f) (one.untold l f) (given w)))) ran.faults;
  }

-- ---- faults of a run over one layer

-- a fault of a layer is one of its file
gives_only : {G : Type 0} (IsTextOf : Contents G → List ℕ → Type 0) (reads : Reading G) (l : Option (List ℕ)) (P : RunFault → Type 0)
    → ((f : ReadFault) → P (run.Read input.Layer f)) → (g : RunFault) → LayerGives IsTextOf reads l (Err g) → P g
gives_only IsTextOf reads l P of_layer g given = by (Err g) given refl
  where
    by : (answer : Result (List ℕ) RunFault) → LayerGives IsTextOf reads l answer → answer ≡ Err g → P g
    by answer (layer_fault f a) is = subst P (let same : run.Read input.Layer f ≡ g = cc in same) (of_layer f)
    by answer (made layer text a b) is = absurd cc

layer_opens : {G : Type 0} (IsTextOf : Contents G → List ℕ → Type 0) (reads : Reading G) (l : Option (List ℕ)) (g : RunFault) → IsNoFile g
    → LayerGives IsTextOf reads l (Err g) → ⊥
layer_opens IsTextOf reads l g missing given = gives_only IsTextOf reads l (λ f. IsNoFile f → ⊥) (λ f none. none) g given missing

layer_is_opened : (kind : Geometries) (layout : Layout) (scale : Scale) (l : Option (List ℕ)) (i : Input) → IsLayerFaultOf kind layout scale l (run.NoFile i) → ⊥
layer_is_opened Box layout scale l i is = is
layer_is_opened (Any rings) layout scale l i is = is

-- ---- a window

-- the text of a window that is a box may have this fault
abbrev pub HasWindowTextFault : Geometries → Layout → Scale → List ℕ → Input → WktFault → Type 0
HasWindowTextFault Box layout scale wkt = HasWindowFault scale wkt
HasWindowTextFault (Any rings) layout scale wkt = NoTextFault

window_opens : (kind : Geometries) (layout : Layout) (scale : Scale) (wkt : List ℕ) (l : Option (List ℕ)) (g : RunFault) → IsNoFile g
    → GivesWindow kind layout scale wkt l (Err g) → ⊥
window_opens Box layout scale wkt l g missing gives = by (Err g) gives refl
  where
    by : (answer : Result (List ℕ) RunFault) → WindowGives layout scale wkt l answer → answer ≡ Err g → ⊥
    by answer (text_fault f a) is = subst IsNoFile (let same : g ≡ run.Wkt input.Window f = cc in same) missing
    by answer (looked_up s read a given) is = layer_opens _ (laid_out layout (ReadsBox scale)) l g missing (subst (LayerGives _ (laid_out layout (ReadsBox scale)) l) is given)
window_opens (Any rings) layout scale wkt l g missing gives = by (Err g) gives refl
  where
    by : (answer : Result (List ℕ) RunFault) → AnyWindowGives (laid_out layout (ReadsAny scale rings)) wkt l answer → answer ≡ Err g → ⊥
    by answer (any_text_fault f a) is = subst IsNoFile (let same : g ≡ run.Geometry input.Window f = cc in same) missing
    by answer (any_looked_up w read a given) is =
        layer_opens _ (laid_out layout (ReadsAny scale rings)) l g missing (subst (LayerGives _ (laid_out layout (ReadsAny scale rings)) l) is given)

-- a fault of the text of a window of this kind, if it is a box
abbrev IsBoxText : Geometries → RunFault → Type 0
IsBoxText kind (run.Wkt i w) = IsBox kind
IsBoxText kind _ = ⊥

box_text : (layer : LayerRequest) (wkt : Bor (List ℕ)) (g : RunFault) → IsFoundNext (Window layer wkt) g → IsBoxText layer.geometries g
box_text layer wkt (run.Wkt i w) found = found
box_text layer wkt g found = absurd found

no_box_text : {P : Type 0} (kind : Geometries) (g : RunFault) → (IsBox kind → ⊥) → IsBoxText kind g → P
no_box_text kind (run.Wkt i w) none found = absurd (none found)
no_box_text kind g none found = absurd found

window_next : (kind : Geometries) (layout : Layout) (scale : Scale) (wkt : List ℕ) (l : Option (List ℕ)) (g : RunFault) → IsBoxText kind g
    → GivesWindow kind layout scale wkt l (Err g) → (i : Input) × (w : WktFault) × (g ≡ run.Wkt i w) × HasWindowTextFault kind layout scale wkt i w
window_next Box layout scale wkt l g found gives = by (Err g) gives refl
  where
    by : (answer : Result (List ℕ) RunFault) → WindowGives layout scale wkt l answer → answer ≡ Err g
        → (i : Input) × (w : WktFault) × (g ≡ run.Wkt i w) × HasWindowFault scale wkt i w
    by answer (text_fault f a) is = (input.Window, f, (let same : g ≡ run.Wkt input.Window f = cc in same), a)
    by answer (looked_up s read a given) is =
        absurd (gives_only _ (laid_out layout (ReadsBox scale)) l (λ f. IsBoxText Box f → ⊥) (λ f none. none) g (subst (LayerGives _ (laid_out layout (ReadsBox scale)) l) is given) found)
window_next (Any rings) layout scale wkt l g found gives = no_box_text (Any rings) g (λ none. none) found

window_text_given : (kind : Geometries) (layout : Layout) (scale : Scale) (wkt : List ℕ) (l : Option (List ℕ)) (i : Input) (w : WktFault)
    → HasWindowTextFault kind layout scale wkt i w → GivesWindow kind layout scale wkt l (Err (run.Wkt i w))
window_text_given Box layout scale wkt l input.Window w a = text_fault w a
window_text_given Box layout scale wkt l _ w a = absurd a
window_text_given (Any rings) layout scale wkt l i w a = absurd a

window_is_opened : (kind : Geometries) (layout : Layout) (scale : Scale) (wkt : List ℕ) (l : Option (List ℕ)) (i : Input) → IsWindowFaultOf kind layout scale wkt l (run.NoFile i) → ⊥
window_is_opened Box layout scale wkt l i is = is.1
window_is_opened (Any rings) layout scale wkt l i is = is.1

pub window_runs : (layer : LayerRequest) (wkt : Bor (List ℕ)) → RunsOne (Window layer wkt) layer.path.now
    (GivesWindow layer.geometries layer.layout layer.scale wkt.now) (HasWindowTextFault layer.geometries layer.layout layer.scale wkt.now)
    (IsWindowFaultOf layer.geometries layer.layout layer.scale wkt.now)
window_runs layer wkt = record {
  gives = λ at answer. ((λ h. h), (λ h. h));
  none_first = λ l g found. window_opens layer.geometries layer.layout layer.scale wkt.now l g (found_missing (Window layer wkt) g tt found);
  next = λ l g found. window_next layer.geometries layer.layout layer.scale wkt.now l g (box_text layer wkt g found);
  text_given = window_text_given layer.geometries layer.layout layer.scale wkt.now;
  is_opened = window_is_opened layer.geometries layer.layout layer.scale wkt.now;
  untold = window_untold layer.geometries layer.layout layer.scale wkt.now;
  allows = λ known f is. is;
}

-- the run of a window over a layer of this kind of geometries
pub window_of_kind : {T S : Type 0} {written : S → Option (List ℕ)} {is_flushed has_failed : S → Bool} {HasFailed : Input → Type 0}
    (this kind : Geometries) (layout : Layout) (scale : Scale) (text wkt : List ℕ) (l : Option (List ℕ)) (old new : S) (result : Result T RunFault) → kind ≡ this → text ≡ wkt
    → RunEnds (GivesWindow this layout scale text l) (HasWindowTextFault this layout scale text) (IsWindowFaultOf this layout scale text l) HasFailed
    written is_flushed has_failed old new result
    → RunEnds (GivesWindow kind layout scale wkt l) (HasWindowTextFault kind layout scale wkt) (IsWindowFaultOf kind layout scale wkt l) HasFailed
    written is_flushed has_failed old new result
window_of_kind {T} {S} {written} {is_flushed} {has_failed} {HasFailed} this kind layout scale text wkt l old new result is same ran =
    let Ran : Geometries → List ℕ → Type 0 = λ k t. RunEnds (GivesWindow k layout scale t l) (HasWindowTextFault k layout scale t) (IsWindowFaultOf k layout scale t l) HasFailed
    written is_flushed has_failed old new result in
    subst (λ (t : List ℕ). Ran kind t) same (subst (λ (k : Geometries). Ran k text) (sym is) ran)

-- ---- counts and corners

-- the run of another command over a layer of this kind of geometries
pub of_kind : {T S : Type 0} {written : S → Option (List ℕ)} {is_flushed has_failed : S → Bool} {HasFailed : Input → Type 0}
    (Gives : Geometries → Layout → Scale → Option (List ℕ) → Result (List ℕ) RunFault → Type 0) (this kind : Geometries) (layout : Layout) (scale : Scale) (l : Option (List ℕ))
    (old new : S) (result : Result T RunFault) → kind ≡ this
    → RunEnds (Gives this layout scale l) NoTextFault (IsLayerFaultOf this layout scale l) HasFailed written is_flushed has_failed old new result
    → RunEnds (Gives kind layout scale l) NoTextFault (IsLayerFaultOf kind layout scale l) HasFailed written is_flushed has_failed old new result
of_kind {T} {S} {written} {is_flushed} {has_failed} {HasFailed} Gives this kind layout scale l old new result is ran =
    subst (λ (k : Geometries). RunEnds (Gives k layout scale l) NoTextFault (IsLayerFaultOf k layout scale l) HasFailed written is_flushed has_failed old new result)
    (sym is) ran

counts_open : (kind : Geometries) (layout : Layout) (scale : Scale) (l : Option (List ℕ)) (g : RunFault) → IsNoFile g → GivesCounts kind layout scale l (Err g) → ⊥
counts_open Box layout scale l g missing given = layer_opens AreCounts (laid_out layout (ReadsBox scale)) l g missing given
counts_open (Any rings) layout scale l g missing given = layer_opens AreAnyCounts (laid_out layout (ReadsAny scale rings)) l g missing given

pub stats_runs : (layer : LayerRequest) → RunsOne (Stats layer) layer.path.now (GivesCounts layer.geometries layer.layout layer.scale) NoTextFault
    (IsLayerFaultOf layer.geometries layer.layout layer.scale)
stats_runs layer = record {
  gives = λ at answer. ((λ h. h), (λ h. h));
  none_first = λ l g found. counts_open layer.geometries layer.layout layer.scale l g (found_missing (Stats layer) g tt found);
  next = λ l g found. absurd found;
  text_given = λ l i w none. absurd none;
  is_opened = layer_is_opened layer.geometries layer.layout layer.scale;
  untold = layer_untold layer.geometries layer.layout layer.scale;
  allows = λ known f is. is;
}

corners_open : (kind : Geometries) (layout : Layout) (scale : Scale) (l : Option (List ℕ)) (g : RunFault) → IsNoFile g → GivesCorners kind layout scale l (Err g) → ⊥
corners_open Box layout scale l g missing given = layer_opens (ListsCorners (λ s. s)) (laid_out layout (ReadsBox scale)) l g missing given
corners_open (Any rings) layout scale l g missing given = layer_opens (ListsCorners box_of) (laid_out layout (ReadsAny scale rings)) l g missing given

pub bounds_runs : (layer : LayerRequest) → RunsOne (Bounds layer) layer.path.now (GivesCorners layer.geometries layer.layout layer.scale) NoTextFault
    (IsLayerFaultOf layer.geometries layer.layout layer.scale)
bounds_runs layer = record {
  gives = λ at answer. ((λ h. h), (λ h. h));
  none_first = λ l g found. corners_open layer.geometries layer.layout layer.scale l g (found_missing (Bounds layer) g tt found);
  next = λ l g found. absurd found;
  text_given = λ l i w none. absurd none;
  is_opened = layer_is_opened layer.geometries layer.layout layer.scale;
  untold = layer_untold layer.geometries layer.layout layer.scale;
  allows = λ known f is. is;
}
