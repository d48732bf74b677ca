-- The possible faults of a command, by the known content at its paths and of its files.
use Rattle.std.proofs.Common.{◌≡◌, ℕ, List, Option, Some, None, Result, Ok, Err, OnOk, sym, ap, subst, ◌∙◌, refl}
use Rattle.std.specs.Borrow.{Bor}
use Rattle.number_core.specs.declared.scale.Scale.{Scale}
use Rattle.layer_core.specs.Edits.{EditContent, Layers}
use Rattle.any_geometry_core.specs.declared.geometry.AnyGeometry.{AnyGeometry}
use Rattle.format_core.specs.Formats.{ReadsAny, ReadsBox}
use Rattle.format_core.specs.declared.layout.Layout.{Layout}
use Rattle.format_core.specs.Layouts.{Reading, laid_out}
use Rattle.row_core.specs.declared.read_fault.ReadFault.{ReadFault}
use Rattle.run_core.specs.declared.fault.Input.TheVariants as input
use Rattle.run_core.specs.declared.fault.RunFault.{RunFault}
use Rattle.run_core.specs.declared.fault.RunFault.TheVariants as run
use Rattle.run_core.specs.EditedLayers.{EditFile, LayersGive, edited, left_fault, right_fault, edits_fault, edit_refused, IsJoinFault, JoinFiles, SkippedLists}
use Rattle.layer_run_core.specs.LayerRuns.{IsLayerRunFault}
use Rattle.run_core.specs.TextRuns.{no_layers, too_many, made as text_made}
use Rattle.layer_run_core.specs.WindowRuns.{IsWindowFault}
use Rattle.layer_run_core.specs.AnyWindows.{IsAnyWindowFault}
use Rattle.words_core.specs.declared.condition.Geometries.{Geometries}
use Rattle.words_core.specs.declared.condition.Geometries.TheVariants as geometries
use Rattle.words_core.specs.declared.words.LayerPaths.{LayerPaths}
use Rattle.command_core.specs.Asked.{Asked, AskedGives, IsAskedFault, IsAskedTextFault, edits_at, files_read, known_bytes}
use Rattle.run_core.specs.Marks.{MarkedLists, MarksLayer}
use Rattle.command_core.specs.ImproperRows.{AskedRows}
use Rattle.command_core.specs.Skipping.{AskedSkips, KnownSkips}
use Rattle.command_core.specs.LayerResults.{IsLayerFaultOf, IsWindowFaultOf}
use Rattle.command_core.specs.Opening.{Files, IsAt, AreEditsAt, AreOpened, JoinBytes, bytes_at}

-- ---- the file of a layer

-- a fact that holds for the bytes of a file, and for unknown ones, holds for those known at its
-- path
pub told_at : (known : Option Files) (path : List ℕ) (l : Option (List ℕ)) → IsAt known path l → (P : Option (List ℕ) → Type 0) → (P l → P None) → P l
    → P (bytes_at known path)
told_at None path l is P into h = into h
told_at (Some at) path l is P into h = subst P (is.2 ∙ sym is.1) h

-- the rows with a property of an opened layer are those of the file at its path
pub layer_marks : {G : Type 0} {T : Type 0} (result : Result T RunFault) (known : Option Files) (path : List ℕ) (l : Option (List ℕ)) → IsAt known path l
    → (reads : Reading G) (IsMarked : G → Type 0) (rows : List ℕ) → OnOk result (MarksLayer reads IsMarked l rows)
    → OnOk result (MarksLayer reads IsMarked (bytes_at known path) rows)
layer_marks (Ok x) known path l is reads IsMarked rows marks = told_at known path l is (λ o. MarksLayer reads IsMarked o rows) (λ h. tt) marks
layer_marks (Err e) known path l is reads IsMarked rows marks = tt

run_untold : {G : Type 0} (reads : Reading G) (l : Option (List ℕ)) (f : RunFault) → IsLayerRunFault reads l f → IsLayerRunFault reads None f
run_untold reads l run.Memory is = (is.0, tt)
run_untold reads l f is = is

pub layer_untold : (kind : Geometries) (layout : Layout) (scale : Scale) (l : Option (List ℕ)) (f : RunFault) → IsLayerFaultOf kind layout scale l f
    → IsLayerFaultOf kind layout scale None f
layer_untold geometries.Box layout scale l f is = run_untold (laid_out layout (ReadsBox scale)) l f is
layer_untold (geometries.Any rings) layout scale l f is = run_untold (laid_out layout (ReadsAny scale rings)) l f is

box_window_untold : (layout : Layout) (scale : Scale) (wkt : List ℕ) (l : Option (List ℕ)) (f : RunFault) → IsWindowFault layout scale wkt l f → IsWindowFault layout scale wkt None f
box_window_untold layout scale wkt l (run.Wkt input.Window w) is = is
box_window_untold layout scale wkt l f is = (is.0, run_untold (laid_out layout (ReadsBox scale)) l f is.1)

any_window_untold : (reads : Reading AnyGeometry) (wkt : List ℕ) (l : Option (List ℕ)) (f : RunFault) → IsAnyWindowFault reads wkt l f
    → IsAnyWindowFault reads wkt None f
any_window_untold reads wkt l (run.Geometry input.Window g) is = is
any_window_untold reads wkt l run.Memory is = is
any_window_untold reads wkt l f is = (is.0, run_untold reads l f is.1)

pub window_untold : (kind : Geometries) (layout : Layout) (scale : Scale) (wkt : List ℕ) (l : Option (List ℕ)) (f : RunFault) → IsWindowFaultOf kind layout scale wkt l f
    → IsWindowFaultOf kind layout scale wkt None f
window_untold geometries.Box layout scale wkt l f is = box_window_untold layout scale wkt l f is
window_untold (geometries.Any rings) layout scale wkt l f is = any_window_untold (laid_out layout (ReadsAny scale rings)) wkt l f is

-- ---- the files of a join

abbrev untold_edits : Option (Option (List ℕ)) → Option (Option (List ℕ))
untold_edits None = None
untold_edits (Some told) = Some None

-- the same files with unknown bytes
abbrev pub untold : JoinBytes → JoinBytes
untold bytes = record { layouts = bytes.layouts; left = None; right = None; edits = untold_edits bytes.edits }

-- edited layers don't lack because they are too many to be drawn
never_too_many : {G : Type 0} (files : JoinFiles G) (answer : Result (Layers G) RunFault) → LayersGive files answer → answer ≡ Err run.TooManyToDraw → ⊥
never_too_many files answer (left_fault f a) is = cc
never_too_many files answer (right_fault l f a b) is = cc
never_too_many files answer (edits_fault l r f a b d) is = cc
never_too_many files answer (edit_refused l r es row f a b d e) is = cc
never_too_many files answer (edited l r es layers a b d e) is = cc

edits_untold : {G : Type 0} (reads : Reading G) (e : Option (Option (List ℕ))) (answer : Result (List (EditContent G)) ReadFault) → EditFile reads e answer
    → EditFile reads (untold_edits e) answer
edits_untold reads None answer is = is
edits_untold reads (Some told) answer is = tt

module _ (asked : Asked) where
  layers_untold : (bytes : JoinBytes) (layers : Layers asked.Geometry) (answer : Result (Layers asked.Geometry) RunFault)
      → LayersGive (files_read asked bytes) answer → answer ≡ Ok layers → LayersGive (files_read asked (untold bytes)) (Ok layers)
  layers_untold bytes layers answer (left_fault f a) is = absurd cc
  layers_untold bytes layers answer (right_fault l f a b) is = absurd cc
  layers_untold bytes layers answer (edits_fault l r f a b d) is = absurd cc
  layers_untold bytes layers answer (edit_refused l r es row f a b d e) is = absurd cc
  layers_untold bytes layers answer (edited l r es made a b d e) is =
      edited l r es layers tt tt (edits_untold (files_read asked bytes).reads bytes.edits (Ok es) d) (let same : made ≡ layers = cc in e ∙ ap Ok same)

  join_untold : (bytes : JoinBytes) (f : RunFault) → IsJoinFault (files_read asked bytes) f → IsJoinFault (files_read asked (untold bytes)) f
  join_untold bytes (run.Read input.Left f) is = tt
  join_untold bytes (run.Read input.Right f) is = λ other. ((is other).0, tt)
  join_untold bytes (run.Read input.Edits f) is = ((is.0.0, tt), (is.1.0, tt))
  join_untold bytes (run.Edit row f) is = λ want. let made = is want in record {
    left = made.left;
    right = made.right;
    edits = made.edits;
    left_read = tt;
    right_read = tt;
    edits_read = edits_untold (files_read asked bytes).reads bytes.edits (Ok made.edits) made.edits_read;
    are_made = made.are_made;
  }
  join_untold bytes f is = (is.0, (is.1.0, layers_untold bytes is.1.0 (Ok is.1.0) is.1.1 refl))

  gives_untold : (bytes : JoinBytes) (answer : Result (List ℕ) RunFault) → AskedGives asked bytes answer → answer ≡ Err run.TooManyToDraw
      → AskedGives asked (untold bytes) (Err run.TooManyToDraw)
  gives_untold bytes answer (no_layers f given) is =
      absurd (never_too_many (files_read asked bytes) (Err f) given (let same : f ≡ run.TooManyToDraw = cc in ap Err same))
  gives_untold bytes answer (too_many layers given many) is = too_many layers (layers_untold bytes layers (Ok layers) given refl) many
  gives_untold bytes answer (text_made layers text given are) is = absurd cc

  text_untold : (bytes : JoinBytes) (f : RunFault) → IsAskedTextFault asked bytes f → IsAskedTextFault asked (untold bytes) f
  text_untold bytes run.TooManyToDraw is = gives_untold bytes (Err run.TooManyToDraw) is refl
  text_untold bytes f is = join_untold bytes f is

  -- a possible fault of files is one of files with unknown bytes
  pub asked_untold : (bytes : JoinBytes) (f : RunFault) → IsAskedFault asked bytes f → IsAskedFault asked (untold bytes) f
  asked_untold bytes run.NotStored is = is
  asked_untold bytes f is = text_untold bytes f is

  -- and so are the rows that are skipped, and those with improper rings
  skips_untold : (rows : SkippedLists) (bytes : JoinBytes) → AskedSkips asked bytes rows → AskedSkips asked (untold bytes) rows
  skips_untold rows bytes are = record { left = tt; right = tt }

  improper_untold : (rows : MarkedLists) (bytes : JoinBytes) → AskedRows asked bytes rows → AskedRows asked (untold bytes) rows
  improper_untold rows bytes are = record { improper = record { left = tt; right = tt }; none = are.none }

edits_none : (path : Option (Bor (List ℕ))) (e : Option (Option (List ℕ))) → AreEditsAt None path e → untold_edits e ≡ edits_at None path
edits_none None e is = ap untold_edits is
edits_none (Some path) e is = ap untold_edits is.1

edits_some : (at : Files) (path : Option (Bor (List ℕ))) (e : Option (Option (List ℕ))) → AreEditsAt (Some at) path e → e ≡ edits_at (Some at) path
edits_some at None e is = is
edits_some at (Some path) e is = is.1 ∙ ap Some (is.2.2 ∙ sym is.2.1)

bytes_are : (a b : JoinBytes) → a.layouts ≡ b.layouts → a.left ≡ b.left → a.right ≡ b.right → a.edits ≡ b.edits → a ≡ b
bytes_are a b layouts left right edits =
    let made : Layout × Layout → Option (List ℕ) → Option (List ℕ) → Option (Option (List ℕ)) → JoinBytes =
    λ t l r e. record { layouts = t; left = l; right = r; edits = e } in
    ap (λ t. made t a.left a.right a.edits) layouts ∙ ap (λ l. made b.layouts l a.right a.edits) left ∙ ap (λ r. made b.layouts b.left r a.edits) right
    ∙ ap (λ e. made b.layouts b.left b.right e) edits

-- the bytes that the opened files tell are those known at their paths
told_known : (at : Files) (paths : LayerPaths) (bytes : JoinBytes) → AreOpened (Some at) paths bytes → bytes ≡ known_bytes (Some at) paths
told_known at paths bytes is = bytes_are bytes (known_bytes (Some at) paths) is.laid (is.at_left.2 ∙ sym is.at_left.1) (is.at_right.2 ∙ sym is.at_right.1)
    (edits_some at paths.edits bytes.edits is.at_edits)

-- a possible fault by what the files tell, which may come of unknown bytes too, is one by what is known of them
pub fault_known : (IsFault : JoinBytes → RunFault → Type 0) → ((bytes : JoinBytes) (f : RunFault) → IsFault bytes f → IsFault (untold bytes) f)
    → (known : Option Files) (paths : LayerPaths) (bytes : JoinBytes) → AreOpened known paths bytes → (f : RunFault)
    → IsFault bytes f → IsFault (known_bytes known paths) f
fault_known IsFault untells None paths bytes is f fault =
    subst (λ (t : Layout × Layout). IsFault (record { layouts = t; left = None; right = None; edits = edits_at None paths.edits }) f) is.laid
    (subst (λ (e : Option (Option (List ℕ))). IsFault (record { layouts = bytes.layouts; left = None; right = None; edits = e }) f)
    (edits_none paths.edits bytes.edits is.at_edits) (untells bytes f fault))
fault_known IsFault untells (Some at) paths bytes is f fault = subst (λ (b : JoinBytes). IsFault b f) (told_known at paths bytes is) fault

-- the same of rows
rows_known : (Skips : JoinBytes → Type 0) → ((bytes : JoinBytes) → Skips bytes → Skips (untold bytes))
    → (known : Option Files) (paths : LayerPaths) (bytes : JoinBytes) → AreOpened known paths bytes
    → Skips bytes → Skips (known_bytes known paths)
rows_known Skips untells known paths bytes is skips =
    fault_known (λ b f. Skips b) (λ b f h. untells b h) known paths bytes is run.Memory skips

module _ (asked : Asked) (known : Option Files) (bytes : JoinBytes) (is : AreOpened known asked.paths bytes) where
  pub skips_known : (rows : SkippedLists) → AskedSkips asked bytes rows → KnownSkips known asked rows
  skips_known rows are = rows_known (λ b. AskedSkips asked b rows) (skips_untold asked rows) known asked.paths bytes is are

  pub improper_known : (rows : MarkedLists) → AskedRows asked bytes rows → AskedRows asked (known_bytes known asked.paths) rows
  improper_known rows are = rows_known (λ b. AskedRows asked b rows) (improper_untold asked rows) known asked.paths bytes is are
