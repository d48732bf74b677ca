-- How a command over the files of two layers and of their edits ends.
use Rattle.std.proofs.Common.{◌≡◌, ◌≢◌, ◌↔◌, ℕ, List, Option, Some, None, Bool, false, Result, Ok, Err, IsErrAnd, ◌⊎◌, inl, inr, IfErr, IfSome}
use Rattle.std.proofs.Common.{ap, refl, sym, subst, ◌∙◌}
use Rattle.std.specs.Prelude.{⊤}
use Rattle.std.proofs.lemmas.Result.{IfErr-weaker}
use Rattle.std.specs.Borrow.{Bor}
use Rattle.layer_core.specs.Edits.{Layers}
use Rattle.file_core.specs.declared.skipped.Unreadable.{Unreadable}
use Rattle.format_core.specs.declared.layout.Layout.{Layout}
use Rattle.run_core.specs.declared.fault.Input.{Input}
use Rattle.run_core.specs.declared.fault.Input.TheVariants.{Left, Right, Edits}
use Rattle.run_core.specs.declared.fault.RunFault.{RunFault}
use Rattle.run_core.specs.declared.fault.RunFault.TheVariants as run
use Rattle.run_core.specs.declared.loaded.JoinText.{JoinText}
use Rattle.run_core.specs.Inputs.{BlamesInput}
use Rattle.run_core.specs.EditedLayers.{JoinFiles, LayersGive, left_fault, right_fault, edits_fault, edit_refused, edited, IsJoinFault, SkippedLists}
use Rattle.run_core.specs.Marks.{MarkedLists}
use Rattle.run_core.specs.TextRuns.{IsTextRunFault, MakesText, Making, TextGives, no_layers, too_many, made}
use Rattle.run_core.specs.Runs.{Ends}
use Rattle.words_core.specs.declared.words.Command.{Command}
use Rattle.words_core.specs.declared.condition.Condition.{Condition}
use Rattle.words_core.specs.declared.condition.Condition.TheVariants as conditions
use Rattle.words_core.specs.declared.condition.Geometries.{Geometries}
use Rattle.words_core.specs.declared.condition.Geometries.TheVariants as kinds
use Rattle.words_core.specs.declared.words.JoinRequest.{JoinRequest}
use Rattle.words_core.specs.declared.words.LayerPaths.{LayerPaths}
use Rattle.words_core.specs.declared.words.NearRequest.{NearRequest}
use Rattle.words_core.specs.declared.words.NearestRequest.{NearestRequest}
use Rattle.command_core.specs.declared.pairs.PairRequest.{PairRequest}
use Rattle.command_core.specs.declared.pairs.PairRequest.TheVariants.{Join, Near, Nearest}
use Rattle.command_core.specs.Asked.{AfterEdits, Asked, AskedGives, IsAskedFault, IsAskedTextFault, PathsGive, files_read, known_bytes, unreadable_for}
use Rattle.command_core.specs.Commands.{CommandGives, IsCommandText, IsPairFault, BlamesCommand, IsFoundFirst, IsFoundNext, IsFaultOf, OrNoFile, CommandEnds}
use Rattle.command_core.specs.Opening.{AfterOpening, Files, IsAt, IsMissing, AreEditsAt, AreEditsMissing, AreOpened, IsFirstMissing, no_left, no_right, no_edits}
use Rattle.command_core.specs.Opening.{JoinBytes, layouts_at}
use Rattle.command_core.specs.Requests.{asks, command_of, condition_asks, kind_near_asks, kind_nearest_asks}
use Rattle.command_core.specs.Skipping.{AskedSkips, CommandSkips, IsStoreFault, KnownSkips, SkipEnds, StoresFirst, skip_of}
use Rattle.command_core.specs.Storing.{Stored}
use Rattle.run_core.proofs.RunLemmas.{ends_as, not_begun}
use Rattle.command_core.proofs.KnownLemmas.{asked_untold, fault_known, skips_known}
use Rattle.command_core.proofs.SkipLemmas.{skips_rows}
use Rattle.command_core.proofs.CommandLemmas.{IsNoFile, OpensFiles, found_missing, refused_ends, input_opened, err_is}

-- ---- opening

-- the error that `?` returns for the first file that can't be opened
pub missing_as : {T : Type 0} (known : Option Files) (paths : LayerPaths) (result : Result T RunFault) (e f : RunFault) → IsErrAnd result (λ x. x ≡ e) → e ≡ f
    → IsFirstMissing known paths f → IfErr result (IsFirstMissing known paths)
missing_as known paths (Ok x) e f h named missing = absurd h
missing_as known paths (Err x) e f h named missing = subst (IsFirstMissing known paths) (sym (h ∙ named)) missing

-- the consequence of opening the edits, given that they can be opened
edits_opened : (at : Files) (edits : Option (Bor (List ℕ))) (told : Option (Option (List ℕ))) (answer : Result (List ℕ) RunFault)
    (Then : Option (Option (List ℕ)) → Type 0)
    → AreEditsAt (Some at) edits told → Then told ↔ AfterEdits at edits answer Then
edits_opened at None told answer Then is = ((λ h. subst Then is h), (λ h. subst Then (sym is) h))
edits_opened at (Some path) told answer Then is =
    let After : Option (List ℕ) → Type 0 = λ lies. AfterOpening Edits lies answer (λ bytes. Then (Some (Some bytes))) in
    let whole : told ≡ Some (Some is.2.0) = let a : told ≡ Some is.0 = is.1 in let b : is.0 ≡ Some is.2.0 = is.2.2 in cc in (
      (λ h. let now : After (Some is.2.0) = subst Then whole h in subst After (sym is.2.1) now),
      (λ h. let now : After (Some is.2.0) = subst After is.2.1 h in subst Then (sym whole) now),
    )

-- the consequence of opening the left and the right file if the file of edits can't be opened
edits_refused : (at : Files) (edits : Option (Bor (List ℕ))) (answer : Result (List ℕ) RunFault) (Then : Option (Option (List ℕ)) → Type 0)
    → AreEditsMissing (Some at) edits → (answer ≡ Err (run.NoFile Edits)) ↔ AfterEdits at edits answer Then
edits_refused at None answer Then missing = absurd missing
edits_refused at (Some path) answer Then missing =
    let After : Option (List ℕ) → Type 0 = λ lies. AfterOpening Edits lies answer (λ bytes. Then (Some (Some bytes))) in
    ((λ h. let now : After None = h in subst After (sym missing) now), (λ h. let now : After None = subst After missing h in now))

-- ---- results and faults of making a text

-- a fault of reading or editing layers
abbrev IsOfLayers : RunFault → Type 0
IsOfLayers (run.Read i f) = ⊤
IsOfLayers (run.Edit row f) = ⊤
IsOfLayers _ = ⊥

layers_fault : {G : Type 0} (files : JoinFiles G) (answer : Result (Layers G) RunFault) (g : RunFault) → LayersGive files answer → answer ≡ Err g
    → IsOfLayers g
layers_fault files answer g (left_fault f a) is = subst IsOfLayers (let same : run.Read Left f ≡ g = cc in same) tt
layers_fault files answer g (right_fault l f a b) is = subst IsOfLayers (let same : run.Read Right f ≡ g = cc in same) tt
layers_fault files answer g (edits_fault l r f a b d) is = subst IsOfLayers (let same : run.Read Edits f ≡ g = cc in same) tt
layers_fault files answer g (edit_refused l r es row f a b d e) is = subst IsOfLayers (let same : run.Edit row f ≡ g = cc in same) tt
layers_fault files answer g (edited l r es layers a b d e) is = absurd cc

of_layers : (g : RunFault) → IsNoFile g → IsOfLayers g → ⊥
of_layers (run.NoFile i) missing is = is
of_layers g missing is = missing

module _ {G : Type 0} (making : Making G) (files : JoinFiles G) where
  -- no run gives the fault of a file that can't be opened
  text_opens : (g : RunFault) → IsNoFile g → TextGives making files (Err g) → ⊥
  text_opens g missing gives = by (Err g) gives refl
    where
      by : (answer : Result (List ℕ) RunFault) → TextGives making files answer → answer ≡ Err g → ⊥
      by answer (no_layers f given) is = of_layers g missing (layers_fault files (Err f) g given (let same : f ≡ g = cc in cc))
      by answer (too_many layers a b) is = subst IsNoFile (let same : g ≡ run.TooManyToDraw = cc in same) missing
      by answer (made layers text a b) is = cc

  -- a fault of a run blames an input if it blames the command
  join_blames : (f : RunFault) → IsJoinFault files f → BlamesCommand f → BlamesInput f
  join_blames (run.NoFile i) allowed blame = absurd allowed.0
  join_blames (run.Wkt i w) allowed blame = absurd allowed.0
  join_blames f allowed blame = blame

  text_blames : (f : RunFault) → IsTextRunFault making files f → BlamesCommand f → BlamesInput f
  text_blames run.TooManyToDraw allowed blame = blame
  text_blames f allowed blame = join_blames f allowed blame

  -- no run ends with a fault of what it writes
  pub not_written : (f : RunFault) → IsTextRunFault making files f → f ≢ run.Write
  not_written f is same = (subst (IsTextRunFault making files) same is).0

  -- where a run has made a text there are layers, so that memory may run out behind it
  text_wants : (text : List ℕ) → TextGives making files (Ok text) → IsTextRunFault making files run.Memory
  text_wants text gives = by (Ok text) gives refl
    where
      by : (answer : Result (List ℕ) RunFault) → TextGives making files answer → answer ≡ Ok text → IsTextRunFault making files run.Memory
      by answer (no_layers f given) is = absurd cc
      by answer (too_many layers a b) is = absurd cc
      by answer (made layers written a b) is = (tt, (layers, a))

module _ (asked : Asked) (bytes : JoinBytes) where
  -- a fault of making the text is one of what is asked
  asked_fault : (f : RunFault) → IsAskedTextFault asked bytes f → IsAskedFault asked bytes f
  asked_fault run.NotStored is = absurd is.0
  asked_fault f is = is

  asked_blames : (f : RunFault) → IsAskedFault asked bytes f → BlamesCommand f → BlamesInput f
  asked_blames run.NotStored is blame = blame
  asked_blames f is blame = text_blames asked.making (files_read asked bytes) f is blame

-- a fault of a run is one of its command
allows_all : (IsRunFault : RunFault → Type 0) (f : RunFault) → IsRunFault f → OrNoFile IsRunFault f
allows_all IsRunFault (run.NoFile i) is = tt
allows_all IsRunFault run.NoKeys is = tt
allows_all IsRunFault f is = is

-- ---- commands that ask something of two layers

-- what the results, the faults and the skipped rows of what is asked are for the command
pub record IsAskedBy (command : Command) (asked : Asked) : Type 0 where
  pub opens_files : OpensFiles command
  pub gives : (at : Files) (answer : Result (List ℕ) RunFault) → PathsGive at asked answer ↔ CommandGives at command answer
  pub faults : (known : Option Files) (f : RunFault) → IsPairFault known asked f → IsFaultOf known command f
  pub none_next : (g : RunFault) → ¬ (IsFoundNext command g)
  pub skips : (known : Option Files) (rows : SkippedLists) → KnownSkips known asked rows → CommandSkips known command rows
  pub skip : asked.paths.skip ≡ skip_of command

join_skips : (condition : Condition) (join : JoinRequest) → (condition_asks condition join).paths.skip ≡ join.paths.skip
join_skips (conditions.Boxes relation) join = refl
join_skips (conditions.Any relation) join = refl

near_skips : (kind : Geometries) (near : NearRequest) → (kind_near_asks kind near).paths.skip ≡ near.paths.skip
near_skips kinds.Box near = refl
near_skips (kinds.Any rings) near = refl

nearest_skips : (kind : Geometries) (nearest : NearestRequest) → (kind_nearest_asks kind nearest).paths.skip ≡ nearest.paths.skip
nearest_skips kinds.Box nearest = refl
nearest_skips (kinds.Any rings) nearest = refl

pub request_asks : (request : PairRequest) → IsAskedBy (command_of request) (asks request)
request_asks (Join join) = record {
  opens_files = tt;
  gives = λ at answer. ((λ h. h), (λ h. h));
  faults = λ known f h. h;
  none_next = λ g found. found;
  skips = λ known rows h. h;
  skip = join_skips join.condition join;
}
request_asks (Near near) = record {
  opens_files = tt;
  gives = λ at answer. ((λ h. h), (λ h. h));
  faults = λ known f h. h;
  none_next = λ g found. found;
  skips = λ known rows h. h;
  skip = near_skips near.geometries near;
}
request_asks (Nearest nearest) = record {
  opens_files = tt;
  gives = λ at answer. ((λ h. h), (λ h. h));
  faults = λ known f h. h;
  none_next = λ g found. found;
  skips = λ known rows h. h;
  skip = nearest_skips nearest.geometries nearest;
}

-- ---- the end of a command over files

module _ {S : Type 0} (known : Option Files) (written : S → Option (List ℕ)) (is_flushed has_failed : S → Bool) (command : Command) (asked : Asked)
    (runs : IsAskedBy command asked) where
  -- the consequence of opening the left file
  abbrev AfterLeft : Files → Result (List ℕ) RunFault → Option (List ℕ) → List ℕ → Type 0
  AfterLeft at answer lies p =
      AfterOpening Right lies answer (λ q. AfterEdits at asked.paths.edits answer (λ d. AskedGives asked (record { layouts = layouts_at asked.paths; left = Some p; right = Some q; edits = d }) answer))

  -- once all files are opened, the results are those of the run over their bytes
  paths_opened : (at : Files) (bytes : JoinBytes) (answer : Result (List ℕ) RunFault) → AreOpened (Some at) asked.paths bytes
      → AskedGives asked bytes answer ↔ PathsGive at asked answer
  paths_opened at bytes answer is =
      let is_l = is.at_left in
      let is_r = is.at_right in
      let Given : Option (List ℕ) → Option (List ℕ) → Type 0 = λ p q.
      AskedGives asked (record { layouts = layouts_at asked.paths; left = p; right = q; edits = bytes.edits }) answer in
      let Laid : Layout × Layout → Type 0 = λ t. AskedGives asked (record { layouts = t; left = bytes.left; right = bytes.right; edits = bytes.edits }) answer in
      let last = edits_opened at asked.paths.edits bytes.edits answer
      (λ d. AskedGives asked (record { layouts = layouts_at asked.paths; left = Some is_l.0; right = Some is_r.0; edits = d }) answer) is.at_edits in
      let second = input_opened (at asked.paths.right.now) is_r.0 Right answer
      (λ q. AfterEdits at asked.paths.edits answer (λ d. AskedGives asked (record { layouts = layouts_at asked.paths; left = Some is_l.0; right = Some q; edits = d }) answer)) is_r.1 in
      let first = input_opened (at asked.paths.left.now) is_l.0 Left answer (AfterLeft at answer (at asked.paths.right.now)) is_l.1 in (
        (λ h. first.0 (second.0 (last.0 (subst (λ (q : Option (List ℕ)). Given (Some is_l.0) q) is_r.2
            (subst (λ (p : Option (List ℕ)). Given p bytes.right) is_l.2 (subst Laid is.laid h)))))),
        (λ h. subst Laid (sym is.laid)
            (subst (λ (p : Option (List ℕ)). Given p bytes.right) (sym is_l.2) (subst (λ (q : Option (List ℕ)). Given (Some is_l.0) q) (sym is_r.2)
            (last.1 (second.1 (first.1 h)))))),
      )

  opened : (at : Files) (bytes : JoinBytes) (answer : Result (List ℕ) RunFault) → AreOpened (Some at) asked.paths bytes
      → AskedGives asked bytes answer ↔ CommandGives at command answer
  opened at bytes answer is =
      let run = paths_opened at bytes answer is in
      let whole = runs.gives at answer in
      ((λ h. whole.0 (run.0 h)), (λ h. run.1 (whole.1 h)))

  -- the paths give this fault as the only result
  abbrev GivesOnly : Option Files → RunFault → Type 0
  GivesOnly known f = IfSome known (λ at. (answer : Result (List ℕ) RunFault) → (answer ≡ Err f) ↔ PathsGive at asked answer)

  left_missing : (known : Option Files) → IsMissing known asked.paths.left.now → GivesOnly known (run.NoFile Left)
  left_missing None missing = tt
  left_missing (Some at) missing = λ answer.
      let After : Option (List ℕ) → Type 0 = λ lies. AfterOpening Left lies answer (AfterLeft at answer (at asked.paths.right.now)) in (
        (λ h. let now : After None = h in subst After (sym missing) now),
        (λ h. let now : After None = subst After missing h in now),
      )

  right_missing : (known : Option Files) (l : Option (List ℕ)) → IsAt known asked.paths.left.now l → IsMissing known asked.paths.right.now
      → GivesOnly known (run.NoFile Right)
  right_missing None l is_l missing = tt
  right_missing (Some at) l is_l missing = λ answer.
      let After : Option (List ℕ) → Type 0 = λ lies. AfterLeft at answer lies is_l.0 in
      let first = input_opened (at asked.paths.left.now) is_l.0 Left answer (AfterLeft at answer (at asked.paths.right.now)) is_l.1 in (
        (λ h. first.0 (let now : After None = h in subst After (sym missing) now)),
        (λ h. let now : After None = subst After missing (first.1 h) in now),
      )

  edits_missing : (known : Option Files) (l r : Option (List ℕ)) → IsAt known asked.paths.left.now l → IsAt known asked.paths.right.now r
      → AreEditsMissing known asked.paths.edits → GivesOnly known (run.NoFile Edits)
  edits_missing None l r is_l is_r missing = tt
  edits_missing (Some at) l r is_l is_r missing = λ answer.
      let last = edits_refused at asked.paths.edits answer
      (λ d. AskedGives asked (record { layouts = layouts_at asked.paths; left = Some is_l.0; right = Some is_r.0; edits = d }) answer) missing in
      let second = input_opened (at asked.paths.right.now) is_r.0 Right answer
      (λ q. AfterEdits at asked.paths.edits answer (λ d. AskedGives asked (record { layouts = layouts_at asked.paths; left = Some is_l.0; right = Some q; edits = d }) answer)) is_r.1 in
      let first = input_opened (at asked.paths.left.now) is_l.0 Left answer (AfterLeft at answer (at asked.paths.right.now)) is_l.1 in
      ((λ h. first.0 (second.0 (last.0 h))), (λ h. last.1 (second.1 (first.1 h))))

  that_fault : (known : Option Files) (f : RunFault) → GivesOnly known f
      → IfSome known (λ at. CommandGives at command (Err f) ⊎ (BlamesCommand f → ⊥))
  that_fault None f only = tt
  that_fault (Some at) f only = inl ((runs.gives at (Err f)).0 ((only (Err f)).0 refl))

  no_other : (known : Option Files) (f : RunFault) → GivesOnly known f → (g : RunFault)
      → IfSome known (λ at. CommandGives at command (Err g) → g ≡ f)
  no_other None f only g = tt
  no_other (Some at) f only g = λ gives. err_is g f ((only (Err g)).1 ((runs.gives at (Err g)).1 gives))

  refused_by : {T : Type 0} (sink : S) (result : Result T RunFault) (i : Input) → GivesOnly known (run.NoFile i) → has_failed sink ≡ false
      → IsErrAnd result (λ x. x ≡ run.NoFile i) → CommandEnds known written is_flushed has_failed command sink sink result
  refused_by sink result i only fresh h =
      refused_ends known written is_flushed has_failed command sink result (run.NoFile i) fresh h (λ e. absurd cc) (that_fault known (run.NoFile i) only)
      (λ g found. no_other known (run.NoFile i) only g) (λ g found keys. no_other known (run.NoFile i) only g) (runs.faults known (run.NoFile i) tt)

  -- a file can't be opened
  pub not_opened : {T : Type 0} (sink : S) (result : Result T RunFault) (f : RunFault) → IsFirstMissing known asked.paths f → has_failed sink ≡ false
      → IsErrAnd result (λ x. x ≡ f) → CommandEnds known written is_flushed has_failed command sink sink result
  not_opened sink result f (no_left missing) fresh h = refused_by sink result Left (left_missing known missing) fresh h
  not_opened sink result f (no_right l is_l missing) fresh h = refused_by sink result Right (right_missing known l is_l missing) fresh h
  not_opened sink result f (no_edits l r is_l is_r missing) fresh h =
      refused_by sink result Edits (edits_missing known l r is_l is_r missing) fresh h

  no_keys_given : (known : Option Files) → IfSome known (λ at. CommandGives at command (Err run.NoKeys) ⊎ (BlamesCommand run.NoKeys → ⊥))
  no_keys_given None = tt
  no_keys_given (Some at) = inr (λ blame. blame)

  -- no fault that is found first is a result, once the files are opened
  none_found : {P : Type 0} (at : Files) (bytes : JoinBytes) → AreOpened (Some at) asked.paths bytes → (g : RunFault) → IsFoundFirst command g
      → CommandGives at command (Err g) → P
  none_found at bytes is g found gives =
      absurd (text_opens asked.making (files_read asked bytes) g (found_missing command g runs.opens_files found) ((opened at bytes (Err g) is).1 gives))

  none_first : (known : Option Files) (bytes : JoinBytes) → AreOpened known asked.paths bytes → (g f : RunFault) → IsFoundFirst command g
      → IfSome known (λ at. CommandGives at command (Err g) → g ≡ f)
  none_first None bytes is g f found = tt
  none_first (Some at) bytes is g f found = none_found at bytes is g found

  -- the system gives no keys
  pub without_keys : {T : Type 0} (sink : S) (result : Result T RunFault) (f : RunFault) (bytes : JoinBytes)
      → has_failed sink ≡ false → IsErrAnd result (λ x. x ≡ f) → f ≡ run.NoKeys → AreOpened known asked.paths bytes
      → CommandEnds known written is_flushed has_failed command sink sink result
  without_keys sink result f bytes fresh h named is =
      refused_ends known written is_flushed has_failed command sink result run.NoKeys fresh
      (subst (λ (x : RunFault). IsErrAnd result (λ y. y ≡ x)) named h) (λ w. absurd cc) (no_keys_given known)
      (λ g found. none_first known bytes is g run.NoKeys found) (λ g found keys. absurd (runs.none_next g found)) (runs.faults known run.NoKeys tt)

  text_as : (known : Option Files) (bytes : JoinBytes) → AreOpened known asked.paths bytes → (text : List ℕ)
      → AskedGives asked bytes (Ok text) → IsCommandText known command text
  text_as None bytes is text h = tt
  text_as (Some at) bytes is text h = (opened at bytes (Ok text) is).0 h

  blamed_as : {T : Type 0} (known : Option Files) (bytes : JoinBytes) → AreOpened known asked.paths bytes
      → (result : Result T RunFault) → IfErr result (λ f. BlamesInput f → AskedGives asked bytes (Err f))
      → IfErr result (λ f. f ≢ run.Write → IsAskedFault asked bytes f)
      → IfErr result (λ f. BlamesCommand f → IfSome known (λ at. CommandGives at command (Err f)))
  blamed_as known bytes is (Ok x) fault faults = tt
  blamed_as None bytes is (Err f) fault faults = λ blame. tt
  blamed_as (Some at) bytes is (Err f) fault faults = λ blame.
      let allowed = faults (λ w. subst BlamesCommand w blame) in
      (opened at bytes (Err f) is).0 (fault (asked_blames asked bytes f allowed blame))

  first_as : {T : Type 0} (known : Option Files) (bytes : JoinBytes) → AreOpened known asked.paths bytes
      → (result : Result T RunFault) (f : RunFault) → IsFoundFirst command f
      → IfSome known (λ at. CommandGives at command (Err f) → result ≡ Err f)
  first_as None bytes is result f found = tt
  first_as (Some at) bytes is result f found = none_found at bytes is f found

  -- all files were opened, and the text was made or not
  files_ran : {T : Type 0} (bytes : JoinBytes) (old new : S) (result : Result T RunFault) → AreOpened known asked.paths bytes
      → Ends (λ text. AskedGives asked bytes (Ok text)) written is_flushed has_failed old new result
      → IfErr result (λ f. BlamesInput f → AskedGives asked bytes (Err f)) → IfErr result (λ f. f ≢ run.Write → IsAskedFault asked bytes f)
      → CommandEnds known written is_flushed has_failed command old new result
  files_ran bytes old new result is writes fault faults = record {
    writes = ends_as _ _ written is_flushed has_failed old new result (text_as known bytes is) writes;
    fault = blamed_as known bytes is result fault faults;
    first = first_as known bytes is result;
    next = λ f found. absurd (runs.none_next f found);
    faults = IfErr-weaker result _ _ (λ f given w. runs.faults known f (allows_all (IsAskedFault asked (known_bytes known asked.paths)) f
        (fault_known (IsAskedFault asked) (asked_untold asked) known asked.paths bytes is f (given w)))) faults;
  }

  -- no text was made
  pub run_failed : {T : Type 0} (bytes : JoinBytes) (sink : S) (result : Result T RunFault) (e : RunFault) → AreOpened known asked.paths bytes
      → has_failed sink ≡ false → IsErrAnd result (λ x. x ≡ e) → (BlamesInput e → AskedGives asked bytes (Err e)) → IsAskedTextFault asked bytes e
      → CommandEnds known written is_flushed has_failed command sink sink result
  run_failed bytes sink (Ok x) e is fresh h given allowed = absurd h
  run_failed {T} bytes sink (Err x) e is fresh h given allowed =
      let same : (let r : Result T RunFault = Err x in r) ≡ Err e = cc in
      files_ran bytes sink sink (Err x) is
      (not_begun (λ text. AskedGives asked bytes (Ok text)) written is_flushed has_failed sink (Err x) e fresh same
      (not_written asked.making (files_read asked bytes) e allowed))
      (λ blame. subst (λ (f : RunFault). AskedGives asked bytes (Err f)) (sym h) (given (subst BlamesInput h blame)))
      (λ w. subst (IsAskedFault asked bytes) (sym h) (asked_fault asked bytes e allowed))

  store_blames : (f : RunFault) → IsStoreFault asked.paths.skip f → BlamesInput f → ⊥
  store_blames run.Memory is blame = blame
  store_blames run.NotStored is blame = blame
  store_blames f is blame = is

  store_allowed : (bytes : JoinBytes) → IsAskedTextFault asked bytes run.Memory → (f : RunFault) → IsStoreFault asked.paths.skip f → IsAskedFault asked bytes f
  store_allowed bytes wants run.Memory is = wants
  store_allowed bytes wants run.NotStored is = is
  store_allowed bytes wants f is = absurd is

  -- this text was made, and was written or not
  pub run_made : {T : Type 0} (bytes : JoinBytes) (old new : S) (result : Result T RunFault) (text : List ℕ) → AreOpened known asked.paths bytes
      → AskedGives asked bytes (Ok text) → Ends (λ t. t ≡ text) written is_flushed has_failed old new result
      → IfErr result (λ f. f ≢ run.Write → IsStoreFault asked.paths.skip f) → CommandEnds known written is_flushed has_failed command old new result
  run_made {T} bytes old new result text is given ends faults =
      files_ran bytes old new result is
      (ends_as (λ t. t ≡ text) (λ t. AskedGives asked bytes (Ok t)) written is_flushed has_failed old new result
      (λ t same. subst (λ (x : List ℕ). AskedGives asked bytes (Ok x)) (sym same) given) ends)
      (by result faults)
      (IfErr-weaker result _ _ (λ f allowed w. store_allowed bytes (text_wants asked.making (files_read asked bytes) text given) f (allowed w)) faults)
    where
      by : (r : Result T RunFault) → IfErr r (λ f. f ≢ run.Write → IsStoreFault asked.paths.skip f)
          → IfErr r (λ f. BlamesInput f → AskedGives asked bytes (Err f))
      by (Ok x) faults = tt
      by (Err f) faults = λ blame. absurd (store_blames f (faults (λ w. subst BlamesInput w blame)) blame)

-- ---- the paths of a request

-- files with these bytes, whose unreadable rows are so treated
abbrev pub files_treated : (asked : Asked) → Unreadable → JoinBytes → JoinFiles asked.Geometry
files_treated asked unreadable bytes =
    record { reads = asked.reads; left_layout = bytes.layouts.0; right_layout = bytes.layouts.1; unreadable = unreadable; left = bytes.left; right = bytes.right; edits = bytes.edits }

-- the first file that can't be opened of the paths that a call gave
pub missing_at : (paths p : LayerPaths) (known : Option Files) (f : RunFault) → p ≡ paths → IsFirstMissing known p f → IsFirstMissing known paths f
missing_at paths p known f named missing = subst (λ (q : LayerPaths). IsFirstMissing known q f) named missing

-- the files at these paths
module _ (asked : Asked) (p : LayerPaths) (named : p ≡ asked.paths) (known : Option Files) (bytes : JoinBytes) (at : AreOpened known p bytes) where
  pub opened_at : AreOpened known asked.paths bytes
  opened_at = subst (λ (q : LayerPaths). AreOpened known q bytes) named at

  pub making_at : (u : Unreadable) (HasFailed : Input → Type 0) (rows : MarkedLists) (out : Result JoinText RunFault) → u ≡ unreadable_for p.skip
      → MakesText asked.making asked.is_improper (files_treated asked u bytes) HasFailed rows out
      → MakesText asked.making asked.is_improper (files_read asked bytes) HasFailed rows out
  making_at u HasFailed rows out treated makes =
      subst (λ (x : Unreadable). MakesText asked.making asked.is_improper (files_treated asked x bytes) HasFailed rows out)
      (treated ∙ ap (λ (q : LayerPaths). unreadable_for q.skip) named) makes

  -- the rows that were skipped, whose list was stored or not
  pub rows_skipped : {T : Type 0} (command : Command) → IsAskedBy command asked → (old new : Stored) (rows : SkippedLists) (result : Result T RunFault)
      → AskedSkips asked bytes rows → StoresFirst p.skip old new rows result → SkipEnds known command old new rows result
  rows_skipped command runs old new rows result are stores =
      skips_rows known command old new rows result (runs.skips known rows (skips_known asked known bytes opened_at rows are))
      (subst (λ (skip : Option (Bor (List ℕ))). StoresFirst skip old new rows result) (ap (λ (q : LayerPaths). q.skip) named ∙ runs.skip) stores)
