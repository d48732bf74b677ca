-- The rows of a file whose geometries have a property.
use Rattle.std.proofs.Common.{◌≡◌, ◌≢◌, ◌+◌, ℕ, List, [], ◌∷◌, ◌++◌, ◌-◌, ◌<◌, ◌≤◌, ap, drop, get_or, length, map, subst, sym, take, append-nil, append_assoc, refl, ◌∙◌}
use Rattle.std.proofs.Common.{Option, Some, None, Result, Ok, Err, IfErr, IsErrAnd, OnOk}
use Rattle.std.proofs.lemmas.List.{drop-map, drop_all, drop_more, take_rest}
use Rattle.std.proofs.lemmas.Bool.Decides.{eqb_tells}
use Rattle.std.proofs.Common.{◌⊎◌, inl, inr}
use Rattle.format_core.specs.Layouts.{Reading}
use Rattle.layer_core.specs.Layers.{Contents, Feature}
use Rattle.file_core.specs.SkippedRows.{SkippedContent, skipped_content}
use Rattle.file_core.specs.declared.skipped.SkippedRow.{SkippedRow}
use Rattle.file_core.specs.declared.skipped.Unreadable.{Unreadable}
use Rattle.layer_core.specs.Edits.{Layers}
use Rattle.run_core.specs.declared.fault.RunFault.{RunFault}
use Rattle.run_core.specs.declared.fault.RunFault.TheVariants.{Memory}
use Rattle.run_core.specs.EditedLayers.{JoinFiles, LayersGive, IsJoinFault}
use Rattle.run_core.specs.Inputs.{BlamesInput, LayerFile, LoadsLayer}
use Rattle.run_core.proofs.EditedLayersLemmas.{IsJoinKind}
use Rattle.run_core.specs.Marks.{IsOther, MarkedFrom, none, skips, marked, unmarked, SkipsTo, here, next, MarksFile, MarksLayer, MarkedLists, no_rows, numbers_of}

-- numbers up to here are skipped, if those from here on are
pub record HasSkipped (row : ℕ) (skipped : List ℕ) (n : ℕ) (left : List ℕ) : Type 0 where
  pub rest : (m : ℕ) (others : List ℕ) → SkipsTo n left m others → SkipsTo row skipped m others

pub none_skipped : (row : ℕ) (skipped left : List ℕ) → left ≡ skipped → HasSkipped row skipped row left
none_skipped row skipped left same = record { rest = λ m others to. subst (λ (ns : List ℕ). SkipsTo row ns m others) same to }

pub one_skipped : (row : ℕ) (skipped : List ℕ) (n n' number : ℕ) (left left' : List ℕ) → HasSkipped row skipped n left → left ≡ number ∷ left' → number ≡ n
    → n' ≡ n + 1 → HasSkipped row skipped n' left'
one_skipped row skipped n n' number left left' has is same after = record {
  rest = λ m others to. has.rest m others
      (subst (λ (ns : List ℕ). SkipsTo n ns m others) (sym is) (subst (λ (k : ℕ). SkipsTo n (k ∷ left') m others) (sym same)
      (next (subst (λ (k : ℕ). SkipsTo k left' m others) after to))));
}

-- these are left, and the first of them has another number
pub skipped_to : (row : ℕ) (skipped : List ℕ) (n : ℕ) (left others : List ℕ) → HasSkipped row skipped n left → left ≡ others → IsOther n others
    → SkipsTo row skipped n others × IsOther n others
skipped_to row skipped n left others has is other = (has.rest n others (subst (λ (ns : List ℕ). SkipsTo n ns n others) (sym is) here), other)

-- the numbers of rows from one on, of which the first is this
pub numbers_from : (rows : List SkippedRow) (i : ℕ) (row : SkippedRow) → i < length rows → row ≡ get_or rows i row
    → drop i (numbers_of (map skipped_content rows)) ≡ row.row ∷ drop (i + 1) (numbers_of (map skipped_content rows))
numbers_from rows i row within is =
    let numbers : List SkippedRow → List ℕ = λ rs. numbers_of (map skipped_content rs) in
    let at : (k : ℕ) → drop k (numbers rows) ≡ numbers (drop k rows) =
    λ k. drop-map (λ r. r.row) k (map skipped_content rows) ∙ ap numbers_of (drop-map skipped_content k rows) in
    at i ∙ ap numbers (drop_more rows i row within) ∙ ap (λ r. r.row ∷ numbers (drop (i + 1) rows)) (sym is) ∙ ap (λ ns. row.row ∷ ns) (sym (at (i + 1)))

pub numbers_behind : (rows : List SkippedRow) (i : ℕ) → drop i (numbers_of (map skipped_content rows))
    ≡ numbers_of (map skipped_content (take (length rows - i) (drop i rows)))
numbers_behind rows i =
    drop-map (λ r. r.row) i (map skipped_content rows) ∙ ap numbers_of (drop-map skipped_content i rows)
    ∙ ap (λ rs. numbers_of (map skipped_content rs)) (sym (take_rest rows i))

pub no_numbers : (rows : List SkippedRow) (i : ℕ) → length rows ≤ i → drop i (numbers_of (map skipped_content rows)) ≡ []
no_numbers rows i past =
    drop-map (λ r. r.row) i (map skipped_content rows) ∙ ap numbers_of (drop-map skipped_content i rows)
    ∙ ap (λ rs. numbers_of (map skipped_content rs)) (drop_all i rows past)

module _ {G : Type 0} (IsMarked : G → Type 0) where
  -- skipped numbers come before the rows behind them
  behind_skipped : (n m : ℕ) (numbers others : List ℕ) → SkipsTo n numbers m others → (features : List (Feature G)) (rows : List ℕ)
      → MarkedFrom IsMarked m others features rows → MarkedFrom IsMarked n numbers features rows
  behind_skipped n m numbers others here features rows behind = behind
  behind_skipped n m numbers others (next to) features rows behind = skips (behind_skipped _ m _ others to features rows behind)

  -- these rows, and those with the property of the features that are left, are the rows of all features
  pub record HasMarked (n : ℕ) (left : List ℕ) (features : List (Feature G)) (rows all : List ℕ) (every : List (Feature G)) : Type 0 where
    pub rest : (later : List ℕ) → MarkedFrom IsMarked n left features later → MarkedFrom IsMarked 1 all every (rows ++ later)

  pub none_read : (left all : List ℕ) (features every : List (Feature G)) (rows : List ℕ) → left ≡ all → features ≡ every → rows ≡ []
      → HasMarked 1 left features rows all every
  none_read left all features every rows same equal empty = record {
    rest = λ later from. subst (λ (rs : List ℕ). MarkedFrom IsMarked 1 all every (rs ++ later)) (sym empty)
        (subst (λ (fs : List (Feature G)). MarkedFrom IsMarked 1 all fs later) equal
        (subst (λ (ns : List ℕ). MarkedFrom IsMarked 1 ns features later) same from));
  }

  module _ (n row : ℕ) (left others : List ℕ) (features features' : List (Feature G)) (f : Feature G) (rows all : List ℕ) (every : List (Feature G))
      (has : HasMarked n left features rows all every) (to : SkipsTo n left row others) (other : IsOther row others) (is : features ≡ f ∷ features') where
    behind : (later : List ℕ) → MarkedFrom IsMarked row others (f ∷ features') later → MarkedFrom IsMarked 1 all every (rows ++ later)
    behind later from = has.rest later (subst (λ (fs : List (Feature G)). MarkedFrom IsMarked n left fs later) (sym is)
        (behind_skipped n row left others to (f ∷ features') later from))

    pub row_marked : IsMarked f.shape → (next' : ℕ) (rows' : List ℕ) → next' ≡ row + 1 → rows' ≡ rows ++ row ∷ []
        → HasMarked next' others features' rows' all every
    row_marked has_it next' rows' after more = record {
      rest = λ later from. subst (λ (rs : List ℕ). MarkedFrom IsMarked 1 all every (rs ++ later)) (sym more)
          (rw (append_assoc rows (row ∷ []) later) (behind (row ∷ later)
          (marked other has_it (subst (λ (k : ℕ). MarkedFrom IsMarked k others features' later) after from))));
    }

    pub row_unmarked : ¬ (IsMarked f.shape) → (next' : ℕ) → next' ≡ row + 1 → HasMarked next' others features' rows all every
    row_unmarked lacks next' after = record {
      rest = λ later from. behind later (unmarked other lacks (subst (λ (k : ℕ). MarkedFrom IsMarked k others features' later) after from));
    }

  -- no feature is left
  pub all_read : (n : ℕ) (left : List ℕ) (features : List (Feature G)) (rows all : List ℕ) (every : List (Feature G))
      → HasMarked n left features rows all every → features ≡ [] → MarkedFrom IsMarked 1 all every rows
  all_read n left features rows all every has is = subst (λ (rs : List ℕ). MarkedFrom IsMarked 1 all every rs) (append-nil rows)
      (has.rest [] (subst (λ (fs : List (Feature G)). MarkedFrom IsMarked n left fs []) (sym is) none))

  -- no geometry has the property
  one_lacks : (f : Feature G) (features : List (Feature G)) → ¬ (IsMarked f.shape) → ((n : ℕ) (left : List ℕ) → MarkedFrom IsMarked n left features [])
      → (left : List ℕ) (n : ℕ) → MarkedFrom IsMarked n left (f ∷ features) []
  one_lacks f features lacks rest [] n = unmarked tt lacks (rest (n + 1) [])
  one_lacks f features lacks rest (number ∷ left) n = elim (eqb_tells number n) as (λ _. MarkedFrom IsMarked n (number ∷ left) (f ∷ features) []) [
    | inl same ↦ subst (λ (k : ℕ). MarkedFrom IsMarked n (k ∷ left) (f ∷ features) []) (sym same.1) (skips (one_lacks f features lacks rest left (n + 1)))
    | inr apart ↦ unmarked apart.1 lacks (rest (n + 1) (number ∷ left))
  ]

  pub none_marked : ((g : G) → ¬ (IsMarked g)) → (features : List (Feature G)) (n : ℕ) (left : List ℕ) → MarkedFrom IsMarked n left features []
  none_marked lacks [] n left = none
  none_marked lacks (f ∷ features) n left = one_lacks f features (lacks f.shape) (none_marked lacks features) left n

  -- so there are no rows of it
  no_row : ((g : G) → ¬ (IsMarked g)) → (n : ℕ) (left : List ℕ) (features : List (Feature G)) (rows : List ℕ) → MarkedFrom IsMarked n left features rows → rows ≡ []
  no_row lacks n left features rows none = refl
  no_row lacks n left features rows (skips from) = no_row lacks _ _ _ _ from
  no_row lacks n left features rows (marked {f = f} other has from) = absurd (lacks f.shape has)
  no_row lacks n left features rows (unmarked other not from) = no_row lacks _ _ _ _ from

  pub none_listed : ((g : G) → ¬ (IsMarked g)) → (n m : ℕ) (left right : List ℕ) (lefts rights : List (Feature G)) (rows : MarkedLists)
      → MarkedFrom IsMarked n left lefts rows.left → MarkedFrom IsMarked m right rights rows.right → rows ≡ no_rows
  none_listed lacks n m left right lefts rights rows first second =
      let lists : List ℕ → List ℕ → MarkedLists = λ l r. record { left = l; right = r } in
      ap (λ l. lists l rows.right) (no_row lacks _ _ _ _ first) ∙ ap (λ r. lists [] r) (no_row lacks _ _ _ _ second)

  -- the rows of a file that was loaded
  pub marks_file : (reads : Reading G) (unreadable : Unreadable) (known : Option (List ℕ)) (layer : Contents G) (skipped : List SkippedContent) (rows : List ℕ)
      → LoadsLayer reads unreadable known layer skipped → MarkedFrom IsMarked 1 (numbers_of skipped) layer.features rows
      → MarksFile reads unreadable IsMarked known rows
  marks_file reads unreadable None layer skipped rows loads from = tt
  marks_file reads unreadable (Some bytes) layer skipped rows loads from =
      (record { unreadable = unreadable; list = layer; skipped = skipped }, loads, from)

  pub marks_layer : (reads : Reading G) (known : Option (List ℕ)) (layer : Contents G) (rows : List ℕ) → LayerFile reads known (Ok layer)
      → MarkedFrom IsMarked 1 [] layer.features rows → MarksLayer reads IsMarked known rows
  marks_layer reads None layer rows file from = tt
  marks_layer reads (Some bytes) layer rows file from = (layer, file, from)

-- ---- the end of a run, given that memory ran out for the rows

-- memory for the rows is wanted only once the edits are applied
pub late_memory : {T : Type 0} {G : Type 0} (files : JoinFiles G) (layers : Layers G) (out : Result T RunFault) → LayersGive files (Ok layers)
    → IfErr out (λ f. f ≡ Memory) → IfErr out (IsJoinFault files)
late_memory files layers (Ok x) given is = tt
late_memory files layers (Err f) given is = subst (IsJoinFault files) (sym is) (tt, (layers, given))

pub memory_kind : {T : Type 0} (out : Result T RunFault) → IfErr out (λ f. f ≡ Memory) → IfErr out IsJoinKind
memory_kind (Ok x) is = tt
memory_kind (Err f) is = subst IsJoinKind (sym is) tt

pub memory_blames : {T : Type 0} (out : Result T RunFault) (P : RunFault → Type 0) → IfErr out (λ f. f ≡ Memory) → IfErr out (λ f. BlamesInput f → P f)
memory_blames (Ok x) P is = tt
memory_blames (Err f) P is = λ blame. absurd (subst BlamesInput is blame)

-- the error that `?` returns is that memory ran out
pub memory_is : {T : Type 0} (out : Result T RunFault) (e : RunFault) → IsErrAnd out (λ x. x ≡ e) → e ≡ Memory → IfErr out (λ f. f ≡ Memory)
memory_is (Ok x) e h same = tt
memory_is (Err f) e h same = h ∙ same

-- a text was made of the layer of a file, whose rows are known
pub layer_marked : {T G : Type 0} (IsMarked : G → Type 0) (reads : Reading G) (known : Option (List ℕ)) (layer : Contents G) (rows : List ℕ)
    (out : Result T RunFault) → LayerFile reads known (Ok layer) → OnOk out (MarkedFrom IsMarked 1 [] layer.features rows)
    → OnOk out (MarksLayer reads IsMarked known rows)
layer_marked IsMarked reads known layer rows (Ok x) file from = marks_layer IsMarked reads known layer rows file from
layer_marked IsMarked reads known layer rows (Err f) file from = tt
