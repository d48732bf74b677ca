-- The edits of two layers, and the faults of a run over them.
use Rattle.std.proofs.Common.{◌≡◌, ℕ, List, Option, Result, Ok, Err, IsErrAnd, IfOk, IfErr}
use Rattle.std.proofs.Common.{refl, sym, subst, ◌∙◌, map}
use Rattle.std.specs.Prelude.{⊤}
use Rattle.layer_core.specs.declared.edit.Edit.{Edit as EditType}
use Rattle.format_core.specs.Layouts.{Reading}
use Rattle.row_core.specs.declared.read_fault.ReadFault.{ReadFault}
use Rattle.layer_core.specs.Edits.{EditContent, Layers, both, content_of, edits_give}
use Rattle.layer_core.specs.Layers.{Contents}
use Rattle.run_core.specs.declared.fault.Input.TheVariants.{Left, Right, Edits}
use Rattle.run_core.specs.declared.fault.RunFault.{RunFault}
use Rattle.run_core.specs.declared.fault.RunFault.TheVariants.{NoFile, Read, Wkt, Geometry, Edit, Join, TooManyToDraw, Write, NotStored, Memory, NoKeys}
use Rattle.run_core.specs.Inputs.{BlamesBytes, BlamesInput}
use Rattle.run_core.specs.EditedLayers.{JoinFiles, EditFile, LeftGives, RightGives, LayersGive, edits_fault, edit_refused, edited, IsLateFault}
use Rattle.run_core.specs.EditedLayers.{IsJoinFault, AreEdited, IsEditFault, ended, no_left, no_right, no_end, IsEditsFault, unread, unmade}

-- the error that `?` returns for a fault that is one of the run's
pub handed_on : {T V : Type 0} (J : Result V RunFault → Type 0) (out : Result T RunFault) (e is : RunFault) → IsErrAnd out (λ x. x ≡ e) → e ≡ is
    → (BlamesInput is → J (Err is)) → IfErr out (λ x. BlamesInput x → J (Err x))
handed_on J (Ok x) e is h same gives = absurd h
handed_on J (Err x) e is h same gives =
    let whole : x ≡ is = h ∙ same in
    λ blame. subst (λ (y : RunFault). J (Err y)) (sym whole) (gives (subst BlamesInput whole blame))

-- ---- the edits of a file

-- a fault of the edits, if both layers are valid
module _ {G : Type 0} (files : JoinFiles G) (l r : Contents G) (left : LeftGives files (Ok l)) (right : RightGives files (Ok r)) where
  made_fault : (edits : List (EditContent G)) → EditFile files.reads files.edits (Ok edits) → (e : RunFault) → IsEditFault (both l r) edits e → BlamesInput e
      → LayersGive files (Err e)
  made_fault edits file e (ended row f ends) blame = edit_refused l r edits row f left right file (ends.refused blame)
  made_fault edits file e no_left blame = absurd blame
  made_fault edits file e no_right blame = absurd blame
  made_fault edits file e (no_end made given) blame = absurd blame

  edits_give_fault : (e : RunFault) → IsEditsFault files.reads files.edits (both l r) e → BlamesInput e → LayersGive files (Err e)
  edits_give_fault e (unread f blames) blame = edits_fault l r f left right (blames blame)
  edits_give_fault e (unmade edits is file fault) blame = made_fault edits file is fault blame

  pub edits_blamed : {T : Type 0} (out : Result T RunFault) (e : RunFault) → IsErrAnd out (λ x. x ≡ e)
      → IsEditsFault files.reads files.edits (both l r) e → IfErr out (λ x. BlamesInput x → LayersGive files (Err x))
  edits_blamed out e h fault = handed_on (LayersGive files) out e e h refl (edits_give_fault e fault)

  -- the edits are applied up to the one at which memory runs out, if any is
  made_join : (edits : List (EditContent G)) → EditFile files.reads files.edits (Ok edits) → (e : RunFault) → IsEditFault (both l r) edits e → IsJoinFault files e
  made_join edits file e (ended row f ends) = λ is. record {
    left = l;
    right = r;
    edits = edits;
    left_read = left;
    right_read = right;
    edits_read = file;
    are_made = ends.want is;
  }
  made_join edits file e no_left = tt
  made_join edits file e no_right = λ _. (l, left)
  made_join edits file e (no_end made given) = (tt, (made, edited l r edits made left right file given))

  edits_join : (e : RunFault) → IsEditsFault files.reads files.edits (both l r) e → IsJoinFault files e
  edits_join e (unread f blames) = ((l, left), (r, right))
  edits_join e (unmade edits is file fault) = made_join edits file is fault

  pub edits_join_fault : {T : Type 0} (out : Result T RunFault) (e : RunFault) → IsErrAnd out (λ x. x ≡ e)
      → IsEditsFault files.reads files.edits (both l r) e → IfErr out (IsJoinFault files)
  edits_join_fault (Ok x) e h fault = absurd h
  edits_join_fault (Err x) e h fault = subst (IsJoinFault files) (sym h) (edits_join e fault)

  pub layers_edited : (layers : Layers G) → AreEdited files.reads files.edits (both l r) layers → LayersGive files (Ok layers)
  layers_edited layers given = edited l r given.0 layers left right given.1 given.2

module _ {G : Type 0} (format : Reading G) (file : Option (Option (List ℕ))) (layers : Layers G) where
  pub edits_handed_on : {T : Type 0} (out : Result T RunFault) (e : RunFault) (f : ReadFault) → IsErrAnd out (λ x. x ≡ e) → e ≡ Read Edits f
      → (BlamesBytes f → EditFile format file (Err f)) → IfErr out (IsEditsFault format file layers)
  edits_handed_on (Ok x) e f h is blames = absurd h
  edits_handed_on (Err x) e f h is blames = subst (IsEditsFault format file layers) (sym (h ∙ is)) (unread f blames)

  pub edits_made : {T : Type 0} (out : Result T RunFault) (first second : T → Contents G) (list items : List (EditType G)) → list ≡ items
      → EditFile format file (Ok (map content_of items))
      → IfOk out (λ x. edits_give 1 layers (map content_of list) ≡ Ok (both (first x) (second x)))
      → IfOk out (λ x. AreEdited format file layers (both (first x) (second x)))
  edits_made (Err x) first second list items same read made = tt
  edits_made (Ok x) first second list items same read made =
      (map content_of items, read, subst (λ (es : List (EditType G)). edits_give 1 layers (map content_of es) ≡ Ok (both (first x) (second x))) same made)

  pub edits_unmade : {T : Type 0} (out : Result T RunFault) (list items : List (EditType G)) → list ≡ items
      → EditFile format file (Ok (map content_of items)) → IfErr out (IsEditFault layers (map content_of list)) → IfErr out (IsEditsFault format file layers)
  edits_unmade (Ok x) list items same read err = tt
  edits_unmade (Err x) list items same read err =
      unmade (map content_of items) x read (subst (λ (es : List (EditType G)). IsEditFault layers (map content_of es) x) same err)

-- a late fault blames no input, and is no fault of a source
pub none_blamed : (e : RunFault) → IsLateFault e → BlamesInput e → ⊥
none_blamed (NoFile i) late blame = late
none_blamed (Read i f) late blame = late
none_blamed (Wkt i f) late blame = late
none_blamed (Geometry i f) late blame = late
none_blamed (Edit row f) late blame = late
none_blamed (Join f) late blame = blame
none_blamed TooManyToDraw late blame = late
none_blamed Write late blame = blame
none_blamed NotStored late blame = blame
none_blamed Memory late blame = blame
none_blamed NoKeys late blame = blame

module _ {G : Type 0} (files : JoinFiles G) (layers : Layers G) (given : LayersGive files (Ok layers)) where
  pub late_is_of_join : (e : RunFault) → IsLateFault e → IsJoinFault files e
  late_is_of_join (NoFile i) late = absurd late
  late_is_of_join (Read i f) late = absurd late
  late_is_of_join (Wkt i f) late = absurd late
  late_is_of_join (Geometry i f) late = absurd late
  late_is_of_join (Edit row f) late = absurd late
  late_is_of_join (Join f) late = (late, (layers, given))
  late_is_of_join TooManyToDraw late = absurd late
  late_is_of_join Write late = absurd late
  late_is_of_join NotStored late = absurd late
  late_is_of_join Memory late = (tt, (layers, given))
  late_is_of_join NoKeys late = absurd late

-- an error that `?` returns is one of a join's faults
pub is_join_fault : {T : Type 0} {G : Type 0} (files : JoinFiles G) (out : Result T RunFault) (e is : RunFault) → IsErrAnd out (λ x. x ≡ e) → e ≡ is → IsJoinFault files is
    → IfErr out (IsJoinFault files)
is_join_fault files (Ok x) e is h same fault = absurd h
is_join_fault files (Err x) e is h same fault = subst (IsJoinFault files) (sym (h ∙ same)) fault

-- among the inputs, a fault of a join is of the left, of the right or of the edits
abbrev pub IsJoinKind : RunFault → Type 0
IsJoinKind (Read Left f) = ⊤
IsJoinKind (Read Right f) = ⊤
IsJoinKind (Read Edits f) = ⊤
IsJoinKind (Read _ f) = ⊥
IsJoinKind _ = ⊤

pub is_join_kind : {T : Type 0} (out : Result T RunFault) (e is : RunFault) → IsErrAnd out (λ x. x ≡ e) → e ≡ is → IsJoinKind is → IfErr out IsJoinKind
is_join_kind (Ok x) e is h same fault = absurd h
is_join_kind (Err x) e is h same fault = subst IsJoinKind (sym (h ∙ same)) fault
