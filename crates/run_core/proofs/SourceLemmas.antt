-- Which source of a run over two layers has failed.
use Rattle.std.proofs.Common.{◌≡◌, ℕ, List, Option, Some, None, Result, Ok, Err, IsErrAnd, IsErrOf, IsSomeAnd, IfSome, IsTrue, Bool, true, false, IfErr}
use Rattle.std.proofs.Common.{◌↔◌, ◌≢◌, refl, sym, subst, ◌∙◌}
use Rattle.format_core.specs.Layouts.{Reading}
use Rattle.row_core.specs.declared.read_fault.ReadFault.{ReadFault}
use Rattle.row_core.specs.declared.read_fault.ReadFault.TheVariants.{Io}
use Rattle.layer_core.specs.Edits.{EditContent, Layers}
use Rattle.run_core.specs.declared.fault.Input.{Input}
use Rattle.run_core.specs.declared.fault.Input.TheVariants.{First, Second, Left, Right, Edits, Layer, Window}
use Rattle.run_core.specs.declared.fault.RunFault.{RunFault}
use Rattle.run_core.specs.declared.fault.RunFault.TheVariants.{Read}
use Rattle.run_core.specs.EditedLayers.{IsEditFault, ended, no_left, no_right, no_end, IsEditsFault, unread, unmade}
use Rattle.run_core.specs.SourceStates.{FailedAt}
use Rattle.run_core.proofs.EditedLayersLemmas.{IsJoinKind, is_join_kind}

no_other : {T : Type 0} (out : Result T RunFault) (i : Input) → IfErr out IsJoinKind
    → ((f : ReadFault) → IsJoinKind (Read i f) → ⊥) → IsErrOf out (Read i Io) → ⊥
no_other (Ok x) i faults none h = absurd cc
no_other (Err x) i faults none h =
    let is : x ≡ Read i Io = cc in
    none Io (subst IsJoinKind is faults)

-- three clauses on failed sources, as one
pub failed_at : {T : Type 0} (L R E : Type 0) (out : Result T RunFault) → (IsErrOf out (Read Left Io) ↔ L) → (IsErrOf out (Read Right Io) ↔ R)
    → (IsErrOf out (Read Edits Io) ↔ E) → IfErr out IsJoinKind → (i : Input) → IsErrOf out (Read i Io) ↔ FailedAt L R E i
failed_at L R E out left right edits faults Left = left
failed_at L R E out left right edits faults Right = right
failed_at L R E out left right edits faults Edits = edits
failed_at L R E out left right edits faults First = (no_other out First faults (λ f. absurd), absurd)
failed_at L R E out left right edits faults Second = (no_other out Second faults (λ f. absurd), absurd)
failed_at L R E out left right edits faults Layer = (no_other out Layer faults (λ f. absurd), absurd)
failed_at L R E out left right edits faults Window = (no_other out Window faults (λ f. absurd), absurd)

-- ---- failed sources

module _ {T U : Type 0} (out : Result T RunFault) (i : Input) (P : Type 0) where
  -- an error that `?` returns is a device's fault if it was one before
  pub io_handed_on : (e : RunFault) → IsErrAnd out (λ x. x ≡ e) → IsErrOf {T = U} (Err e) (Read i Io) ↔ P → IsErrOf out (Read i Io) ↔ P
  io_handed_on e h io = elim out as (λ r. IsErrAnd r (λ x. x ≡ e) → IsErrOf r (Read i Io) ↔ P) [
    | Ok x ↦ λ h. absurd h
    | Err x ↦ λ h. ((λ q. io.0 (let is : e ≡ Read i Io = cc in cc)), (λ p. let q = io.1 p in let is : e ≡ Read i Io = cc in cc))
  ] h

  -- a late fault is none of a device
  pub io_before : (Late : RunFault → Type 0) → ((f : ReadFault) → Late (Read i f) → ⊥) → (y : U) → IsErrOf {E = RunFault} (Ok y) (Read i Io) ↔ P
      → IfErr out Late → IsErrOf out (Read i Io) ↔ P
  io_before Late none y io err = elim out as (λ r. IfErr r Late → IsErrOf r (Read i Io) ↔ P) [
    | Ok x ↦ λ h. ((λ q. absurd cc), (λ p. absurd (let q = io.1 p in cc)))
    | Err x ↦ λ h. ((λ q. absurd (none Io (subst Late (let is : x ≡ Read i Io = cc in is) h))), (λ p. absurd (let q = io.1 p in cc)))
  ] err

-- a fault that is none of an input's device, after this input was read
io_passed : {T U : Type 0} (out : Result T RunFault) (i : Input) (P : Type 0) (e : RunFault) → IsErrAnd out (λ x. x ≡ e) → (Read i Io ≡ e → ⊥)
    → (y : U) → IsErrOf {E = RunFault} (Ok y) (Read i Io) ↔ P → IsErrOf out (Read i Io) ↔ P
io_passed out i P e h none y io = elim out as (λ r. IsErrAnd r (λ x. x ≡ e) → IsErrOf r (Read i Io) ↔ P) [
  | Ok x ↦ λ h. absurd h
  | Err x ↦ λ h. ((λ q. absurd (none (let is : x ≡ Read i Io = cc in sym is ∙ h))), (λ p. absurd (let q = io.1 p in cc)))
] h

-- the source of the edits is unchanged if another one is at fault
pub edits_unread : {T E : Type 0} (F : E → Bool) (edits : Option E) (out : Result T RunFault) (e : RunFault) → IfSome edits (λ x. F x ≡ false)
    → IsErrAnd out (λ x. x ≡ e) → e ≢ Read Edits Io → IsErrOf out (Read Edits Io) ↔ IsSomeAnd edits (λ x. IsTrue (F x))
edits_unread F edits (Ok x) e fresh h other = absurd h
edits_unread F None (Err x) e fresh h other = ((λ q. absurd (other (let is : x ≡ Read Edits Io = cc in sym h ∙ is))), (λ p. absurd p))
edits_unread F (Some s) (Err x) e fresh h other = (
  (λ q. absurd (other (let is : x ≡ Read Edits Io = cc in sym h ∙ is))),
  (λ p. absurd (let both : F s ≡ false = fresh in let bad : F s ≡ true = p in cc)),
)

-- a fault that is of no layer's device
record IsOther (e : RunFault) : Type 0 where
  left : Read Left Io ≡ e → ⊥
  right : Read Right Io ≡ e → ⊥
  kind : IsJoinKind e

of_edits : {G : Type 0} (layers : Layers G) (list : List (EditContent G)) (e : RunFault) → IsEditFault layers list e → IsOther e
of_edits layers list e (ended row f ends) = record { left = λ q. absurd cc; right = λ q. absurd cc; kind = tt }
of_edits layers list e no_left = record { left = λ q. absurd cc; right = λ q. absurd cc; kind = tt }
of_edits layers list e no_right = record { left = λ q. absurd cc; right = λ q. absurd cc; kind = tt }
of_edits layers list e (no_end made given) = record { left = λ q. absurd cc; right = λ q. absurd cc; kind = tt }

-- nor of the edits' file
not_of_file : {G : Type 0} (layers : Layers G) (list : List (EditContent G)) (e : RunFault) → IsEditFault layers list e → (f : ReadFault) → e ≡ Read Edits f → ⊥
not_of_file layers list e (ended row g ends) f is = cc
not_of_file layers list e no_left f is = cc
not_of_file layers list e no_right f is = cc
not_of_file layers list e (no_end made given) f is = cc

-- the edits' source, if they were read
pub made_io : {T U G : Type 0} (out : Result T RunFault) (layers : Layers G) (list : List (EditContent G)) (P : Type 0) (y : U)
    → IsErrOf {E = RunFault} (Ok y) (Read Edits Io) ↔ P → IfErr out (IsEditFault layers list) → IsErrOf out (Read Edits Io) ↔ P
made_io out layers list P y io err = io_before out Edits P (IsEditFault layers list) (λ f fault. not_of_file layers list (Read Edits f) fault f refl) y io err

of_file : {G : Type 0} (format : Reading G) (file : Option (Option (List ℕ))) (layers : Layers G) (e : RunFault) → IsEditsFault format file layers e → IsOther e
of_file format file layers e (unread f blames) = record { left = λ q. absurd cc; right = λ q. absurd cc; kind = tt }
of_file format file layers e (unmade list is read fault) = of_edits layers list is fault

-- the sources, if the layers were read and there are none after all edits
pub edits_io : {T U V : Type 0} {G : Type 0} {format : Reading G} {file : Option (Option (List ℕ))} {layers : Layers G} (L R E : Type 0) (out : Result T RunFault) (e : RunFault)
    (y : U) → IsErrAnd out (λ x. x ≡ e) → IsEditsFault format file layers e → IsErrOf {E = RunFault} (Ok y) (Read Left Io) ↔ L
    → IsErrOf {E = RunFault} (Ok y) (Read Right Io) ↔ R → IsErrOf {T = V} (Err e) (Read Edits Io) ↔ E
    → (i : Input) → IsErrOf out (Read i Io) ↔ FailedAt L R E i
edits_io {format = format} {file = file} {layers = layers} L R E out e y h fault left right edits =
    let other = of_file format file layers e fault in
    failed_at L R E out (io_passed out Left L e h other.left y left) (io_passed out Right R e h other.right y right)
    (io_handed_on out Edits E e h edits) (is_join_kind out e e h refl other.kind)
