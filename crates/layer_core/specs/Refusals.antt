-- When an edit of a layer is refused, and with which fault.
use Rattle.std.specs.Prelude.{◌≡◌, ◌&&◌, ℕ, Bool, not, List, length, nat_le, Option, Some, None}
use Rattle.std.specs.Prelude.{is_some, Result, Err, IsOkUnless, if◌then◌else◌}
use Rattle.layer_core.specs.declared.fault.LayerFault.{LayerFault}
use Rattle.layer_core.specs.declared.fault.LayerFault.TheVariants.{BadId, DoubleId, LayerFull}
use Rattle.layer_core.specs.declared.fault.LayerFault.TheVariants.{NoSuchId, Memory}
use Rattle.layer_core.specs.Limits.{most_features, most_id_bytes}
use Rattle.layer_core.specs.Layers.{Contents, with_id}

-- whether the length of a text is that of an id
abbrev pub is_id : List ℕ → Bool
is_id id = nat_le 1 (length id) && nat_le (length id) most_id_bytes

-- why this id can't be inserted, apart from lack of memory
abbrev pub insert_refusal : {G : Type 0} → Contents G → List ℕ → Option LayerFault
insert_refusal layer id =
    if not (is_id id) then Some BadId
    else if is_some (with_id id layer) then Some DoubleId
    else if nat_le most_features layer.next then Some LayerFull
    else None

-- why this id can't be deleted, apart from lack of memory
abbrev pub delete_refusal : {G : Type 0} → Contents G → List ℕ → Option LayerFault
delete_refusal layer id =
    if not (is_id id) then Some BadId
    else if is_some (with_id id layer) then None
    else Some NoSuchId

-- the result is the refusal if there is one, and otherwise no error except lack of memory
abbrev pub AnswersWith : {T : Type 0} → Option LayerFault → Result T LayerFault → Type 0
AnswersWith (Some fault) answer = answer ≡ Err fault
AnswersWith None answer = IsOkUnless answer Memory
