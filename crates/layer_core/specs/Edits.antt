-- The effect of edits on two layers, and when one is refused.
use Rattle.std.specs.Prelude.{ℕ, ◌+◌, List, [], ◌∷◌, Option, Some, None, Result, Ok, Err}
use Rattle.std.specs.String.{string_bytes}
use Rattle.layer_core.specs.declared.edit.Edit.{Edit}
use Rattle.layer_core.specs.declared.edit.Edit.TheVariants.{Insert, Delete}
use Rattle.layer_core.specs.declared.edit.Side.{Side}
use Rattle.layer_core.specs.declared.edit.Side.TheVariants.{Left, Right}
use Rattle.layer_core.specs.declared.fault.LayerFault.{LayerFault}
use Rattle.layer_core.specs.Layers.{Contents, inserted, deleted}
use Rattle.layer_core.specs.Refusals.{insert_refusal, delete_refusal}

-- the content of an edit: the layer and the id, and the shape to insert, or none to delete
pub record EditContent (G : Type 0) : Type 0 where
  pub side : Side
  pub id : List ℕ
  pub shape : Option G

abbrev pub content_of : {G : Type 0} → Edit G → EditContent G
content_of (Insert side id shape) =
    record { side = side; id = string_bytes id; shape = Some shape }
content_of (Delete side id) = record { side = side; id = string_bytes id; shape = None }

-- a layer with the feature of this id inserted, or deleted if no shape is given
abbrev pub changed : {G : Type 0} → Contents G → List ℕ → Option G → Contents G
changed layer id (Some shape) = inserted layer id shape
changed layer id None = deleted layer id

-- why this change is refused, apart from lack of memory
abbrev pub change_refusal : {G : Type 0} → Contents G → List ℕ → Option G → Option LayerFault
change_refusal layer id (Some shape) = insert_refusal layer id
change_refusal layer id None = delete_refusal layer id

-- the layer of an edit's side, after the edit
abbrev pub edited : {G : Type 0} → Contents G → EditContent G → Contents G
edited layer edit = changed layer edit.id edit.shape

-- why the edit is refused, apart from lack of memory
abbrev pub refusal : {G : Type 0} → Contents G → EditContent G → Option LayerFault
refusal layer edit = change_refusal layer edit.id edit.shape

-- two layers
pub record Layers (G : Type 0) : Type 0 where
  pub left : Contents G
  pub right : Contents G

abbrev pub both : {G : Type 0} → Contents G → Contents G → Layers G
both left right = record { left = left; right = right }

abbrev pub layer_on : {G : Type 0} → Side → Layers G → Contents G
layer_on Left layers = layers.left
layer_on Right layers = layers.right

abbrev pub with_layer_on : {G : Type 0} → Side → Layers G → Contents G → Layers G
with_layer_on Left layers layer = record layers { left = layer }
with_layer_on Right layers layer = record layers { right = layer }

-- both layers after an edit: that of its side is edited, the other is unchanged
abbrev pub edited_layers : {G : Type 0} → Layers G → EditContent G → Layers G
edited_layers layers edit =
    with_layer_on edit.side layers (edited (layer_on edit.side layers) edit)

-- why an edit of both layers is refused, apart from lack of memory
abbrev pub edit_refusal : {G : Type 0} → Layers G → EditContent G → Option LayerFault
edit_refusal layers edit = refusal (layer_on edit.side layers) edit

-- the result of edits whose first is on this row, given the refusal of that edit
abbrev pub unless_refused : {G : Type 0} → ℕ → Option LayerFault
    → Result (Layers G) (ℕ × LayerFault) → Result (Layers G) (ℕ × LayerFault)
unless_refused row (Some fault) rest = Err (row, fault)
unless_refused row None rest = rest

-- both layers after the edits, the first of which is on this row, or the row and the fault of the
-- first edit that is refused
abbrev pub edits_give : {G : Type 0} → ℕ → Layers G → List (EditContent G)
    → Result (Layers G) (ℕ × LayerFault)
edits_give row layers [] = Ok layers
edits_give row layers (edit ∷ edits) =
    unless_refused row (edit_refusal layers edit)
    (edits_give (row + 1) (edited_layers layers edit) edits)
