-- What editing sees of a layer's features, and the results of their look-ups by id.
use Rattle.std.specs.Prelude.{◌≡◌, ℕ, true, false, List, Option, Some, slice_get}
use Rattle.std.specs.Str.{bytes_eq}
use Rattle.layer_core.specs.declared.features.Slot.{Slot}
use Rattle.layer_core.specs.IdsAndSlots.{id_of}
use Rattle.layer_core.specs.Layers.{Contents}

-- the visible state of a layer's features: their list; how many more need no memory, whatever their
-- ids; and how many more if each id comes after all that were ever inserted
pub record FeaturesState (G : Type 0) : Type 0 where
  pub list : Contents G
  pub room : ℕ
  pub rising_room : ℕ

-- no slot's feature has this id
pub record IsAbsent
    {G : Type 0} (ids : List (List ℕ)) (id : List ℕ) (slots : List (Option (Slot G)))
    : Type 0 where
  pub differs : (k : ℕ) (s : Slot G) → slice_get slots k ≡ Some (Some s)
      → bytes_eq id (id_of ids s) ≡ false

-- the feature of this slot has this id, and no other does
pub record IsOnly {G : Type 0}
    (ids : List (List ℕ)) (id : List ℕ) (slots : List (Option (Slot G))) (k : ℕ) (slot : Slot G)
    : Type 0 where
  pub here : slice_get slots k ≡ Some (Some slot)
  pub same : bytes_eq id (id_of ids slot) ≡ true
  pub only : (j : ℕ) (s : Slot G) → slice_get slots j ≡ Some (Some s)
      → bytes_eq id (id_of ids s) ≡ true → j ≡ k
