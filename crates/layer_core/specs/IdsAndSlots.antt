-- The layer represented by ids with their numbers and a list of slots.
use Rattle.std.specs.Prelude.{◌≡◌, ◌+◌, ◌<◌, ◌≤◌, ℕ, suc, List, [], ◌∷◌, Option, Some}
use Rattle.std.specs.Prelude.{None, map, get_or, length, slice_get, option_map}
use Rattle.std.specs.List.{IsDistinct}
use Rattle.std.specs.Map.{keys_of, values_of}
use Rattle.layer_core.specs.declared.features.Slot.{Slot}
use Rattle.layer_core.specs.declared.id.Id.{Id}
use Rattle.layer_core.specs.Ids.{id_bytes, id_eq}
use Rattle.layer_core.specs.Limits.{most_features}
use Rattle.layer_core.specs.Layers.{Feature, Contents}

abbrev pub id_of : {G : Type 0} → List (List ℕ) → Slot G → List ℕ
id_of ids slot = get_or ids slot.place []

-- the feature in a slot, given the ids by place
abbrev pub feature_of : {G : Type 0} → List (List ℕ) → ℕ → Slot G → Feature G
feature_of ids number slot =
    record { id = id_of ids slot; number = number; shape = slot.shape }

-- the features in the slots, the first of which has this number
abbrev pub features_from : {G : Type 0} → List (List ℕ) → ℕ
    → List (Option (Slot G)) → List (Feature G)
features_from ids number [] = []
features_from ids number (None ∷ slots) = features_from ids (suc number) slots
features_from ids number (Some slot ∷ slots) =
    feature_of ids number slot ∷ features_from ids (suc number) slots

abbrev pub ids_of : List Id → List (List ℕ)
ids_of keys = map id_bytes keys

abbrev pub contents_of : {G : Type 0} → List Id → List (Option (Slot G)) → Contents G
contents_of keys slots =
    record { features = features_from (ids_of keys) 0 slots; next = length slots }

-- the places of the features' ids, by number
abbrev pub places : {G : Type 0} → List (Option (Slot G)) → List (Option ℕ)
places slots = map (option_map (λ slot. slot.place)) slots

-- the numbers by place and the places by number are inverse to each other
pub record AreInverse
    {G : Type 0} (numbers : List (Option ℕ)) (slots : List (Option (Slot G)))
    : Type 0 where
  pub placed : (p n : ℕ) → slice_get numbers p ≡ Some (Some n)
      → slice_get (places slots) n ≡ Some (Some p)
  pub numbered : (p n : ℕ) → slice_get (places slots) n ≡ Some (Some p)
      → slice_get numbers p ≡ Some (Some n)
  pub few : length slots ≤ most_features

-- the ids and the slots correspond, the ids are distinct, and this is the number of features
pub record StandForLayer {G : Type 0}
    (entries : List (Id × Option ℕ)) (slots : List (Option (Slot G))) (count : ℕ)
    : Type 0 where
  pub table : AreInverse (values_of entries) slots
  pub distinct : IsDistinct id_eq (keys_of entries)
  pub counted : count ≡ length (contents_of (keys_of entries) slots).features

-- each slot refers to the place of an id, and the numbers of the slots are those of a layer
pub record IsWalk {G : Type 0}
    (entries : List (Id × Option ℕ)) (number : ℕ) (slots : List (Option (Slot G)))
    : Type 0 where
  pub placed : (k : ℕ) (slot : Slot G) → slice_get slots k ≡ Some (Some slot)
      → slot.place < length entries
  pub few : number + length slots ≤ most_features
