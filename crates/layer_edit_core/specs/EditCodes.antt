-- The coding of the visible states of ids and of features, by which proofs distinguish them.
use Rattle.std.specs.Prelude.{ℕ, List, Option, refl}
use Rattle.std.specs.Coded.{Coded, code_by, coded×, coded_ℕ, coded_list, coded_option}
use Rattle.layer_core.specs.declared.id.Id.{Id}
use Rattle.layer_core.specs.contracts.id.Id as id
use Rattle.layer_core.specs.LayerCodes.{coded_contents}
use Rattle.layer_core.specs.Layers.{Contents}
use Rattle.layer_edit_core.specs.FeaturesById.{FeaturesState}
use Rattle.layer_edit_core.specs.RisingIds.{IdsState}

-- the list with the room
abbrev pub coded_features : {G : Type 0} → Coded G → Coded (FeaturesState G)
coded_features {G = G} coded_shape =
    code_by (Contents G × (ℕ × ℕ)) (coded× (coded_contents coded_shape) (coded× coded_ℕ coded_ℕ))
    (λ s. (s.list, (s.room, s.rising_room)))
    (λ p. record { list = p.0; room = p.1.0; rising_room = p.1.1 }) (λ _. refl)

-- ids and their numbers, with the room
abbrev pub coded_ids : Coded IdsState
coded_ids =
    code_by (List (Id × Option ℕ) × (ℕ × ℕ))
    (coded× (coded_list (coded× id.the_row.coded (coded_option coded_ℕ)))
    (coded× coded_ℕ coded_ℕ))
    (λ s. (s.entries, (s.room, s.rising_room)))
    (λ p. record { entries = p.0; room = p.1.0; rising_room = p.1.1 }) (λ _. refl)
