-- The layers of a condition on two features, and which pairs it asks for.
use Rattle.layer_core.specs.Layers.{Contents}
use Rattle.distance_core.specs.declared.nearness.Nearness.{Nearness}
use Rattle.near_core.specs.declared.features.NearFeatures.{NearFeatures}
use Rattle.near_core.specs.declared.grown.Grown.{Grown}

abbrev pub left_of : {G S F : Type 0} → NearFeatures G S F → Contents (Grown G)
left_of c = c.left

abbrev pub right_of : {G S F : Type 0} → NearFeatures G S F → Contents (Grown G)
right_of c = c.right

abbrev pub wanted : {G S F : Type 0} → NearFeatures G S F → Nearness
wanted c = c.nearness
