-- The layers and the relation of a condition on two features.
use Rattle.layer_core.specs.Layers.{Contents}
use Rattle.any_relation_core.specs.declared.any_relation.AnyRelation.{AnyRelation}
use Rattle.any_geometry_core.specs.declared.geometry.AnyGeometry.{AnyGeometry}
use Rattle.any_join_core.specs.declared.features.RelatedFeatures.{RelatedFeatures}
use Rattle.any_join_core.specs.declared.pairs.RelatedPairs.{RelatedPairs}

abbrev pub left_of : RelatedFeatures → Contents AnyGeometry
left_of c = c.left

abbrev pub right_of : RelatedFeatures → Contents AnyGeometry
right_of c = c.right

abbrev pub wanted : RelatedFeatures → AnyRelation
wanted c = c.relation.now

abbrev pub features_of : RelatedPairs → RelatedFeatures
features_of c = c.features
