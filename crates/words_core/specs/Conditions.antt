-- The condition of a join: a relation of geometries of one kind.
use Rattle.any_relation_core.specs.AnyRelations.{rings_of}
use Rattle.any_relation_core.specs.AnyRelations as any_relations
use Rattle.any_relation_core.specs.PlaneRelations as plane
use Rattle.relation_core.specs.JoinRelations as join_relations
use Rattle.relation_core.specs.Relations as boxes
use Rattle.relation_core.specs.declared.relation.Relation.{Relation}
use Rattle.words_core.specs.declared.condition.Condition.{Condition}
use Rattle.words_core.specs.declared.condition.Condition.TheVariants as condition
use Rattle.words_core.specs.declared.condition.Geometries.{Geometries}
use Rattle.words_core.specs.declared.condition.Geometries.TheVariants.{Box, Any}

abbrev pub relation_of : Condition → Relation
relation_of (condition.Boxes relation) = join_relations.relation_of relation
relation_of (condition.Any relation) = any_relations.relation_of relation

-- the kind of the geometries that the relation of a condition is of
abbrev pub geometries_of : Condition → Geometries
geometries_of (condition.Boxes relation) = Box
geometries_of (condition.Any relation) = Any (rings_of relation)

-- the relation holds for some two geometries of this kind without a common point
abbrev pub HoldsForDisjoint : Geometries → Relation → Type 0
HoldsForDisjoint Box relation = boxes.HoldsForDisjoint relation
HoldsForDisjoint (Any rings) relation = plane.HoldsForDisjoint rings relation

-- the relation holds for no two geometries of this kind without a common point
abbrev pub ForbidsDisjoint : Geometries → Relation → Type 0
ForbidsDisjoint Box relation = boxes.ForbidsDisjoint relation
ForbidsDisjoint (Any rings) relation = plane.ForbidsDisjoint rings relation
