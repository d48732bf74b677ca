-- Relations that a join of any geometry may use.
use Rattle.relation_core.specs.declared.relation.Relation.{Relation}
use Rattle.plane_core.specs.declared.rings.Rings.{Rings}
use Rattle.any_relation_core.specs.declared.any_relation.AnyRelation.{AnyRelation}
use Rattle.any_relation_core.specs.PlaneRelations.{ForbidsDisjoint}

abbrev pub relation_of : AnyRelation → Relation
relation_of join = join.relation

abbrev pub rings_of : AnyRelation → Rings
rings_of join = join.rings

-- by its type, the relation holds for no two geometries without a common point
pub forbids_disjoint : (join : AnyRelation) → ForbidsDisjoint (rings_of join) (relation_of join)
forbids_disjoint join = join.forbids_disjoint
