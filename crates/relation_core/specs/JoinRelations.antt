-- Relations that a join may use.
use Rattle.relation_core.specs.declared.relation.Relation.{Relation}
use Rattle.relation_core.specs.declared.join_relation.JoinRelation.{JoinRelation}
use Rattle.relation_core.specs.Relations.{ForbidsDisjoint}

abbrev pub relation_of : JoinRelation → Relation
relation_of join = join.relation

-- by its type, the relation holds for no two shapes without a common cell
pub forbids_disjoint : (join : JoinRelation) → ForbidsDisjoint (relation_of join)
forbids_disjoint join = join.forbids_disjoint
