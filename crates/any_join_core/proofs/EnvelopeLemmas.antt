-- The envelopes of two geometries that stand in a relation are as it implies.
use Rattle.std.specs.Prelude.{Bool, IsTrue}
use Rattle.std.proofs.Math.Logic.{∥∥₁_elim}
use Rattle.std.proofs.Props.{props}
use Rattle.plane_core.specs.Figures.{Figure}
use Rattle.plane_core.specs.ProperRings.{IsGeometryOf}
use Rattle.any_relation_core.specs.declared.any_relation.AnyRelation.{AnyRelation}
use Rattle.any_relation_core.specs.AnyRelations.{relation_of, rings_of as allowed}
use Rattle.any_relation_core.specs.EnvelopeRules.{IsEnvelope}
use Rattle.any_relation_core.specs.PlaneRelations.{HoldsOf}
use Rattle.any_geometry_core.specs.declared.geometry.AnyGeometry.{AnyGeometry}
use Rattle.any_geometry_core.specs.AnyGeometries.{figure_of, rings_of, box_of, is_geometry, is_least}
use Rattle.any_join_core.specs.Matches.{AreRelated}
use Rattle.any_join_core.specs.StandingNear.{of_rule}
use Rattle.any_join_core.proofs.HeldLemmas.{holds_all}

is_envelope : (g : AnyGeometry) → IsEnvelope (figure_of g) (box_of g)
is_envelope g = record {
  holds = holds_all g;
  least = λ s all. ∥∥₁_elim (is_least g) (hlevel props) (λ least. least s all);
}

-- a test that loses no two geometries with such envelopes loses none of a layer
pub none_lost_of : (relation : AnyRelation) (g h : AnyGeometry) (answer : Bool)
    → ((a b : Figure) → IsGeometryOf (allowed relation) a → IsGeometryOf (allowed relation) b → IsEnvelope a (box_of g) → IsEnvelope b (box_of h)
    → HoldsOf (relation_of relation) a b → IsTrue answer)
    → AreRelated relation g h → IsTrue answer
none_lost_of relation g h answer none_lost related =
    ∥∥₁_elim (is_geometry g) (hlevel props) (λ is_g.
    ∥∥₁_elim (is_geometry h) (hlevel props) (λ is_h.
    none_lost (figure_of g) (figure_of h)
    (of_rule (allowed relation) (rings_of g) (figure_of g) related.first_rings is_g)
    (of_rule (allowed relation) (rings_of h) (figure_of h) related.second_rings is_h)
    (is_envelope g) (is_envelope h) related.stand))
