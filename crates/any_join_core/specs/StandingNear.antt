-- Features that stand in a relation have boxes that meet.
use Rattle.std.proofs.Common.{◌≡◌}
use Rattle.std.specs.Prelude.{ℕ}
use Rattle.std.proofs.Math.Logic.{∥∥₁_elim}
use Rattle.plane_core.specs.declared.rings.Rings.{Rings}
use Rattle.plane_core.specs.declared.rings.Rings.TheVariants.{Proper, EvenOdd}
use Rattle.plane_core.specs.Figures.{Figure}
use Rattle.plane_core.specs.ProperRings.{IsGeometryOf}
use Rattle.layer_core.specs.Layers.{Contents}
use Rattle.any_relation_core.specs.declared.any_relation.AnyRelation.{AnyRelation}
use Rattle.any_relation_core.specs.AnyRelations.{relation_of, rings_of as allowed, forbids_disjoint}
use Rattle.any_relation_core.proofs.FilterLemmas.{AreApart, meet_or_apart, boxes_of_relation}
use Rattle.any_geometry_core.specs.declared.geometry.AnyGeometry.{AnyGeometry}
use Rattle.any_geometry_core.specs.AnyGeometries.{figure_of, rings_of, box_of}
use Rattle.any_geometry_core.specs.AnyGeometries.{is_geometry, holds_vertices}
use Rattle.filter_core.specs.Joins.{StandIn}
use Rattle.any_join_core.specs.Matches.{BoxesMeet, AreRelated, TakesRule}

never_is_one : (a b : ⊥) → a ≡ b
never_is_one a b = absurd a

-- a geometry that a rule takes is one of that rule
pub of_rule : (rule rings : Rings) (g : Figure) → TakesRule rule rings → IsGeometryOf rings g
    → IsGeometryOf rule g
of_rule Proper Proper g takes is = is
of_rule Proper EvenOdd g takes is = absurd takes
of_rule EvenOdd rings g takes is = (is.0, tt)

-- the boxes of two geometries that stand in a relation don't lie apart
not_apart : (relation : AnyRelation) (g h : AnyGeometry) → AreRelated relation g h
    → ¬ (AreApart (box_of g) (box_of h))
not_apart relation g h related apart =
    ∥∥₁_elim (is_geometry g) never_is_one (λ is_g.
    ∥∥₁_elim (is_geometry h) never_is_one (λ is_h.
    ∥∥₁_elim (holds_vertices g) never_is_one (λ in_g.
    ∥∥₁_elim (holds_vertices h) never_is_one (λ in_h.
    boxes_of_relation (allowed relation) (relation_of relation) (figure_of g) (figure_of h)
    (box_of g) (box_of h) (forbids_disjoint relation)
    (of_rule (allowed relation) (rings_of g) (figure_of g) related.first_rings is_g)
    (of_rule (allowed relation) (rings_of h) (figure_of h) related.second_rings is_h)
    in_g in_h related.stand apart))))

-- so those of two features meet
pub standing_near : (relation : AnyRelation) (left right : Contents AnyGeometry) (i j : ℕ)
    → StandIn (AreRelated relation) left right (i, j) → StandIn BoxesMeet left right (i, j)
standing_near relation left right i j both = record {
  first = both.first;
  second = both.second;
  first_held = both.first_held;
  second_held = both.second_held;
  holds = meet_or_apart (box_of both.first.shape) (box_of both.second.shape)
      (not_apart relation both.first.shape both.second.shape both.holds);
}
