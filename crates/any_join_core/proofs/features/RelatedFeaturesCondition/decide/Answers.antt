use Rattle.std.proofs.Common.{subst}
use Rattle.std.specs.Prelude.{Option}
use Rattle.std.specs.Borrow.{Bor}
use Rattle.layer_core.specs.Layers.{with_number, ShapeIs}
use Rattle.any_geometry_core.specs.declared.geometry.AnyGeometry.{AnyGeometry}
use Rattle.any_join_core.specs.Conditions.{left_of, right_of, wanted}
use Rattle.any_join_core.proofs.DecisionLemmas.{decided}
use Rattle.any_join_core.proofs.features.RelatedFeaturesCondition.decide.Goals as goal

pub returns-in-Some-Some : goal.returns-in-Some-Some
returns-in-Some-Some c =
    let left = left_of c.args.self.now in
    let right = right_of c.args.self.now in
    decided (wanted c.args.self.now) left right c.args.left c.args.right c.requires.first c.requires.second c.in-Some-Some.first c.in-Some-Some.second c.requires.first_held c.requires.second_held
    (subst (λ (t : Option (Bor AnyGeometry)). ShapeIs t (with_number c.args.left left)) c.in-Some-Some.is-0 c.shape.ensures)
    (subst (λ (t : Option (Bor AnyGeometry)). ShapeIs t (with_number c.args.right right)) c.in-Some-Some.is-1 c.shape-2.ensures)
    c.related.result c.related.ensures.holds c.related.ensures.matrix
