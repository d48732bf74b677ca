use Rattle.std.proofs.Common.{subst}
use Rattle.std.specs.Prelude.{Option}
use Rattle.std.specs.Borrow.{Bor}
use Rattle.layer_core.specs.Layers.{with_number, ShapeIs}
use Rattle.any_geometry_core.specs.declared.geometry.AnyGeometry.{AnyGeometry}
use Rattle.any_join_core.specs.Conditions.{features_of, left_of, right_of, wanted}
use Rattle.any_join_core.proofs.DecisionLemmas.{decided_alone}
use Rattle.any_join_core.proofs.pairs.RelatedPairsCondition.decide.Goals as goal

pub returns-in_ok-answer-in-Some-Some : goal.returns-in_ok-answer-in-Some-Some
returns-in_ok-answer-in-Some-Some c =
    let features = features_of c.args.self.now in
    let left = left_of features in
    let right = right_of features in
    decided_alone (wanted features) left right c.args.left c.args.right c.requires.first c.requires.second c.in-Some-Some.first c.in-Some-Some.second c.requires.first_held c.requires.second_held
    (subst (λ (t : Option (Bor AnyGeometry)). ShapeIs t (with_number c.args.left left)) c.in-Some-Some.is-0 c.shape.ensures)
    (subst (λ (t : Option (Bor AnyGeometry)). ShapeIs t (with_number c.args.right right)) c.in-Some-Some.is-1 c.shape-2.ensures)
    c.in_ok-answer-in-Some-Some.answer _ c.then_some.result c.then_some.ensures c.in_ok-answer-in-Some-Some.ensures
