use Rattle.std.proofs.Common.{subst}
use Rattle.std.specs.Prelude.{Option}
use Rattle.std.specs.Borrow.{Bor}
use Rattle.layer_core.specs.Layers.{with_number, ShapeIs}
use Rattle.prepared_core.proofs.PreparedLemmas.{form_of_shape}
use Rattle.near_core.specs.declared.grown.Grown.{Grown}
use Rattle.near_core.specs.Conditions.{left_of, right_of, wanted}
use Rattle.near_core.specs.Near.{AreWanted, HaveSquare}
use Rattle.near_core.proofs.DecisionLemmas.{decided_if}
use Rattle.near_core.proofs.features.NearFeaturesCondition.decide.Goals as goal

pub square_if_wanted-requires : goal.square_if_wanted-requires
square_if_wanted-requires g c =
    let left = left_of c.args.self.now in
    let right = right_of c.args.self.now in
    let is_form : Grown g.row.G.Denot → g.row.G-Form.Denot → Type 0 = λ grown form. g.G.Planar.is_form grown.geometry form in
    record {
      first = form_of_shape is_form left c.args.left c.in-Some-Some.first c.prepared.result
          (subst (λ (t : Option (Bor (Grown g.row.G.Denot))). ShapeIs t (with_number c.args.left left)) c.in-Some-Some.is-0 c.shape.ensures) c.prepared.ensures;
      second = form_of_shape is_form right c.args.right c.in-Some-Some.second c.prepared-2.result
          (subst (λ (t : Option (Bor (Grown g.row.G.Denot))). ShapeIs t (with_number c.args.right right)) c.in-Some-Some.is-1 c.shape-2.ensures) c.prepared-2.ensures;
    }

pub returns-in-Some-Some : goal.returns-in-Some-Some
returns-in-Some-Some g c =
    let left = left_of c.args.self.now in
    let right = right_of c.args.self.now in
    decided_if (AreWanted g.G.Planar.has_point (wanted c.args.self.now)) (HaveSquare g.G.Square.Square.fraction g.G.Planar.has_point) left right
    c.args.left c.args.right c.requires.first c.requires.second c.in-Some-Some.first c.in-Some-Some.second
    c.requires.first_held c.requires.second_held
    (subst (λ (t : Option (Bor (Grown g.row.G.Denot))). ShapeIs t (with_number c.args.left left)) c.in-Some-Some.is-0 c.shape.ensures)
    (subst (λ (t : Option (Bor (Grown g.row.G.Denot))). ShapeIs t (with_number c.args.right right)) c.in-Some-Some.is-1 c.shape-2.ensures)
    c.square_if_wanted.result c.square_if_wanted.ensures.wanted c.square_if_wanted.ensures.square
