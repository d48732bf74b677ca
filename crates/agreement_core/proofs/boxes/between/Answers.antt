use Rattle.std.proofs.Common.{rules, ◌≡◌, ◌∙◌, w64, to_z, of_z}
use Rattle.std.proofs.lemmas.Int.{to_z-of_z}
use Rattle.std.specs.Int.{int_min, int_max}
use Rattle.agreement_core.proofs.BoxTestLemmas.{ends_in_order, of_passed}
use Rattle.agreement_core.proofs.boxes.between.Goals as goal

pub returns-then-dim-clause-corners : goal.returns-then-dim-clause-corners
returns-then-dim-clause-corners c =
    let a = c.args.a.now in
    let b = c.args.b.now in
    let ax : to_z w64 (of_z w64 c.args.a.now.x) ≡ c.args.a.now.x = search (rules, to_z-of_z) in
    let ay : to_z w64 (of_z w64 c.args.a.now.y) ≡ c.args.a.now.y = search (rules, to_z-of_z) in
    let bx : to_z w64 (of_z w64 c.args.b.now.x) ≡ c.args.b.now.x = search (rules, to_z-of_z) in
    let by_ : to_z w64 (of_z w64 c.args.b.now.y) ≡ c.args.b.now.y = search (rules, to_z-of_z) in
    let x_lo : to_z w64 (of_z w64 c.min.result) ≡ c.min.result = search (rules, to_z-of_z) in
    let y_lo : to_z w64 (of_z w64 c.min-2.result) ≡ c.min-2.result = search (rules, to_z-of_z) in
    let x_hi : to_z w64 (of_z w64 c.max.result) ≡ c.max.result = search (rules, to_z-of_z) in
    let y_hi : to_z w64 (of_z w64 c.max-2.result) ≡ c.max-2.result = search (rules, to_z-of_z) in
    let corners = c.in_ok-shape.ensures.corners in
    record {
      along_x = ends_in_order c.in_ok-shape.shape.x a.x b.x
          (corners.first_x ∙ x_lo ∙ c.min.ensures.value ∙ of_passed int_min a.x b.x _ _ ax bx)
          (corners.second_x ∙ x_hi ∙ c.max.ensures.value ∙ of_passed int_max a.x b.x _ _ ax bx);
      along_y = ends_in_order c.in_ok-shape.shape.y a.y b.y
          (corners.first_y ∙ y_lo ∙ c.min-2.ensures.value ∙ of_passed int_min a.y b.y _ _ ay by_)
          (corners.second_y ∙ y_hi ∙ c.max-2.ensures.value ∙ of_passed int_max a.y b.y _ _ ay by_);
    }
