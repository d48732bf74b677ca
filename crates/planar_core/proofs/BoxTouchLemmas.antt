-- Boxes share a cell exactly where their squared distance is 0.
use Rattle.std.proofs.Common.{◌≡◌, ◌↔◌, ℕ, arith, refl}
use Rattle.std.proofs.lemmas.Int.{ints}
use Rattle.geom_core.specs.declared.shape.Shape.{Shape}
use Rattle.geom_core.specs.Cells.{Meets}
use Rattle.geom_core.proofs.SpanLemmas.{common_line, common_order}
use Rattle.distance_core.specs.Distances.{IsSquaredDistance}
use Rattle.distance_core.specs.ShapePoints.{HasPoint}
use Rattle.distance_core.proofs.AxisLemmas.{no_gap}
use Rattle.distance_core.proofs.GapLemmas.{within_is_close}
use Rattle.distance_core.proofs.SquareLemmas.{squared_distance_of, within_from_square, square_from_within}

module _ (a b : Shape) (n : ℕ) (is : IsSquaredDistance n (HasPoint a) (HasPoint b)) where
  meets : n ≡ 0 → Meets a b
  meets zero =
      let close = within_is_close 0 a b (within_from_square (HasPoint a) (HasPoint b) n 0 is (omega (arith, zero))) in
      let in_x = close.0 in
      let in_y = close.1 in
      let along_x = common_line a.x b.x (omega (arith, ints, in_x.first)) (omega (arith, ints, in_x.second)) in
      let along_y = common_line a.y b.y (omega (arith, ints, in_y.first)) (omega (arith, ints, in_y.second)) in
      (along_x.0, along_y.0, (along_x.1, along_y.1), (along_x.2, along_y.2))

  at_zero : Meets a b → n ≡ 0
  at_zero (u, v, in_a, in_b) =
      let gap_x = no_gap a.x b.x (common_order a.x b.x u in_a.0 in_b.0) (common_order b.x a.x u in_b.0 in_a.0) in
      let gap_y = no_gap a.y b.y (common_order a.y b.y v in_a.1 in_b.1) (common_order b.y a.y v in_b.1 in_a.1) in
      let zero = squared_distance_of a b 0 0 gap_x gap_y 0 refl in
      let few = square_from_within (HasPoint a) (HasPoint b) n 0 is zero.reached in
      omega (arith, few)

  pub touching : (n ≡ 0) ↔ Meets a b
  touching = (meets, at_zero)
