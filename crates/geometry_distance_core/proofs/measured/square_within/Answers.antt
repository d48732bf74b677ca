use Rattle.std.proofs.Common.{inl, inr}
use Rattle.distance_core.specs.Units.{units_of}
use Rattle.noding_core.proofs.TestLemmas.{clash}
use Rattle.geometry_distance_core.specs.Measured.{of_skeletons}
use Rattle.geometry_distance_core.proofs.DistanceLemmas.{at_distance, result_zero, result_clear, result_start}
use Rattle.geometry_distance_core.proofs.measured.square_within.Goals as goal

pub returns-then-is_zero-clause-within : goal.returns-then-is_zero-clause-within
returns-then-is_zero-clause-within c =
    let g = c.args.first.now in
    let h = c.args.second.now in
    let n = c.nearest_of-nearest.result in
    let near = c.nearest_of-nearest.ensures in
    (result_zero g h near.geometries.0 near.geometries.1 (units_of c.args.distance) n.square (at_distance n c.args.distance (of_skeletons g h) near.distance near.nearest)
    (c.is_zero.ensures.0 c.if-is_zero.true)).within

pub returns-then-is_zero-clause-square : goal.returns-then-is_zero-clause-square
returns-then-is_zero-clause-square c =
    let g = c.args.first.now in
    let h = c.args.second.now in
    let n = c.nearest_of-nearest.result in
    let near = c.nearest_of-nearest.ensures in
    (result_zero g h near.geometries.0 near.geometries.1 (units_of c.args.distance) n.square (at_distance n c.args.distance (of_skeletons g h) near.distance near.nearest)
    (c.is_zero.ensures.0 c.if-is_zero.true)).square

pub returns-then-has_start_in_area-clause-within : goal.returns-then-has_start_in_area-clause-within
returns-then-has_start_in_area-clause-within c =
    let near = c.nearest_of-nearest.ensures in
    (result_start c.args.first.now c.args.second.now near.geometries.0 near.geometries.1 (units_of c.args.distance) c.whole.result c.whole.ensures.numerator
    (c.has_start_in_area.ensures.0 c.if-has_start_in_area.true)).within

pub returns-then-has_start_in_area-clause-square : goal.returns-then-has_start_in_area-clause-square
returns-then-has_start_in_area-clause-square c =
    let near = c.nearest_of-nearest.ensures in
    (result_start c.args.first.now c.args.second.now near.geometries.0 near.geometries.1 (units_of c.args.distance) c.whole.result c.whole.ensures.numerator
    (c.has_start_in_area.ensures.0 c.if-has_start_in_area.true)).square

pub returns-else-has_start_in_area-clause-within : goal.returns-else-has_start_in_area-clause-within
returns-else-has_start_in_area-clause-within c =
    let g = c.args.first.now in
    let h = c.args.second.now in
    let n = c.nearest_of-nearest.result in
    let near = c.nearest_of-nearest.ensures in
    (result_clear g h near.geometries.0 near.geometries.1 (units_of c.args.distance) n.square (at_distance n c.args.distance (of_skeletons g h) near.distance near.nearest)
    (λ zero. clash c.is_zero.result (c.is_zero.ensures.1 zero) c.if-is_zero.false) (
      λ start. clash c.has_start_in_area.result (c.has_start_in_area.ensures.1 (inl start)) c.if-has_start_in_area.false,
      λ start. clash c.has_start_in_area.result (c.has_start_in_area.ensures.1 (inr start)) c.if-has_start_in_area.false,
    )).within

pub returns-else-has_start_in_area-clause-square : goal.returns-else-has_start_in_area-clause-square
returns-else-has_start_in_area-clause-square c =
    let g = c.args.first.now in
    let h = c.args.second.now in
    let n = c.nearest_of-nearest.result in
    let near = c.nearest_of-nearest.ensures in
    (result_clear g h near.geometries.0 near.geometries.1 (units_of c.args.distance) n.square (at_distance n c.args.distance (of_skeletons g h) near.distance near.nearest)
    (λ zero. clash c.is_zero.result (c.is_zero.ensures.1 zero) c.if-is_zero.false) (
      λ start. clash c.has_start_in_area.result (c.has_start_in_area.ensures.1 (inl start)) c.if-has_start_in_area.false,
      λ start. clash c.has_start_in_area.result (c.has_start_in_area.ensures.1 (inr start)) c.if-has_start_in_area.false,
    )).square
