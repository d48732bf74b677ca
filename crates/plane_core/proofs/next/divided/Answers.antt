use Rattle.plane_core.proofs.QuotientLemmas.{divided_of, way_size, size_held, cast_fits, sum_fits, difference_fits, is_up, is_down, floor_of_up, ceiling_of_up, floor_of_down, ceiling_of_down}
use Rattle.plane_core.proofs.next.divided.Goals as goal

pub overflow_cast-least : goal.overflow_cast-least
overflow_cast-least c =
    let r = c.requires in
    let n = size_held c.args.n _ c.ranges.n c.unsigned_abs.ensures.value in
    let d = way_size c.args.a c.args.b _ r.a r.b c.unsigned_abs-2.ensures.value in
    let w = size_held c.args.w _ c.ranges.w c.unsigned_abs-3.ensures.value in
    let q = c.divide_product-part.ensures in
    let h = divided_of c.args.a c.args.b c.args.n c.args.w _ _ _ _ _ r.a r.b r.not_before r.not_beyond r.positive n d w q.floor q.ceiling in
    cast_fits _ h.floor_short

pub overflow_cast-greatest : goal.overflow_cast-greatest
overflow_cast-greatest c =
    let r = c.requires in
    let n = size_held c.args.n _ c.ranges.n c.unsigned_abs.ensures.value in
    let d = way_size c.args.a c.args.b _ r.a r.b c.unsigned_abs-2.ensures.value in
    let w = size_held c.args.w _ c.ranges.w c.unsigned_abs-3.ensures.value in
    let q = c.divide_product-part.ensures in
    let h = divided_of c.args.a c.args.b c.args.n c.args.w _ _ _ _ _ r.a r.b r.not_before r.not_beyond r.positive n d w q.floor q.ceiling in
    cast_fits _ h.ceiling_short

pub overflow_add-result : goal.overflow_add-result
overflow_add-result c =
    let r = c.requires in
    let n = size_held c.args.n _ c.ranges.n c.unsigned_abs.ensures.value in
    let d = way_size c.args.a c.args.b _ r.a r.b c.unsigned_abs-2.ensures.value in
    let w = size_held c.args.w _ c.ranges.w c.unsigned_abs-3.ensures.value in
    let q = c.divide_product-part.ensures in
    let h = divided_of c.args.a c.args.b c.args.n c.args.w _ _ _ _ _ r.a r.b r.not_before r.not_beyond r.positive n d w q.floor q.ceiling in
    sum_fits c.args.a _ r.a h.floor_short

pub overflow_add-result-then-a-b : goal.overflow_add-result-then-a-b
overflow_add-result-then-a-b c =
    let r = c.requires in
    let n = size_held c.args.n _ c.ranges.n c.unsigned_abs.ensures.value in
    let d = way_size c.args.a c.args.b _ r.a r.b c.unsigned_abs-2.ensures.value in
    let w = size_held c.args.w _ c.ranges.w c.unsigned_abs-3.ensures.value in
    let q = c.divide_product-part.ensures in
    let h = divided_of c.args.a c.args.b c.args.n c.args.w _ _ _ _ _ r.a r.b r.not_before r.not_beyond r.positive n d w q.floor q.ceiling in
    sum_fits c.args.a _ r.a h.ceiling_short

pub overflow_sub-result : goal.overflow_sub-result
overflow_sub-result c =
    let r = c.requires in
    let n = size_held c.args.n _ c.ranges.n c.unsigned_abs.ensures.value in
    let d = way_size c.args.a c.args.b _ r.a r.b c.unsigned_abs-2.ensures.value in
    let w = size_held c.args.w _ c.ranges.w c.unsigned_abs-3.ensures.value in
    let q = c.divide_product-part.ensures in
    let h = divided_of c.args.a c.args.b c.args.n c.args.w _ _ _ _ _ r.a r.b r.not_before r.not_beyond r.positive n d w q.floor q.ceiling in
    difference_fits c.args.a _ r.a h.ceiling_short

pub overflow_sub-result-else-a-b : goal.overflow_sub-result-else-a-b
overflow_sub-result-else-a-b c =
    let r = c.requires in
    let n = size_held c.args.n _ c.ranges.n c.unsigned_abs.ensures.value in
    let d = way_size c.args.a c.args.b _ r.a r.b c.unsigned_abs-2.ensures.value in
    let w = size_held c.args.w _ c.ranges.w c.unsigned_abs-3.ensures.value in
    let q = c.divide_product-part.ensures in
    let h = divided_of c.args.a c.args.b c.args.n c.args.w _ _ _ _ _ r.a r.b r.not_before r.not_beyond r.positive n d w q.floor q.ceiling in
    difference_fits c.args.a _ r.a h.floor_short

pub returns-then-a-b-clause-floor : goal.returns-then-a-b-clause-floor
returns-then-a-b-clause-floor c =
    let r = c.requires in
    let n = size_held c.args.n _ c.ranges.n c.unsigned_abs.ensures.value in
    let d = way_size c.args.a c.args.b _ r.a r.b c.unsigned_abs-2.ensures.value in
    let w = size_held c.args.w _ c.ranges.w c.unsigned_abs-3.ensures.value in
    let q = c.divide_product-part.ensures in
    let h = divided_of c.args.a c.args.b c.args.n c.args.w _ _ _ _ _ r.a r.b r.not_before r.not_beyond r.positive n d w q.floor q.ceiling in
    floor_of_up c.args.a c.args.b c.args.n c.args.w _ _ r.a r.not_before r.positive (is_up c.args.a c.args.b r.a r.b c.if-a-b.true) h

pub returns-then-a-b-clause-ceiling : goal.returns-then-a-b-clause-ceiling
returns-then-a-b-clause-ceiling c =
    let r = c.requires in
    let n = size_held c.args.n _ c.ranges.n c.unsigned_abs.ensures.value in
    let d = way_size c.args.a c.args.b _ r.a r.b c.unsigned_abs-2.ensures.value in
    let w = size_held c.args.w _ c.ranges.w c.unsigned_abs-3.ensures.value in
    let q = c.divide_product-part.ensures in
    let h = divided_of c.args.a c.args.b c.args.n c.args.w _ _ _ _ _ r.a r.b r.not_before r.not_beyond r.positive n d w q.floor q.ceiling in
    ceiling_of_up c.args.a c.args.b c.args.n c.args.w _ _ r.a r.not_before r.positive (is_up c.args.a c.args.b r.a r.b c.if-a-b.true) h

pub returns-else-a-b-clause-floor : goal.returns-else-a-b-clause-floor
returns-else-a-b-clause-floor c =
    let r = c.requires in
    let n = size_held c.args.n _ c.ranges.n c.unsigned_abs.ensures.value in
    let d = way_size c.args.a c.args.b _ r.a r.b c.unsigned_abs-2.ensures.value in
    let w = size_held c.args.w _ c.ranges.w c.unsigned_abs-3.ensures.value in
    let q = c.divide_product-part.ensures in
    let h = divided_of c.args.a c.args.b c.args.n c.args.w _ _ _ _ _ r.a r.b r.not_before r.not_beyond r.positive n d w q.floor q.ceiling in
    floor_of_down c.args.a c.args.b c.args.n c.args.w _ _ r.a r.not_before r.positive (is_down c.args.a c.args.b r.a r.b c.if-a-b.false) h

pub returns-else-a-b-clause-ceiling : goal.returns-else-a-b-clause-ceiling
returns-else-a-b-clause-ceiling c =
    let r = c.requires in
    let n = size_held c.args.n _ c.ranges.n c.unsigned_abs.ensures.value in
    let d = way_size c.args.a c.args.b _ r.a r.b c.unsigned_abs-2.ensures.value in
    let w = size_held c.args.w _ c.ranges.w c.unsigned_abs-3.ensures.value in
    let q = c.divide_product-part.ensures in
    let h = divided_of c.args.a c.args.b c.args.n c.args.w _ _ _ _ _ r.a r.b r.not_before r.not_beyond r.positive n d w q.floor q.ceiling in
    ceiling_of_down c.args.a c.args.b c.args.n c.args.w _ _ r.a r.not_before r.positive (is_down c.args.a c.args.b r.a r.b c.if-a-b.false) h
