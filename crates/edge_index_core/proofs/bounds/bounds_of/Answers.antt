use Rattle.std.proofs.Common.{rules}
use Rattle.std.specs.Int.{int_min, int_max}
use Rattle.geom_core.proofs.HeldLemmas.{held_by}
use Rattle.edge_index_core.proofs.BoxLemmas.{held_x, held_y, corners_as, box_as, never_none}
use Rattle.edge_index_core.proofs.bounds.bounds_of.Goals as goal

pub unreachable-requires : goal.unreachable-requires
unreachable-requires c =
    let e = c.args.e.now in
    let x1 = held_by int_min c.min.result _ _ (search rules) (held_x e.a) (held_x e.b) c.min.ensures.value in
    let y1 = held_by int_min c.min-2.result _ _ (search rules) (held_y e.a) (held_y e.b) c.min-2.ensures.value in
    let x2 = held_by int_max c.max.result _ _ (search rules) (held_x e.a) (held_x e.b) c.max.ensures.value in
    let y2 = held_by int_max c.max-2.result _ _ (search rules) (held_y e.a) (held_y e.b) c.max-2.ensures.value in
    never_none c.new.result c.in-None.is (c.new.ensures.some.1 (corners_as e _ _ _ _ x1 y1 x2 y2))

pub returns : goal.returns
returns c =
    let e = c.args.e.now in
    let x1 = held_by int_min c.min.result _ _ (search rules) (held_x e.a) (held_x e.b) c.min.ensures.value in
    let y1 = held_by int_min c.min-2.result _ _ (search rules) (held_y e.a) (held_y e.b) c.min-2.ensures.value in
    let x2 = held_by int_max c.max.result _ _ (search rules) (held_x e.a) (held_x e.b) c.max.ensures.value in
    let y2 = held_by int_max c.max-2.result _ _ (search rules) (held_y e.a) (held_y e.b) c.max-2.ensures.value in
    box_as e c.in-Some.shape _ _ _ _ x1 y1 x2 y2 c.in-Some.ensures.corners
