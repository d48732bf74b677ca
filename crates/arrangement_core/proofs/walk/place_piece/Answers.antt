use Rattle.std.proofs.Common.{sym}
use Rattle.plane_core.specs.Places.{point_of}
use Rattle.edge_index_core.proofs.TreeLemmas.{place_wide}
use Rattle.shown_core.proofs.ShownLemmas.{piece_beside}
use Rattle.arrangement_core.proofs.WalkLemmas.{part_lies_off}
use Rattle.arrangement_core.proofs.walk.place_piece.Goals as goal

pub returns-then-is_vertical-clause-off : goal.returns-then-is_vertical-clause-off
returns-then-is_vertical-clause-off c =
    part_lies_off c.args.pair.now.second.now c.args.pair.now.second_box (point_of c.args.p.now) _ _ c.requires.bounded (place_wide c.args.p.now) (sym c.standing_near-standing.ensures.part)
    c.part_off-off.ensures.part (rw c.outline.ensures at c.part_off-off.ensures.area) c.part_off-off.ensures.off

pub returns-clause-off : goal.returns-clause-off
returns-clause-off c =
    part_lies_off c.args.pair.now.second.now c.args.pair.now.second_box (point_of c.args.p.now) _ _ c.requires.bounded (place_wide c.args.p.now) (sym c.standing_near-standing.ensures.part)
    c.part_off-off.ensures.part (rw c.outline.ensures at c.part_off-off.ensures.area) c.part_off-off.ensures.off

pub returns-clause-grown : goal.returns-clause-grown
returns-clause-grown c =
    let s = c.standing_near-standing.ensures in
    piece_beside c.args.pair.now.first.now c.args.pair.now.second.now c.args.course.now.edge (point_of c.args.p.now) _ _ _ _ _ _ c.is_vertical.result
    c.part_on_edge-part.ensures s.part s.above c.is_vertical.ensures.1 c.if-is_vertical.false c.raised-on.ensures c.mark_above-matrix.ensures
