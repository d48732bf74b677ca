use Rattle.std.proofs.Common.{sym}
use Rattle.plane_core.specs.Places.{point_of}
use Rattle.edge_index_core.proofs.TreeLemmas.{place_wide}
use Rattle.noding_core.specs.Growth.{mark_in}
use Rattle.noding_core.proofs.GrowthLemmas.{grown_none}
use Rattle.shown_core.proofs.ShownLemmas.{place_standing}
use Rattle.arrangement_core.proofs.WalkLemmas.{part_lies_off}
use Rattle.arrangement_core.proofs.walk.add_off.Goals as goal

pub returns-then-is_place_shown-clause-grown : goal.returns-then-is_place_shown-clause-grown
returns-then-is_place_shown-clause-grown c =
    grown_none (mark_in c.args.part c.args.pair.now.second.now (point_of c.args.p.now)) c.args.walk.matrix (c.is_place_shown.ensures c.if-is_place_shown.true)

pub returns-clause-grown : goal.returns-clause-grown
returns-clause-grown c = place_standing c.args.pair.now.second.now (point_of c.args.p.now) c.args.part _ _ _ c.standing_of-standing.ensures.part c.raised-matrix.ensures

pub returns-clause-off : goal.returns-clause-off
returns-clause-off c =
    part_lies_off c.args.pair.now.second.now c.args.pair.now.second_box (point_of c.args.p.now) _ _ c.requires.bounded (place_wide c.args.p.now) (sym c.standing_of-standing.ensures.part)
    c.part_off-off.ensures.part (rw c.outline.ensures at c.part_off-off.ensures.area) c.part_off-off.ensures.off
