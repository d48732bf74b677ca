use Rattle.plane_core.specs.Places.{point_of}
use Rattle.plane_core.specs.Outlines.{outline_part}
use Rattle.shown_core.proofs.ShownLemmas.{shown_of_all, shown_at, shown_in}
use Rattle.shown_core.proofs.shown.is_place_shown.Goals as goal

pub returns-then-are_shown : goal.returns-then-are_shown
returns-then-are_shown c = λ holds. shown_of_all c.args.matrix.now c.args.part c.args.other.now (point_of c.args.p.now) c.row_of-row.result c.args.extent c.row_of-row.ensures
    (shown_at c.row_of-row.result c.all_parts.result _ c.args.extent c.are_shown.result (rw c.outline.ensures at c.all_parts.ensures) c.are_shown.ensures c.if-are_shown.true)

pub returns-else-are_shown : goal.returns-else-are_shown
returns-else-are_shown c = λ holds. shown_in c.args.matrix.now c.args.part (outline_part c.args.other.now (point_of c.args.p.now)) c.row_of-row.result c.args.extent c.row_of-row.ensures
    (c.is_shown_off_ends.ensures holds)
