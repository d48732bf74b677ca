use Rattle.relation_core.specs.declared.extent.Extent.TheVariants.{Area}
use Rattle.plane_core.specs.Places.{point_of}
use Rattle.shown_core.proofs.ShownLemmas.{above_shown, shown_at}
use Rattle.arrangement_core.proofs.marks.mark_above.Goals as goal

pub returns-then-are_shown : goal.returns-then-are_shown
returns-then-are_shown c = above_shown c.args.matrix c.args.own.now c.args.above (point_of c.args.p.now) c.column_of-column.result c.column_of-column.ensures
    (shown_at c.column_of-column.result c.parts_above.result _ Area c.are_shown.result (rw c.outline.ensures at c.parts_above.ensures) c.are_shown.ensures c.if-are_shown.true)
