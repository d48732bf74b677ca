use Rattle.relation_core.specs.declared.extent.Extent.TheVariants.{Line}
use Rattle.plane_core.specs.Places.{point_of}
use Rattle.shown_core.proofs.ShownLemmas.{shown_of_rest, shown_at}
use Rattle.shown_core.proofs.shown.is_line_shown.Goals as goal

pub returns-then-course : goal.returns-then-course
returns-then-course c = λ holds. shown_of_rest c.args.matrix.now c.args.part c.args.other.now c.args.course.now.edge (point_of c.args.p.now) c.row_of-row.result Line c.row_of-row.ensures
    (shown_at c.row_of-row.result c.rest_parts.result _ Line c.are_shown.result c.rest_parts.ensures c.are_shown.ensures holds) c.requires.uncrossed (c.requires.apart c.if-course.true)
