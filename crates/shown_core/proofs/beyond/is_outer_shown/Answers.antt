use Rattle.shown_core.proofs.OuterLemmas.{outer_shown}
use Rattle.shown_core.proofs.beyond.is_outer_shown.Goals as goal

pub returns : goal.returns
returns c = λ holds.
    outer_shown c.args.matrix.now c.args.own.now c.args.bounds.now c.column_of-column.result c.column_of-column.ensures
    (rw c.parts_along.ensures at c.are_shown.ensures.0 c.if-not-are_shown.false)
    (rw c.parts_above.ensures at c.are_shown-2.ensures.0 c.if-not-are_shown-2.false)
    (c.are_ends_shown.ensures holds)
