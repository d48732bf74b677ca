use Rattle.plane_core.proofs.HeldLemmas.{held_difference_fits, cross_value, cross_below}
use Rattle.plane_core.proofs.cross.cross.Goals as goal

pub overflow_sub-result : goal.overflow_sub-result
overflow_sub-result c =
    held_difference_fits c.args.a c.args.b c.args.c c.args.d c.ranges.a c.ranges.b c.ranges.c c.ranges.d c.requires.first c.requires.second

pub returns-clause-value : goal.returns-clause-value
returns-clause-value c =
    cross_value c.args.a c.args.b c.args.c c.args.d c.ranges.a c.ranges.b c.ranges.c c.ranges.d c.requires.first c.requires.second

pub returns-clause-bound : goal.returns-clause-bound
returns-clause-bound c =
    rw (cross_value c.args.a c.args.b c.args.c c.args.d c.ranges.a c.ranges.b c.ranges.c c.ranges.d c.requires.first c.requires.second)
    (cross_below c.args.a c.args.b c.args.c c.args.d)
