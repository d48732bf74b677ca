use Rattle.distance_core.proofs.DotLemmas.{held_sum_fits, dot_value, dot_below}
use Rattle.distance_core.proofs.vector.Vector.dot.Goals as goal

pub overflow_add-result : goal.overflow_add-result
overflow_add-result c =
    let a = c.args.self in let b = c.args.other in
    held_sum_fits a.x b.x a.y b.y a.x_in_range b.x_in_range a.y_in_range b.y_in_range

pub returns-clause-value : goal.returns-clause-value
returns-clause-value c =
    let a = c.args.self in let b = c.args.other in
    dot_value a.x b.x a.y b.y a.x_in_range b.x_in_range a.y_in_range b.y_in_range

pub returns-clause-bound : goal.returns-clause-bound
returns-clause-bound c =
    let a = c.args.self in let b = c.args.other in
    rw (dot_value a.x b.x a.y b.y a.x_in_range b.x_in_range a.y_in_range b.y_in_range)
    (dot_below a.x b.x a.y b.y a.x_in_range b.x_in_range a.y_in_range b.y_in_range)
