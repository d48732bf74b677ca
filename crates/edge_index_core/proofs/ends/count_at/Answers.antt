use Rattle.std.proofs.Common.{arith}
use Rattle.plane_core.specs.Places.{point_of}
use Rattle.edge_index_core.proofs.EndLemmas.{here_order, here_count}
use Rattle.edge_index_core.proofs.ends.count_at.Goals as goal

pub overflow_sub-result : goal.overflow_sub-result
overflow_sub-result c =
    let before = c.count_before-before in let up_to = c.count_up_to-up_to in
    let order = here_order (point_of c.args.p.now) c.args.ordered.now before.result up_to.result before.ensures.bound up_to.ensures.bound before.ensures.parted up_to.ensures.parted in
    omega (arith, order)

pub returns : goal.returns
returns c =
    let before = c.count_before-before in let up_to = c.count_up_to-up_to in
    let order = here_order (point_of c.args.p.now) c.args.ordered.now before.result up_to.result before.ensures.bound up_to.ensures.bound before.ensures.parted up_to.ensures.parted in
    let count = here_count (point_of c.args.p.now) c.args.ordered.now before.result up_to.result order up_to.ensures.bound before.ensures.parted up_to.ensures.parted in
    omega (arith, count)
