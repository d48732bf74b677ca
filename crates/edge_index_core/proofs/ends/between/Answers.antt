use Rattle.std.proofs.Common.{subst, sym}
use Rattle.edge_index_core.specs.Ends.{AreAlong}
use Rattle.edge_index_core.proofs.EndLemmas.{window_order, window_along}
use Rattle.edge_index_core.proofs.ends.between.Goals as goal

pub slice_bounds-result-start : goal.slice_bounds-result-start
slice_bounds-result-start c =
    let left = c.count_left_of-start in let right = c.count_left_to-end in
    window_order c.args.e.now c.args.ordered.now left.result right.result left.ensures.bound right.ensures.bound left.ensures.parted right.ensures.parted

pub slice_bounds-result-count : goal.slice_bounds-result-count
slice_bounds-result-count c =
    let left = c.count_left_of-start in let right = c.count_left_to-end in
    window_order c.args.e.now c.args.ordered.now left.result right.result left.ensures.bound right.ensures.bound left.ensures.parted right.ensures.parted

pub returns : goal.returns
returns c =
    let left = c.count_left_of-start in let right = c.count_left_to-end in
    let order = window_order c.args.e.now c.args.ordered.now left.result right.result left.ensures.bound right.ensures.bound left.ensures.parted right.ensures.parted in
    window_along c.args.e.now c.args.ordered.now left.result right.result order left.ensures.parted right.ensures.parted
