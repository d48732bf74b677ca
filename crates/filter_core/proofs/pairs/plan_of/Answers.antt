use Rattle.filter_core.proofs.TreeJoinLemmas.{rows_are_list}
use Rattle.filter_core.proofs.pairs.plan_of.Goals as goal

pub returns-clause-rows : goal.returns-clause-rows
returns-clause-rows g c =
    let left_tree = c.tree-left_tree.ensures in
    let right_tree = c.tree-right_tree.ensures in
    rows_are_list _ _ _ _ _ _ _ _ (search) (search) left_tree.exact.same right_tree.exact.same left_tree.root right_tree.root (search)
