use Rattle.rtree_core.specs.Trees.{entries_in}
use Rattle.descent_core.specs.Steps.{nodes_of}
use Rattle.descent_core.proofs.JoinLemmas.{share_out, rows_join}
use Rattle.descent_core.proofs.TopLemmas.{plan_below, shares_plan, tasks_of_plan}
use Rattle.descent_core.proofs.plan.Plan.new.Goals as goal

pub invariant_of-result : goal.invariant_of-result
invariant_of-result c =
    let left = c.args.left.now in
    let right = c.args.right.now in
    let top = c.in_ok-top.ensures in
    let tasks = nodes_of c.in_ok-tasks.tasks.items in
    tasks_of_plan left right c.args.cut tasks top.left_tree top.right_tree
    (plan_below left right (nodes_of c.in_ok-top.top.items) c.args.cut tasks top c.in_ok-tasks.ensures)

pub returns-clause-plan : goal.returns-clause-plan
returns-clause-plan c =
    plan_below c.args.left.now c.args.right.now (nodes_of c.in_ok-top.top.items) c.args.cut (nodes_of c.in_ok-tasks.tasks.items) c.in_ok-top.ensures
    c.in_ok-tasks.ensures

pub returns-clause-share : goal.returns-clause-share
returns-clause-share c =
    let left = c.args.left.now in
    let right = c.args.right.now in
    let top = c.in_ok-top.ensures in
    let tasks = nodes_of c.in_ok-tasks.tasks.items in
    share_out (entries_in left) (entries_in right) tasks top.left_tree.distinct top.right_tree.distinct
    (shares_plan left right c.args.cut tasks top.left_tree top.right_tree
    (plan_below left right (nodes_of c.in_ok-top.top.items) c.args.cut tasks top c.in_ok-tasks.ensures))

pub returns-clause-join : goal.returns-clause-join
returns-clause-join c =
    let left = c.args.left.now in
    let right = c.args.right.now in
    let top = c.in_ok-top.ensures in
    let tasks = nodes_of c.in_ok-tasks.tasks.items in
    rows_join (entries_in left) (entries_in right) tasks top.left_tree.distinct top.right_tree.distinct
    (shares_plan left right c.args.cut tasks top.left_tree top.right_tree
    (plan_below left right (nodes_of c.in_ok-top.top.items) c.args.cut tasks top c.in_ok-tasks.ensures))
