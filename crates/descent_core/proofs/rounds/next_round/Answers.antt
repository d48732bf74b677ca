use Rattle.std.proofs.Common.{arith, []}
use Rattle.std.proofs.lemmas.List.Folds.{flat_map-map}
use Rattle.descent_core.specs.Depths.{lower_pairs}
use Rattle.descent_core.specs.Steps.{nodes, nodes_of, AreMeeting}
use Rattle.descent_core.proofs.TaskLemmas.{task_at}
use Rattle.descent_core.proofs.RoundLemmas.{taken_none, taken_more, too_many, taken_all}
use Rattle.descent_core.proofs.rounds.next_round.Goals as goal

pub loop-task-init : goal.loop-task-init
loop-task-init c = rw c.in_ok-next.ensures.items (taken_none [] (omega arith))

pub push_below-requires-clause-meeting : goal.push_below-requires-clause-meeting
push_below-requires-clause-meeting c =
    task_at AreMeeting c.args.tasks.now c.loop-task.task-index _ c.requires c.loop-task-test.true c.task-item.is

pub returns-then-not-fits : goal.returns-then-not-fits
returns-then-not-fits c =
    rw flat_map-map (too_many (λ t. lower_pairs (nodes t)) c.args.tasks.now c.loop-task.task-index c.task-item.result []
    (nodes_of c.loop-task.next.items) c.loop-task-test.true c.task-item.is c.loop-task.invariant
    (rw c.if-not-fits.true at c.in_ok-fits.ensures))

pub loop-task-preserved : goal.loop-task-preserved
loop-task-preserved c =
    taken_more (λ t. lower_pairs (nodes t)) c.args.tasks.now c.loop-task.task-index c.task-item.result []
    (nodes_of c.loop-task.next.items) c.loop-task-test.true c.task-item.is c.loop-task.invariant _
    (rw c.if-not-fits.false at c.in_ok-fits.ensures)

pub returns : goal.returns
returns c =
    rw flat_map-map (taken_all (λ t. lower_pairs (nodes t)) c.args.tasks.now c.loop-task.task-index [] (nodes_of c.loop-task.next.items)
    (omega (arith, c.loop-task-test.false)) c.loop-task.invariant)
