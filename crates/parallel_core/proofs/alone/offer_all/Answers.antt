use Rattle.std.proofs.Common.{◌∙◌}
use Rattle.relation_core.specs.JoinRelations.{relation_of}
use Rattle.parallel_core.proofs.OfferLemmas.{none_offered, more_offered}
use Rattle.parallel_core.proofs.alone.offer_all.Goals as goal

pub loop-task-init : goal.loop-task-init
loop-task-init g c = record {
  tasks = c.in_ok-fused.ensures.tasks ∙ c.len-tasks.ensures.len;
  offered = none_offered (relation_of c.args.relation.now) (g.P.Rows.tasks c.args.rows.now) c.args.batch c.in_ok-fused.fused c.in_ok-fused.ensures.empty;
}

pub loop-task-preserved : goal.loop-task-preserved
loop-task-preserved g c = record {
  tasks = c.in_ok-offer_script.ensures.tasks ∙ c.loop-task.invariant.tasks;
  offered = more_offered (relation_of c.args.relation.now) (g.P.Rows.tasks c.args.rows.now) c.args.batch c.loop-task.fused c.offer_script.new.fused
      c.loop-task.task c.in_ok-row.row.items c.loop-task.invariant.offered c.in_ok-row.ensures (rw c.deref.ensures.value at c.in_ok-offer_script.ensures);
}
