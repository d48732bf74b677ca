use Rattle.std.proofs.Common.{◌≡◌, length}
use Rattle.relation_core.specs.JoinRelations.{relation_of}
use Rattle.parallel_core.specs.Offers.{HasOffered}
use Rattle.parallel_core.proofs.alone.offer_all.Given as goal

abbrev pub invariant-loop-task : goal.invariant-loop-task
invariant-loop-task g l = record {
  tasks : l.fused.collector.tasks ≡ length (g.P.Rows.tasks l.rows);
  offered : HasOffered (relation_of l.relation) (g.P.Rows.tasks l.rows) l.batch l.task l.fused;
}
