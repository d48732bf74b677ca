use Rattle.relation_core.specs.JoinRelations.{relation_of}
use Rattle.parallel_core.specs.Sending.{said_by, StaysOpen}
use Rattle.parallel_core.specs.Workers.{IsSeatBelow, AreScripts}
use Rattle.parallel_core.proofs.working.process_tasks.Given as goal

abbrev pub invariant-loop : goal.invariant-loop
invariant-loop g l = record {
  seat : IsSeatBelow l.job.board.now l.seat;
  port : StaysOpen l.job.outlet.now l.initial.port l.port;
  said : AreScripts (relation_of l.job.relation.now) (g.P.Rows.tasks l.job.rows.now) l.job.batch l.seat.drawn (said_by l.port);
}
