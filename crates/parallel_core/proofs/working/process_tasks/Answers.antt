use Rattle.std.proofs.Common.{◌∷◌, []}
use Rattle.relation_core.specs.JoinRelations.{relation_of}
use Rattle.parallel_core.proofs.Results.{err_always}
use Rattle.parallel_core.proofs.Workers.{seat_gains, stays_on, said_more, said_part}
use Rattle.parallel_core.proofs.working.process_tasks.Goals as goal

pub loop-preserved : goal.loop-preserved
loop-preserved g c =
    let job = c.args.job.now in
    let number = c.in-Some-drawn.ensures.number in
    record {
      seat = seat_gains _ _ _ _ number c.loop.invariant.seat c.claim-drawn.ensures.seat;
      port = stays_on _ _ c.loop.port _ c.loop.invariant.port c.send_task.ensures.port;
      said = said_more (relation_of job.relation.now) (g.P.Rows.tasks job.rows.now) job.batch c.loop.seat.drawn c.claim-drawn.new.seat.drawn
          (c.in-Some-drawn.task ∷ []) c.loop.port c.send_task.new.port c.in_ok-send_task.ensures.ok number.drawn c.loop.invariant.said;
    }

pub returns-in_err-send_task-clause-seat : goal.returns-in_err-send_task-clause-seat
returns-in_err-send_task-clause-seat g c =
    seat_gains _ _ _ _ c.in-Some-drawn.ensures.number c.loop.invariant.seat c.claim-drawn.ensures.seat

pub returns-in_err-send_task-clause-port : goal.returns-in_err-send_task-clause-port
returns-in_err-send_task-clause-port g c = stays_on _ _ c.loop.port _ c.loop.invariant.port c.send_task.ensures.port

pub returns-in_err-send_task-clause-err : goal.returns-in_err-send_task-clause-err
returns-in_err-send_task-clause-err g c =
    let job = c.args.job.now in
    let number = c.in-Some-drawn.ensures.number in
    err_always (said_part (relation_of job.relation.now) (g.P.Rows.tasks job.rows.now) job.batch c.loop.seat.drawn c.claim-drawn.new.seat.drawn
    (c.in-Some-drawn.task ∷ []) c.loop.port c.send_task.new.port c.in_err-send_task.ensures.err number.drawn c.loop.invariant.said)
    c.from_residual.result
