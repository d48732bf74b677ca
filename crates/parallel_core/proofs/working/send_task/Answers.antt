use Rattle.relation_core.specs.JoinRelations.{relation_of}
use Rattle.parallel_core.proofs.Results.{err_always, err_weaker, ok_weaker}
use Rattle.parallel_core.proofs.Workers.{says_nothing, says_one, says_part_of_one}
use Rattle.parallel_core.proofs.working.send_task.Goals as goal

pub returns-in_err-row-clause-err : goal.returns-in_err-row-clause-err
returns-in_err-row-clause-err g c =
    let job = c.args.job.now in
    err_always (says_nothing (relation_of job.relation.now) (g.P.Rows.tasks job.rows.now) job.batch c.args.task c.args.port.now) c.from_residual.result

pub returns-clause-ok : goal.returns-clause-ok
returns-clause-ok g c =
    let job = c.args.job.now in
    ok_weaker (λ says. says_one (relation_of job.relation.now) (g.P.Rows.tasks job.rows.now) job.batch c.args.task c.in_ok-row.row.items c.deref.result.now
    c.args.port.now c.send_script.new.port says c.deref.ensures.value c.in_ok-row.ensures) c.send_script.result c.send_script.ensures.ok

pub returns-clause-err : goal.returns-clause-err
returns-clause-err g c =
    let job = c.args.job.now in
    err_weaker (λ part. says_part_of_one (relation_of job.relation.now) (g.P.Rows.tasks job.rows.now) job.batch c.args.task c.in_ok-row.row.items
    c.deref.result.now c.args.port.now c.send_script.new.port part c.deref.ensures.value c.in_ok-row.ensures) c.send_script.result
    c.send_script.ensures.err
