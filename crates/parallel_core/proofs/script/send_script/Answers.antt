use Rattle.std.proofs.Common.{◌≡◌, rules, arith, ◌∙◌}
use Rattle.std.specs.Slice.Iter.{chunks_rest}
use Rattle.deliver_core.specs.Scripts.{batches_for}
use Rattle.parallel_core.proofs.Results.{err_always}
use Rattle.parallel_core.proofs.Scripts.{no_batches, after_piece, says_batch, says_part, says_script}
use Rattle.parallel_core.proofs.script.send_script.Goals as goal

pub loop-piece-preserved : goal.loop-piece-preserved
loop-piece-preserved g c =
    let so_far = c.loop-piece.invariant in
    let steps = c.in-Some.ensures.steps in
    let next = after_piece c.args.job.now.batch c.loop-piece.number c.args.row.now (chunks_rest c.loop-piece.piece-iterator) c.in-Some.piece.now
    _ c.requires.batch so_far.rest so_far.left steps.1.0 (rw so_far.size at steps.1.1) steps.1.2 in
    record {
      can_next = search rules;
      finite = tt;
      size = steps.0 ∙ so_far.size;
      rest = next.rest_is;
      left = next.left;
      port = search rules;
      said = search (rules, says_batch, next.piece_is);
    }

pub returns-in_err-pairs-clause-err : goal.returns-in_err-pairs-clause-err
returns-in_err-pairs-clause-err g c =
    let so_far = c.loop-piece.invariant in
    err_always (says_part c.args.port.now c.loop-piece.port c.args.task c.args.job.now.batch c.args.row.now (chunks_rest c.loop-piece.piece-iterator)
    c.loop-piece.number so_far.left so_far.said) c.from_residual.result

pub returns-clause-ok : goal.returns-clause-ok
returns-clause-ok g c =
    let so_far = c.loop-piece.invariant in
    let none = no_batches c.args.job.now.batch (chunks_rest c.loop-piece.piece-iterator) c.requires.batch c.in-None.ensures.steps.1.0 in
    let all : c.loop-piece.number ≡ batches_for c.args.job.now.batch c.args.row.now = omega (arith, none, so_far.left) in
    search (rules, says_script, all)
