use Rattle.std.proofs.Common.{arith}
use Rattle.std.proofs.lemmas.Result.{err_from_is_err_and}
use Rattle.relation_core.proofs.MaskLemmas.{behind_row, sooner}
use Rattle.relation_core.proofs.mask.read_rows.Goals as goal

pub returns-in_err-interior-clause-err : goal.returns-in_err-interior-clause-err
returns-in_err-interior-clause-err c =
    let p = err_from_is_err_and c.from_residual.result c.from_residual.ensures.1 in
    rw (p.1, p.2) (sooner c.args.text.now 0 3 9 _ (omega arith) c.in_err-interior.ensures.err)

pub returns-in_err-boundary-clause-err : goal.returns-in_err-boundary-clause-err
returns-in_err-boundary-clause-err c =
    let p = err_from_is_err_and c.from_residual-in_err-boundary.result c.from_residual-in_err-boundary.ensures.1 in
    rw (p.1, p.2) (behind_row c.args.text.now 0 6 9 _ _ (omega arith) c.in_ok-interior.ensures.ok c.in_err-boundary.ensures.err)

pub returns-in_err-exterior-clause-err : goal.returns-in_err-exterior-clause-err
returns-in_err-exterior-clause-err c =
    let p = err_from_is_err_and c.from_residual-in_err-exterior.result c.from_residual-in_err-exterior.ensures.1 in
    rw (p.1, p.2)
    (behind_row c.args.text.now 0 9 9 _ _ (omega arith) c.in_ok-interior.ensures.ok
    (behind_row c.args.text.now 3 9 9 _ _ (omega arith) c.in_ok-boundary.ensures.ok c.in_err-exterior.ensures.err))
