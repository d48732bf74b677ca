use Rattle.std.proofs.Common.{arith}
use Rattle.std.proofs.lemmas.Result.{err_from_is_err_and}
use Rattle.relation_core.proofs.MaskLemmas.{bad_first, bad_second, bad_third}
use Rattle.relation_core.proofs.mask.read_row.Goals as goal

pub returns-in_err-interior-clause-err : goal.returns-in_err-interior-clause-err
returns-in_err-interior-clause-err c =
    let p = err_from_is_err_and c.from_residual.result c.from_residual.ensures.1 in
    rw (p.1, p.2) (bad_first c.args.text.now c.args.first _ c.in_err-interior.ensures.err)

pub returns-in_err-boundary-clause-err : goal.returns-in_err-boundary-clause-err
returns-in_err-boundary-clause-err c =
    let p = err_from_is_err_and c.from_residual-in_err-boundary.result c.from_residual-in_err-boundary.ensures.1 in
    rw (p.1, p.2) (bad_second c.args.text.now c.args.first _ c.in_ok-interior.interior _ (omega arith) c.in_ok-interior.ensures.ok c.in_err-boundary.ensures.err)

pub returns-in_err-exterior-clause-err : goal.returns-in_err-exterior-clause-err
returns-in_err-exterior-clause-err c =
    let p = err_from_is_err_and c.from_residual-in_err-exterior.result c.from_residual-in_err-exterior.ensures.1 in
    rw (p.1, p.2)
    (bad_third c.args.text.now c.args.first _ _ c.in_ok-interior.interior c.in_ok-boundary.boundary _ (omega arith) (omega arith)
    c.in_ok-interior.ensures.ok c.in_ok-boundary.ensures.ok c.in_err-exterior.ensures.err)
