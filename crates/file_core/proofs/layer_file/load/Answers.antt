use Rattle.std.proofs.Common.{Err, ap, refl}
use Rattle.std.proofs.lemmas.Result.{err_from_is_err_and}
use Rattle.file_core.proofs.BatchLemmas.{file_read}
use Rattle.file_core.proofs.layer_file.load.Goals as goal

pub returns-in_err-unread-clause-file : goal.returns-in_err-unread-clause-file
returns-in_err-unread-clause-file g c =
    let fault = c.in_err-unread.field-0.0 in
    let p = err_from_is_err_and c.from_residual.result c.from_residual.ensures.1 in
    rw (p.1, p.2) (λ known. (Err fault, rw (c.limits.ensures, c.layout.ensures) at (c.in_err-unread.ensures.err (λ e. known (ap Err e))), refl))

pub returns-clause-file : goal.returns-clause-file
returns-clause-file g c known =
    file_read (g.F.Format.reads c.args.format) c.args.unreadable c.args.bytes.now _ _ _ _ _ _ c.limits.ensures c.layout.ensures c.in_ok-unread.ensures.ok
    c.in_ok-loading.ensures (c.add_all.ensures.rows known)
