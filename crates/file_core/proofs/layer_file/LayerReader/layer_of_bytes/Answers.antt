use Rattle.std.proofs.lemmas.Result.{err_from_is_err_and}
use Rattle.file_core.proofs.layer_file.LayerReader.layer_of_bytes.Goals as goal

pub returns-in_err-loading-clause-file : goal.returns-in_err-loading-clause-file
returns-in_err-loading-clause-file g c =
    let p = err_from_is_err_and c.from_residual.result c.from_residual.ensures.1 in
    rw (p.1, p.2) (λ known. rw c.as_slice.ensures.value at (c.in_err-loading.ensures.file (λ e. known (let fault = e in cc))))
