use Rattle.std.proofs.Common.{Ok, Err}
use Rattle.std.proofs.lemmas.Result.{err_from_is_err_and}
use Rattle.file_core.specs.SkippedRows.{loaded_of}
use Rattle.file_core.proofs.LoadedLemmas.{file_refused}
use Rattle.file_core.proofs.layer_file.LayerReader.features_of_bytes.Goals as goal

pub returns-in_err-loading-clause-file : goal.returns-in_err-loading-clause-file
returns-in_err-loading-clause-file g c =
    let p = err_from_is_err_and c.from_residual.result c.from_residual.ensures.1 in
    rw (p.1, p.2)
    (λ known.
    file_refused (g.F.Format.reads c.args.self.now.format) c.args.bytes.now (Err c.in_err-loading.field-0.0)
    (c.in_err-loading.ensures.file (λ e. known (let fault = e in cc))))

pub returns-clause-file : goal.returns-clause-file
returns-clause-file g c known =
    rw c.in_ok-finish.ensures
    (file_refused (g.F.Format.reads c.args.self.now.format) c.args.bytes.now (Ok (loaded_of c.in_ok-loading.loading))
    (c.in_ok-loading.ensures.file (λ e. let none = e in cc)))
