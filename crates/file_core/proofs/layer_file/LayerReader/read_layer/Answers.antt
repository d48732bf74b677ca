use Rattle.std.proofs.Common.{Err, ap}
use Rattle.std.proofs.lemmas.Result.{err_from_is_err_and}
use Rattle.file_core.specs.LayerFiles.{LayerRowGives}
use Rattle.row_core.specs.LayerRows.{form_at}
use Rattle.layer_core.specs.Layers.{empty}
use Rattle.row_core.proofs.FileLemmas.{table-unread}
use Rattle.file_core.proofs.layer_file.LayerReader.read_layer.Goals as goal

pub returns-in_err-bytes-clause-file : goal.returns-in_err-bytes-clause-file
returns-in_err-bytes-clause-file g c =
    let read = c.in_err-bytes.ensures in
    let p = err_from_is_err_and c.from_residual.result c.from_residual.ensures.1 in
    rw (p.1, p.2)
    (λ no_io no_memory.
    let reads = g.F.Format.reads c.args.self.now.format in
    table-unread reads.limits reads.layout (λ places. LayerRowGives (form_at reads places)) empty (g.S.Source.remaining c.args.source.now) c.in_err-bytes.field-0.0 read.others
    (λ e. rw c.limits.ensures at (read.too_long (ap Err e)))
    (λ e. no_io (ap Err e)) (λ e. no_memory (ap Err e)))
