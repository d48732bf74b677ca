use Rattle.std.proofs.Common.{Err, ap}
use Rattle.run_core.proofs.LayersLemmas.{built_reads, unread_layer}
use Rattle.run_core.proofs.layer_input.read_layer.Goals as goal

pub returns-in_err-bytes-clause-reads : goal.returns-in_err-bytes-clause-reads
returns-in_err-bytes-clause-reads g c =
    let read = c.in_err-bytes.ensures in
    unread_layer (g.F.Format.reads c.args.reader.now.format) _ _ c.from_residual.result _ c.from_residual.ensures.1 read.others (λ e. rw c.limits.ensures at (read.too_long (ap Err e)))

pub returns-clause-reads : goal.returns-clause-reads
returns-clause-reads g c =
    built_reads (g.F.Format.reads c.args.reader.now.format) c.args.unreadable _ _ c.build_layer.result c.in_ok-bytes.ensures.bytes c.build_layer.ensures
