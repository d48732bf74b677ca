use Rattle.std.proofs.Common.{Err, ap}
use Rattle.run_core.proofs.LayersLemmas.{unread}
use Rattle.run_core.proofs.layer_input.read_features.Goals as goal

pub returns-in_err-bytes-clause-reads : goal.returns-in_err-bytes-clause-reads
returns-in_err-bytes-clause-reads g c =
    let read = c.in_err-bytes.ensures in
    unread (g.F.Format.reads c.args.reader.now.format) _ c.from_residual.result _ c.from_residual.ensures.1 read.others (λ e. rw c.limits.ensures at (read.too_long (ap Err e)))
