use Rattle.std.proofs.Common.{Err, ap}
use Rattle.run_core.proofs.LayersLemmas.{built_blamed, first_blamed, unread_by}
use Rattle.run_core.proofs.layers.read_layers.Goals as goal

pub returns-in-Err-clause-fault : goal.returns-in-Err-clause-fault
returns-in-Err-clause-fault g c =
    unread_by (g.F.Format.reads c.args.left_reader.now.format) c.args.unreadable _ _ c.in-Err.ensures.others (λ e. rw c.limits.ensures at (c.in-Err.ensures.too_long (ap Err e)))

pub returns-in-Err-right_built-clause-fault : goal.returns-in-Err-right_built-clause-fault
returns-in-Err-right_built-clause-fault g c =
    first_blamed (g.F.Format.reads c.args.left_reader.now.format) (g.F.Format.reads c.args.right_reader.now.format) c.args.unreadable _ _ _ _ _ _ _ c.in-Ok.ensures.bytes c.build_and_read-left_built.ensures.left
    c.build_and_read-left_built.ensures.right c.in-Err-right_built.is cc

pub returns-in-Err-left_built-clause-fault : goal.returns-in-Err-left_built-clause-fault
returns-in-Err-left_built-clause-fault g c =
    built_blamed (g.F.Format.reads c.args.left_reader.now.format) c.args.unreadable _ _ _ _ c.in-Ok.ensures.bytes c.build_and_read-left_built.ensures.left
    c.in-Err-left_built.is
