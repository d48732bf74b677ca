use Rattle.std.proofs.Common.{rules}
use Rattle.command_core.proofs.CommandLemmas.{write_failed}
use Rattle.command_core.proofs.relating.relate_any.Goals as goal

pub returns-in_err-write_text-clause-writes : goal.returns-in_err-write_text-clause-writes
returns-in_err-write_text-clause-writes g c =
    write_failed _ _ _ _ _ _ _ c.matrix_line-line.result c.from_residual-in_err-write_text.ensures.1
    (c.in_ok-related.related, c.in_ok-related.ensures.related, c.matrix_line-line.ensures) c.in_err-write_text.ensures.err (search rules)
