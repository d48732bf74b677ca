use Rattle.command_core.proofs.ImproperLemmas.{HasRows}
use Rattle.command_core.proofs.improper_rows.push_rows.Given as goal

abbrev pub invariant-loop-row : goal.invariant-loop-row
invariant-loop-row l = HasRows l.line.bytes l.initial.line.bytes l.few l.row-index
