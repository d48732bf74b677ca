use Rattle.usage_core.proofs.UsageLemmas.{adds_command, leaves_all, leaves_none}
use Rattle.usage_core.proofs.usage.program_usage.Goals as goal

pub loop-subcommand-init : goal.loop-subcommand-init
loop-subcommand-init c = leaves_all c.args.value _ _ _ c.program_begun-program.ensures (let are = c.subcommands-table.ensures c.args.value in cc)

pub loop-subcommand-preserved : goal.loop-subcommand-preserved
loop-subcommand-preserved c =
    adds_command c.args.value c.as_slice-subcommands.result.now _ _ _ _ _ _ c.loop-subcommand-test.true c.in_ok-command.ensures c.in_ok-program.ensures
    c.loop-subcommand.invariant

pub returns : goal.returns
returns c = leaves_none c.args.value c.as_slice-subcommands.result.now _ _ _ c.loop-subcommand-test.false c.loop-subcommand.invariant
