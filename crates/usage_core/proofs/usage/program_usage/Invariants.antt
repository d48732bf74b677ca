use Rattle.std.proofs.Common.{map, drop}
use Rattle.usage_core.specs.Tables.{shape_told}
use Rattle.usage_core.specs.Usage.{program_usage}
use Rattle.usage_core.proofs.UsageLemmas.{LeavesUsage}
use Rattle.usage_core.proofs.usage.program_usage.Given as goal

-- with the commands that are left the program has its usage
abbrev pub invariant-loop-subcommand : goal.invariant-loop-subcommand
invariant-loop-subcommand l = LeavesUsage l.program (map (shape_told l.value) (drop l.subcommand-index l.subcommands)) (program_usage l.value)
