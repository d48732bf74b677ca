use Rattle.std.proofs.Common.{map, drop}
use Rattle.usage_core.specs.Tables.{argument_rule}
use Rattle.usage_core.specs.Usage.{AddsRules}
use Rattle.usage_core.proofs.usage.with_arguments.Given as goal

-- a command that comes of the arguments that are left comes of all
abbrev pub invariant-loop-argument : goal.invariant-loop-argument
invariant-loop-argument l =
    (new : _) → AddsRules l.command (map (argument_rule l.value) (drop l.argument-index l.arguments)) new
    → AddsRules l.fn.command (map (argument_rule l.value) l.arguments) new
