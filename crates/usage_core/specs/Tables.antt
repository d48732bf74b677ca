-- The declarations in the tables of commands and arguments.
use Rattle.std.specs.Prelude.{map}
use Rattle.clap.specs.Words.{Rule, Shape, Text}
use Rattle.usage_core.specs.Usage.{flag_rule, geometry_rule, numeric_rule, optional_rule}
use Rattle.usage_core.specs.Usage.{positional_rule, required_rule, side_rule, subcommand_shape}
use Rattle.usage_core.specs.Usage.{workers_rule}
use Rattle.usage_core.specs.declared.usage.arguments.Argument.{Argument}
use Rattle.usage_core.specs.declared.usage.arguments.Argument.TheVariants.{Positional, Number}
use Rattle.usage_core.specs.declared.usage.arguments.Argument.TheVariants.{Required, Optional, Side}
use Rattle.usage_core.specs.declared.usage.arguments.Argument.TheVariants.{Flag, Geometry, Workers}
use Rattle.usage_core.specs.declared.usage.workers.WorkersValue.{WorkersValue}
use Rattle.usage_core.specs.declared.usage.Subcommand.{Subcommand}

-- the rule of an argument, where `--workers` takes such a value
abbrev pub argument_rule : WorkersValue → Argument → Rule
argument_rule value (Positional name help) = positional_rule name.now
argument_rule value (Number name help default) = numeric_rule name.now default.now
argument_rule value (Required name help) = required_rule name.now
argument_rule value (Optional name help) = optional_rule name.now
argument_rule value (Side name shown help) = side_rule name.now
argument_rule value (Flag name help) = flag_rule name.now
argument_rule value Workers = workers_rule value
argument_rule value Geometry = geometry_rule

abbrev pub shape_told : WorkersValue → Subcommand → Shape
shape_told value command =
    subcommand_shape command.name.now (map (argument_rule value) command.arguments.now)

abbrev pub about_told : Subcommand → Text
about_told command = command.about.now
