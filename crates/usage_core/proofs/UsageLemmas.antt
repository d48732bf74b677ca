-- How a command gets its usage.
use Rattle.std.proofs.Common.{ℕ, Bool, true, false, List, [], ◌∷◌, ◌++◌, ◌+◌, ◌<◌, ◌≤◌, ◌≡◌, ◌∙◌, ◌||◌, add-one, ap, ap₂, append_assoc, drop, get_or, length, map, refl, sym}
use Rattle.std.proofs.Math.Seq.{drop-cons}
use Rattle.std.proofs.lemmas.List.{at_drop_all}
use Rattle.clap.specs.Words.{AddsArg, AddsSubcommand, App, Rule, Shape, Text, app_of, is_simple, is_simple_and_free, with_rule, with_subcommand}
use Rattle.clap.specs.declared.builder.arg.Arg.{Arg}
use Rattle.clap.specs.declared.builder.command.Command.{Command}
use Rattle.clap.specs.declared.builder.command.Command.TheViews.{out-Command as fields_of}
use Rattle.usage_core.specs.Tables.{argument_rule, shape_told}
use Rattle.usage_core.specs.Usage.{AddsRules, HasUsage, IsArgument, IsBegun, program_shape, program_usage, subcommand_shapes, usage_of, with_rules, workers_value}
use Rattle.usage_core.specs.declared.usage.arguments.Argument.{Argument}
use Rattle.usage_core.specs.declared.usage.workers.WorkersValue.{WorkersValue}
use Rattle.usage_core.specs.declared.usage.workers.WorkersValue.TheVariants.{Number, Text as AnyText}
use Rattle.usage_core.specs.declared.usage.Subcommand.{Subcommand}

is_simple_with : (value : WorkersValue) → is_simple (program_usage value) ≡ true
is_simple_with Number = refl
is_simple_with AnyText = refl

is_free_with : (value : WorkersValue) → is_simple_and_free (program_usage value) ≡ true
is_free_with Number = refl
is_free_with AnyText = refl

-- the usage is one that `clap` specifies whole
pub is_simple_usage : (words : List Text) → is_simple (usage_of words) ≡ true
is_simple_usage words = is_simple_with (workers_value words)

pub is_free_usage : (words : List Text) → is_simple_and_free (usage_of words) ≡ true
is_free_usage words = is_free_with (workers_value words)

or_false : (b : Bool) → (b || false) ≡ b
or_false true = refl
or_false false = refl

-- one argument is added
pub adds_one : (rule : Rule) (old new : Command) (arg : Arg) → AddsArg old arg new → IsArgument rule arg → AddsRules old (rule ∷ []) new
adds_one rule old new arg added is =
    record {
      shape = added.shape is.local ∙ ap (with_rule (app_of old)) is.rule;
      globals = added.globals ∙ ap (λ b. (fields_of old).has_globals || b) is.local
          ∙ or_false (fields_of old).has_globals;
    }

-- arguments are added, and then others
pub adds_then : (rules more : List Rule) (old mid new : Command) → AddsRules old rules mid → AddsRules mid more new → AddsRules old (rules ++ more) new
adds_then rules more old mid new first second = record {
  shape = second.shape ∙ ap (λ a. with_rules a more) first.shape ∙ ap (λ rs. with_all (app_of old) rs) (append_assoc (app_of old).top.rules rules more);
  globals = second.globals ∙ first.globals;
}
  where
    with_all : App → List Rule → App
    with_all a rs = record a { top = record a.top { rules = rs } }

-- the next of the arguments is added, and then the others
pub adds_next : (value : WorkersValue) (arguments : List Argument) (i : ℕ) (d : Argument) (old mid new : Command) (arg : Arg) → i < length arguments → AddsArg old arg mid
    → IsArgument (argument_rule value (get_or arguments i d)) arg → AddsRules mid (map (argument_rule value) (drop (i + 1) arguments)) new
    → AddsRules old (map (argument_rule value) (drop i arguments)) new
adds_next value arguments i d old mid new arg within added is others =
    let first = argument_rule value (get_or arguments i d) in
    let left : drop i arguments ≡ get_or arguments i d ∷ drop (i + 1) arguments = rw add-one (drop-cons arguments i d within) in
    rw left (adds_then (first ∷ []) (map (argument_rule value) (drop (i + 1) arguments)) old mid new (adds_one first old mid arg added is) others)

abbrev pub with_subcommands : App → List Shape → App
with_subcommands usage [] = usage
with_subcommands usage (shape ∷ more) = with_subcommands (with_subcommand usage shape) more

-- the command has this usage once commands of these shapes are added
pub record LeavesUsage (command : Command) (shapes : List Shape) (usage : App) : Type 0 where
  pub shape : with_subcommands (app_of command) shapes ≡ usage
  pub local : (fields_of command).has_globals ≡ false

-- the next of the commands is added
pub adds_command : (value : WorkersValue) (commands : List Subcommand) (i : ℕ) (d : Subcommand) (usage : App) (old sub new : Command) → i < length commands
    → HasUsage (record { top = shape_told value (get_or commands i d); subs = [] }) sub → AddsSubcommand old sub new
    → LeavesUsage old (map (shape_told value) (drop i commands)) usage → LeavesUsage new (map (shape_told value) (drop (i + 1) commands)) usage
adds_command value commands i d usage old sub new within is added leaves =
    let first = shape_told value (get_or commands i d) in
    let rest = map (shape_told value) (drop (i + 1) commands) in
    let left : drop i commands ≡ get_or commands i d ∷ drop (i + 1) commands = rw add-one (drop-cons commands i d within) in
    let grown : app_of new ≡ with_subcommand (app_of old) first = added.shape is.local ∙ ap (λ (a : App). with_subcommand (app_of old) a.top) is.shape in
    let before : with_subcommands (with_subcommand (app_of old) first) rest ≡ usage = rw left at leaves.shape in
    record {
      shape = ap (λ a. with_subcommands a rest) grown ∙ before;
      local = added.globals ∙ ap₂ (λ a b. a || b) leaves.local is.local;
    }

-- all commands are left to add
pub leaves_all : (value : WorkersValue) (about : Text) (begun : Command) (shapes : List Shape) → IsBegun program_shape about begun
    → shapes ≡ subcommand_shapes value → LeavesUsage begun shapes (program_usage value)
leaves_all value about begun shapes is same = record { shape = ap₂ with_subcommands is.shape same; local = is.local }

-- no command is left
pub leaves_none : (value : WorkersValue) (commands : List Subcommand) (i : ℕ) (usage : App) (command : Command) → length commands ≤ i
    → LeavesUsage command (map (shape_told value) (drop i commands)) usage → HasUsage usage command
leaves_none value commands i usage command past leaves =
    record { shape = sym (at_drop_all (λ left. with_subcommands (app_of command) (map (shape_told value) left)) commands i past) ∙ leaves.shape; local = leaves.local }
