-- The `clap` definition of the program: the commands, and the rules for their arguments.
use Rattle.std.specs.Prelude.{◌≡◌, List, [], ◌∷◌, ◌++◌, Some, codes, true, false, pos, option_map}
use Rattle.std.specs.Prelude.{◌&&◌, ◌||◌, Bool, if◌then◌else◌}
use Rattle.std.specs.Str.{bytes_eq}
use Rattle.clap.specs.Words.{App, Rule, Shape, Text, app_of, new_rule, rule_of}
use Rattle.clap.specs.declared.builder.command.Command.TheViews.{out-Command as fields_of}
use Rattle.clap.specs.Simple.{new_shape, on_top}
use Rattle.clap.specs.declared.builder.action.ArgAction.TheVariants.{SetTrue}
use Rattle.clap.specs.declared.builder.arg.Arg.{Arg}
use Rattle.clap.specs.declared.builder.command.Command.{Command}
use Rattle.clap.specs.declared.builder.value_parser.ValueParser.TheVariants.{Signed}
use Rattle.usage_core.specs.declared.usage.workers.WorkersValue.{WorkersValue}
use Rattle.usage_core.specs.declared.usage.workers.WorkersValue.TheVariants.{Number, Text as AnyText}

-- ---- arguments

-- a required positional argument
abbrev pub positional_rule : Text → Rule
positional_rule name = record (new_rule name) { required = true }

-- `--name`, an unsigned integer of 32 bits, and its default
abbrev pub numeric_rule : Text → Text → Rule
numeric_rule name default = record (new_rule name) {
  long = Some name;
  parser = Some (Signed (pos 0) (pos 4294967295));
  defaults = default ∷ [];
}

abbrev pub scale_rule : Rule
scale_rule = numeric_rule (codes "scale") (codes "0")

-- `--name`, a text, which is required
abbrev pub required_rule : Text → Rule
required_rule name = record (new_rule name) { long = Some name; required = true }

-- `--name`, a text
abbrev pub optional_rule : Text → Rule
optional_rule name = record (new_rule name) { long = Some name }

-- `--name`, a text, which has a name of its own in the help
abbrev pub side_rule : Text → Rule
side_rule name = record (new_rule name) { long = Some name; value_names = 1 }

-- `--name`, which takes no value
abbrev pub flag_rule : Text → Rule
flag_rule name = record (new_rule name) { long = Some name; action = Some SetTrue }

-- `--name`, any text, and its default
abbrev pub default_rule : Text → Text → Rule
default_rule name default = record (new_rule name) { long = Some name; defaults = default ∷ [] }

-- `--workers`, which is 4 by default
abbrev pub workers_rule : WorkersValue → Rule
workers_rule Number = numeric_rule (codes "workers") (codes "4")
workers_rule AnyText = default_rule (codes "workers") (codes "4")

abbrev pub edits_rule : Rule
edits_rule = optional_rule (codes "edits")

abbrev pub skip_rule : Rule
skip_rule = optional_rule (codes "skip")

-- `--geometry`, which is `box` by default
abbrev pub geometry_rule : Rule
geometry_rule = default_rule (codes "geometry") (codes "box")

abbrev pub rings_rule : Rule
rings_rule = optional_rule (codes "rings")

-- the rules of how numbers are written, which all commands have
abbrev pub number_rules : List Rule
number_rules = scale_rule ∷ flag_rule (codes "round") ∷ []

-- the rules of how geometries of any kind are written
abbrev pub format_rules : List Rule
format_rules = number_rules ++ geometry_rule ∷ rings_rule ∷ []

-- the rules of how the files of layers are laid out, and geometries written
abbrev pub file_rules : List Rule
file_rules = format_rules ++ optional_rule (codes "columns") ∷ optional_rule (codes "delimiter") ∷ []

-- the rules of how the file of either layer is laid out
abbrev pub side_rules : List Rule
side_rules =
    side_rule (codes "left-columns") ∷ side_rule (codes "right-columns")
    ∷ side_rule (codes "left-delimiter") ∷ side_rule (codes "right-delimiter") ∷ []

abbrev pub both_file_rules : List Rule
both_file_rules = file_rules ++ side_rules

-- ---- commands

abbrev pub layer_rules : List Rule
layer_rules = positional_rule (codes "LEFT") ∷ positional_rule (codes "RIGHT") ∷ []

-- which output a join makes in place of its report
abbrev pub product_rules : List Rule
product_rules =
    flag_rule (codes "pairs") ∷ flag_rule (codes "first") ∷ flag_rule (codes "count")
    ∷ flag_rule (codes "unmatched") ∷ []

abbrev pub relation_rules : List Rule
relation_rules =
    required_rule (codes "relation") ∷ product_rules ++ edits_rule ∷ skip_rule ∷ []

abbrev pub picture_rules : List Rule
picture_rules = required_rule (codes "relation") ∷ edits_rule ∷ skip_rule ∷ []

abbrev pub distance_rules : List Rule
distance_rules =
    required_rule (codes "distance") ∷ flag_rule (codes "apart") ∷ edits_rule ∷ skip_rule ∷ []

abbrev pub query_rules : List Rule
query_rules =
    numeric_rule (codes "most") (codes "1") ∷ optional_rule (codes "distance") ∷ edits_rule
    ∷ skip_rule ∷ []

abbrev pub option_rules : WorkersValue → List Rule
option_rules value =
    workers_rule value ∷ numeric_rule (codes "batch") (codes "256")
    ∷ numeric_rule (codes "cut") (codes "2") ∷ []

abbrev pub join_rules : WorkersValue → List Rule
join_rules value = layer_rules ++ relation_rules ++ option_rules value ++ both_file_rules

abbrev pub draw_rules : WorkersValue → List Rule
draw_rules value = layer_rules ++ picture_rules ++ option_rules value ++ both_file_rules

abbrev pub near_rules : WorkersValue → List Rule
near_rules value = layer_rules ++ distance_rules ++ option_rules value ++ both_file_rules

abbrev pub nearest_rules : WorkersValue → List Rule
nearest_rules value = layer_rules ++ query_rules ++ option_rules value ++ both_file_rules

abbrev pub relate_rules : List Rule
relate_rules = positional_rule (codes "A") ∷ positional_rule (codes "B") ∷ format_rules

abbrev pub window_rules : List Rule
window_rules = positional_rule (codes "LAYER") ∷ positional_rule (codes "WKT") ∷ file_rules

-- the rules of `stats` and of `bounds`
abbrev pub layer_only_rules : List Rule
layer_only_rules = positional_rule (codes "LAYER") ∷ file_rules

abbrev pub subcommand_shape : Text → List Rule → Shape
subcommand_shape name rules = record (new_shape name) { rules = rules }

abbrev pub subcommand_shapes : WorkersValue → List Shape
subcommand_shapes value =
    subcommand_shape (codes "relate") relate_rules
    ∷ subcommand_shape (codes "join") (join_rules value)
    ∷ subcommand_shape (codes "near") (near_rules value)
    ∷ subcommand_shape (codes "nearest") (nearest_rules value)
    ∷ subcommand_shape (codes "draw") (draw_rules value)
    ∷ subcommand_shape (codes "window") window_rules
    ∷ subcommand_shape (codes "stats") layer_only_rules
    ∷ subcommand_shape (codes "bounds") layer_only_rules ∷ []

-- the program, which requires a command
abbrev pub program_shape : Shape
program_shape = record (new_shape (codes "rjoin")) {
  has_version = true;
  subcommand_required = true;
}

abbrev pub program_usage : WorkersValue → App
program_usage value = record {
  top = record program_shape { is_leaf = false };
  subs = subcommand_shapes value;
}

-- ---- the value of `--workers`

-- before a word `--`, `--workers=auto` stands among these words, or `auto` behind `--workers`,
-- which may be the word before them
abbrev pub auto_follows : Bool → Text → Bool
auto_follows is_named word =
    bytes_eq word (codes "--workers=auto") || (is_named && bytes_eq word (codes "auto"))

unfoldable pub has_auto : Bool → List Text → Bool
has_auto is_named [] = false
has_auto is_named (word ∷ rest) =
    if bytes_eq word (codes "--") then false
    else (if auto_follows is_named word then true
    else has_auto (bytes_eq word (codes "--workers")) rest)

-- the words give `--workers` any text where it is `auto`, and else a number
abbrev pub workers_value : List Text → WorkersValue
workers_value words = if has_auto false words then AnyText else Number

-- the usage by which the words are read
abbrev pub usage_of : List Text → App
usage_of words = program_usage (workers_value words)

-- ---- the descriptions of the commands

abbrev pub program_about : Text
program_about = codes "Joins two layers of geometries by a spatial relation"

abbrev pub relate_about : Text
relate_about = codes "Writes the DE-9IM matrix of two geometries"

abbrev pub join_about : Text
join_about = codes "Writes the pairs of features of two layers that stand in a relation"

abbrev pub near_about : Text
near_about = codes "Writes the pairs of features of two layers that are at most a distance apart"

abbrev pub nearest_about : Text
nearest_about =
    codes "Writes for each feature of a layer the nearest ones of another, with distances"

abbrev pub draw_about : Text
draw_about =
    codes "Writes a picture of two layers and of the pairs that stand in a relation, as SVG"

abbrev pub window_about : Text
window_about = codes "Writes the ids of the features of a layer that meet a geometry"

abbrev pub stats_about : Text
stats_about = codes "Counts the features of a layer by kind, and the levels of its tree"

abbrev pub bounds_about : Text
bounds_about = codes "Writes the corners of the features of a layer"

-- ---- what the code declares

-- the argument has this declaration, and belongs to its command only
pub record IsArgument (declared : Rule) (arg : Arg) : Type 0 where
  pub rule : rule_of arg ≡ declared
  pub local : arg.global ≡ false

-- the command has no argument and no subcommand yet, and this is its description
pub record IsBegun (begun : Shape) (text : Text) (command : Command) : Type 0 where
  pub shape : app_of command ≡ record { top = begun; subs = [] }
  pub about : option_map (λ about. about.now) (fields_of command).about ≡ Some text
  pub local : (fields_of command).has_globals ≡ false

-- the command with these arguments added, none of which is passed to subcommands
abbrev pub with_rules : App → List Rule → App
with_rules app rules = on_top (λ shape. record shape { rules = shape.rules ++ rules }) app

pub record AddsRules (old : Command) (rules : List Rule) (new : Command) : Type 0 where
  pub shape : app_of new ≡ with_rules (app_of old) rules
  pub globals : (fields_of new).has_globals ≡ (fields_of old).has_globals

-- the command has this usage, and no argument that is passed to subcommands
pub record HasUsage (usage : App) (command : Command) : Type 0 where
  pub shape : app_of command ≡ usage
  pub local : (fields_of command).has_globals ≡ false
