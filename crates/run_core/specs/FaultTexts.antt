-- The texts of the faults of a run.
use Rattle.std.specs.Prelude.{ℕ, List, ◌++◌, codes}
use Rattle.wkt_core.specs.FaultTexts.{wkt_text}
use Rattle.wkt_any_core.specs.FaultTexts.{geometry_text}
use Rattle.layer_core.specs.FaultTexts.{layer_text}
use Rattle.row_core.specs.FaultTexts.{read_text, row_text}
use Rattle.parallel_core.specs.Faults.{join_text}
use Rattle.run_core.specs.declared.fault.Input.{Input}
use Rattle.run_core.specs.declared.fault.Input.TheVariants.{First, Second, Left, Right, Edits}
use Rattle.run_core.specs.declared.fault.Input.TheVariants.{Layer, Window}
use Rattle.run_core.specs.declared.fault.RunFault.{RunFault}
use Rattle.run_core.specs.declared.fault.RunFault.TheVariants as run

abbrev pub input_word : Input → List ℕ
input_word First = codes "first"
input_word Second = codes "second"
input_word Left = codes "left"
input_word Right = codes "right"
input_word Edits = codes "edits"
input_word Layer = codes "layer"
input_word Window = codes "window"

abbrev pub run_text : RunFault → List ℕ
run_text (run.NoFile input) = input_word input ++ codes ": cannot be opened"
run_text (run.Read input fault) = input_word input ++ (codes ": " ++ read_text fault)
run_text (run.Wkt input fault) = input_word input ++ (codes ": " ++ wkt_text fault)
run_text (run.Geometry input fault) = input_word input ++ (codes ": " ++ geometry_text fault)
run_text (run.Edit n fault) = codes "edits: " ++ (row_text n ++ layer_text fault)
run_text (run.Join fault) = join_text fault
run_text run.TooManyToDraw = codes "more than 100000 features to draw"
run_text run.Write = codes "write failed"
run_text run.NotStored = codes "skip: cannot be written"
run_text run.Memory = codes "no memory"
run_text run.NoKeys = codes "no random keys for hashing"
