-- The results and the faults of a command over one layer, by the kind of geometries.
use Rattle.std.specs.Prelude.{ℕ, List, Option, Result}
use Rattle.number_core.specs.declared.scale.Scale.{Scale}
use Rattle.any_geometry_core.specs.AnyGeometries.{box_of}
use Rattle.format_core.specs.declared.layout.Layout.{Layout}
use Rattle.format_core.specs.Formats.{ReadsAny, ReadsBox}
use Rattle.format_core.specs.Layouts.{laid_out}
use Rattle.run_core.specs.declared.fault.RunFault.{RunFault}
use Rattle.layer_run_core.specs.Bounds.{ListsCorners}
use Rattle.layer_run_core.specs.LayerRuns.{LayerGives, IsLayerRunFault}
use Rattle.layer_run_core.specs.StatsTexts.{AreCounts}
use Rattle.layer_run_core.specs.WindowRuns.{WindowGives, IsWindowFault}
use Rattle.layer_run_core.specs.AnyStats.{AreAnyCounts}
use Rattle.layer_run_core.specs.AnyWindows.{AnyWindowGives, IsAnyWindowFault}
use Rattle.words_core.specs.declared.condition.Geometries.{Geometries}
use Rattle.words_core.specs.declared.condition.Geometries.TheVariants.{Box, Any}

-- the result of a window with this text over the file of a layer
abbrev pub GivesWindow : Geometries → Layout → Scale → List ℕ → Option (List ℕ)
    → Result (List ℕ) RunFault → Type 0
GivesWindow Box layout scale wkt file = WindowGives layout scale wkt file
GivesWindow (Any rings) layout scale wkt file =
    AnyWindowGives (laid_out layout (ReadsAny scale rings)) wkt file

-- the counts of the layer of a file
abbrev pub GivesCounts : Geometries → Layout → Scale → Option (List ℕ)
    → Result (List ℕ) RunFault → Type 0
GivesCounts Box layout scale file = LayerGives AreCounts (laid_out layout (ReadsBox scale)) file
GivesCounts (Any rings) layout scale file =
    LayerGives AreAnyCounts (laid_out layout (ReadsAny scale rings)) file

-- the corners of the features of the layer of a file
abbrev pub GivesCorners : Geometries → Layout → Scale → Option (List ℕ)
    → Result (List ℕ) RunFault → Type 0
GivesCorners Box layout scale file =
    LayerGives (ListsCorners (λ s. s)) (laid_out layout (ReadsBox scale)) file
GivesCorners (Any rings) layout scale file =
    LayerGives (ListsCorners box_of) (laid_out layout (ReadsAny scale rings)) file

-- a possible fault of a window, except that of its sink
abbrev pub IsWindowFaultOf : Geometries → Layout → Scale → List ℕ → Option (List ℕ) → RunFault
    → Type 0
IsWindowFaultOf Box layout scale wkt file = IsWindowFault layout scale wkt file
IsWindowFaultOf (Any rings) layout scale wkt file =
    IsAnyWindowFault (laid_out layout (ReadsAny scale rings)) wkt file

-- a possible fault of a text made of a layer, except that of its sink
abbrev pub IsLayerFaultOf : Geometries → Layout → Scale → Option (List ℕ) → RunFault → Type 0
IsLayerFaultOf Box layout scale file = IsLayerRunFault (laid_out layout (ReadsBox scale)) file
IsLayerFaultOf (Any rings) layout scale file =
    IsLayerRunFault (laid_out layout (ReadsAny scale rings)) file
