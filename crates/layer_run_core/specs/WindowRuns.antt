-- The results of a window over the file of a layer.
use Rattle.std.specs.Prelude.{⊤, ℕ, List, Option, Result, Ok, Err}
use Rattle.geom_core.specs.declared.shape.Shape.{Shape}
use Rattle.wkt_core.specs.declared.fault.WktFault.{WktFault}
use Rattle.number_core.specs.declared.scale.Scale.{Scale}
use Rattle.wkt_core.specs.Readings.{Reads}
use Rattle.format_core.specs.declared.layout.Layout.{Layout}
use Rattle.format_core.specs.Formats.{ReadsBox}
use Rattle.format_core.specs.Layouts.{laid_out}
use Rattle.run_core.specs.declared.fault.Input.{Input}
use Rattle.run_core.specs.declared.fault.Input.TheVariants as input
use Rattle.run_core.specs.declared.fault.RunFault.{RunFault}
use Rattle.run_core.specs.declared.fault.RunFault.TheVariants.{Wkt}
use Rattle.layer_run_core.specs.LayerRuns.{LayerGives, IsLayerRunFault}
use Rattle.layer_run_core.specs.Windows.{IsWindowList}

-- the list of the features that meet the window, or the first fault of the window's text and the
-- layer's file with this layout, in this order
pub data WindowGives (layout : Layout) (scale : Scale) (wkt : List ℕ) (file : Option (List ℕ))
    : Result (List ℕ) RunFault → Type 0 where
  text_fault : (f : WktFault) → Reads scale wkt (Err f)
      → WindowGives layout scale wkt file (Err (Wkt input.Window f))
  looked_up : (window : Shape) (answer : Result (List ℕ) RunFault) → Reads scale wkt (Ok window)
      → LayerGives (IsWindowList window) (laid_out layout (ReadsBox scale)) file answer
      → WindowGives layout scale wkt file answer

-- the fault of the window's text
abbrev pub HasWindowFault : Scale → List ℕ → Input → WktFault → Type 0
HasWindowFault scale wkt input.Window f = Reads scale wkt (Err f)
HasWindowFault scale wkt _ f = ⊥

-- a possible fault of a window, except that of its sink; one of the layer, or of memory, comes only
-- if the text spells a shape
abbrev pub IsWindowFault : Layout → Scale → List ℕ → Option (List ℕ) → RunFault → Type 0
IsWindowFault layout scale wkt file (Wkt input.Window f) = ⊤
IsWindowFault layout scale wkt file fault =
    ((window : Shape) × Reads scale wkt (Ok window))
    × IsLayerRunFault (laid_out layout (ReadsBox scale)) file fault
