-- The results of a window of any geometry over the file of a layer.
use Rattle.std.specs.Prelude.{⊤, ℕ, List, Option, Result, Ok, Err}
use Rattle.any_geometry_core.specs.declared.geometry.AnyGeometry.{AnyGeometry}
use Rattle.any_geometry_core.specs.AnyGeometries.{figure_of}
use Rattle.format_core.specs.declared.text_fault.TextFault.TheVariants as text
use Rattle.format_core.specs.Layouts.{Reading, TextReading}
use Rattle.layer_core.specs.Layers.{Contents}
use Rattle.wkt_any_core.specs.declared.fault.GeometryFault.{GeometryFault}
use Rattle.run_core.specs.declared.fault.Input.TheVariants as input
use Rattle.run_core.specs.declared.fault.RunFault.{RunFault}
use Rattle.run_core.specs.declared.fault.RunFault.TheVariants.{Geometry, Memory}
use Rattle.layer_run_core.specs.LayerRuns.{LayerGives, IsLayerRunFault}
use Rattle.layer_run_core.specs.Windows.{IsMeetingList}
use Rattle.any_relation_core.specs.PlaneSets.{Intersect}

-- the list of the features that share a point with a window
abbrev pub IsAnyWindowList : AnyGeometry → Contents AnyGeometry → List ℕ → Type 0
IsAnyWindowList window = IsMeetingList (λ g. Intersect (figure_of g) (figure_of window))

-- that list, or the first fault of the window's text and the layer's file, in this order
pub data AnyWindowGives (reads : Reading AnyGeometry) (wkt : List ℕ) (file : Option (List ℕ))
    : Result (List ℕ) RunFault → Type 0 where
  text_fault : (f : GeometryFault) → reads.text wkt (Err (text.Geometry f))
      → AnyWindowGives reads wkt file (Err (Geometry input.Window f))
  looked_up : (window : AnyGeometry) (answer : Result (List ℕ) RunFault) → reads.text wkt (Ok window)
      → LayerGives (IsAnyWindowList window) reads file answer
      → AnyWindowGives reads wkt file answer

-- a possible fault of a window, except that of its sink
abbrev pub IsAnyWindowFault : Reading AnyGeometry → List ℕ → Option (List ℕ) → RunFault → Type 0
IsAnyWindowFault reads wkt file (Geometry input.Window f) = ⊤
IsAnyWindowFault reads wkt file Memory = ⊤
IsAnyWindowFault reads wkt file fault =
    ((window : AnyGeometry) × reads.text wkt (Ok window)) × IsLayerRunFault reads file fault

-- why a window's text wasn't read: it has this fault, or memory ran out
abbrev pub IsUnread : TextReading AnyGeometry → List ℕ → RunFault → Type 0
IsUnread read wkt (Geometry input.Window f) = read wkt (Err (text.Geometry f))
IsUnread read wkt Memory = ⊤
IsUnread read wkt _ = ⊥
