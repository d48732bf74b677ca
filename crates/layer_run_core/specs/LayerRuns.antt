-- The results of a run over the file of one layer.
use Rattle.std.specs.Prelude.{⊤, ℕ, List, Option, Result, Ok, Err}
use Rattle.format_core.specs.Layouts.{Reading}
use Rattle.row_core.specs.declared.read_fault.ReadFault.{ReadFault}
use Rattle.layer_core.specs.Layers.{Contents}
use Rattle.run_core.specs.declared.fault.Input.TheVariants as input
use Rattle.run_core.specs.declared.fault.RunFault.{RunFault}
use Rattle.run_core.specs.declared.fault.RunFault.TheVariants.{Read, Memory}
use Rattle.run_core.specs.Inputs.{GivesLayer, LayerFile}

-- a text of this kind, made of the layer of the file, or the fault of the file
pub data LayerGives {G : Type 0} (IsTextOf : Contents G → List ℕ → Type 0) (reads : Reading G)
    (file : Option (List ℕ)) : Result (List ℕ) RunFault → Type 0 where
  layer_fault : (f : ReadFault) → LayerFile reads file (Err f)
      → LayerGives IsTextOf reads file (Err (Read input.Layer f))
  made : (layer : Contents G) (text : List ℕ) → LayerFile reads file (Ok layer)
      → IsTextOf layer text → LayerGives IsTextOf reads file (Ok text)

-- a possible fault of such a run, except that of its sink: one of the layer, or lack of memory once
-- there is a layer
abbrev pub IsLayerRunFault : {G : Type 0} → Reading G → Option (List ℕ) → RunFault → Type 0
IsLayerRunFault reads file (Read input.Layer f) = ⊤
IsLayerRunFault reads file Memory = GivesLayer reads file
IsLayerRunFault reads file _ = ⊥
