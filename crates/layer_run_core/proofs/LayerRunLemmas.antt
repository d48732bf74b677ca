-- The text that a run makes of one layer.
use Rattle.std.proofs.Common.{ℕ, List, Option, Result, Ok, Err, IfOk}
use Rattle.layer_core.specs.Layers.{Contents}
use Rattle.format_core.specs.Layouts.{Reading}
use Rattle.run_core.specs.declared.fault.RunFault.{RunFault}
use Rattle.run_core.specs.declared.text.Text.{Text}
use Rattle.run_core.specs.Inputs.{LayerFile}
use Rattle.layer_run_core.specs.LayerRuns.{LayerGives, made}
use Rattle.run_core.specs.Texts.{bytes_of_text}

-- a text made of the layer that a file gives is a result of the file
pub text_given : {G : Type 0} (IsTextOf : Contents G → List ℕ → Type 0) (reads : Reading G) (file : Option (List ℕ)) (layer : Contents G)
    (out : Result Text RunFault) → LayerFile reads file (Ok layer) → IfOk out (λ text. IsTextOf layer (bytes_of_text text))
    → IfOk out (λ text. LayerGives IsTextOf reads file (Ok (bytes_of_text text)))
text_given IsTextOf reads file layer (Ok text) given is = made layer (bytes_of_text text) given is
text_given IsTextOf reads file layer (Err e) given is = tt
