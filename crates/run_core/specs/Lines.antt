-- The line of a fault, and that of what may help.
use Rattle.std.specs.Prelude.{ℕ, List, [], ◌∷◌, ◌++◌, codes}
use Rattle.run_core.specs.declared.fault.RunFault.{RunFault}
use Rattle.run_core.specs.FaultTexts.{run_text}
use Rattle.run_core.specs.Hints.{run_hint}

-- the program's name, a text and a line feed
abbrev pub line_of : List ℕ → List ℕ
line_of text = codes "rjoin: " ++ (text ++ 10 ∷ [])

-- that of a fault, and on a line of its own what may help, if there is something
abbrev pub run_line : RunFault → List ℕ
run_line fault = line_of (run_text fault ++ run_hint fault)
