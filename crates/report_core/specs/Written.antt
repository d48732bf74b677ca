-- Texts written in order, and the text written if a device fails midway.
use Rattle.std.specs.Prelude.{ℕ, List, Option}
use Rattle.std.specs.Global.{Global}
use Rattle.std.specs.List.{flat_map}
use Rattle.std.specs.declared.vec.Vec.{Vec}
use Rattle.std.specs.Io.KnownBytes.{Appends}
use mathlib.Core.List.{IsPrefix}

-- these texts, concatenated
abbrev pub joined : List (Vec ℕ Global) → List ℕ
joined texts = flat_map (λ text. text.items) texts

-- known bytes grow by a prefix of the text
abbrev pub AppendsPrefix : Option (List ℕ) → Option (List ℕ) → List ℕ → Type 0
AppendsPrefix old new text = (front : List ℕ) × IsPrefix front text × Appends old new front
