-- Cutting a CSV text such that its records are those of both parts.
use Rattle.std.specs.Prelude.{◌≡◌, ◌≢◌, ◌++◌, ℕ, false, List, [], ◌∷◌}
use Rattle.csv.specs.Machine.{ends_at_end, line_feed, step}
use Rattle.csv.specs.Reading.{default_config, strip_bom}
use Rattle.csv.specs.declared.parser.State.{State}

-- the state of the reader's machine after these bytes
abbrev pub state_after : State → List ℕ → State
state_after s [] = s
state_after s (c ∷ text) = state_after (step default_config s c).0 text

-- after these bytes the machine is between two records
abbrev pub EndsBetween : State → List ℕ → Type 0
EndsBetween s text = ends_at_end (state_after s text) ≡ false

-- the text doesn't begin with a byte order mark
abbrev pub IsPlain : List ℕ → Type 0
IsPlain text = strip_bom text ≡ text

abbrev pub EndsWithFeed : List ℕ → Type 0
EndsWithFeed text = (front : List ℕ) × (text ≡ front ++ line_feed ∷ [])

-- the last field of the record doesn't end with a line feed
abbrev pub IsClosed : List (List ℕ) → Type 0
IsClosed fields = (front : List (List ℕ)) (last : List ℕ)
    → fields ≢ front ++ (last ++ line_feed ∷ []) ∷ []
