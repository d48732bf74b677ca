-- What the pairs of a join tell of each left feature: in how many of them it is, and whether it is
-- in none.
use Rattle.std.specs.Prelude.{◌==◌, ℕ, Bool, List, [], ◌∷◌, codes, decimal, filter, map}
use Rattle.layer_core.specs.Layers.{Feature, Contents}
use Rattle.pair_core.specs.Often.{occurrences}
use Rattle.pair_core.specs.declared.often.Side.TheVariants.{Left}
use Rattle.report_core.specs.CsvTexts.{csv_text}

-- a feature's id, and the number of the pairs that have it on the left
abbrev pub count_row : {G : Type 0} → List (ℕ × ℕ) → Feature G → List (List ℕ)
count_row pairs f = f.id ∷ decimal (occurrences Left f.number pairs) ∷ []

-- the header, and that record of each left feature in order
abbrev pub counts_text : {G : Type 0} → Contents G → List (ℕ × ℕ) → List ℕ
counts_text left pairs =
    csv_text ((codes "left" ∷ codes "count" ∷ []) ∷ map (count_row pairs) left.features)

-- none of the pairs has the feature on the left
abbrev pub is_unmatched : {G : Type 0} → List (ℕ × ℕ) → Feature G → Bool
is_unmatched pairs f = occurrences Left f.number pairs == 0

-- the header, and the id of each such feature in order
abbrev pub unmatched_text : {G : Type 0} → Contents G → List (ℕ × ℕ) → List ℕ
unmatched_text left pairs =
    csv_text ((codes "left" ∷ []) ∷ map (λ f. f.id ∷ [])
    (filter (is_unmatched pairs) left.features))
