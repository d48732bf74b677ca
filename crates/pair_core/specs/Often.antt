-- How often a feature occurs in the pairs of a join.
use Rattle.std.specs.Prelude.{ℕ, Bool, ◌==◌, nat_lt, List, count_by}
use Rattle.pair_core.specs.declared.often.Side.{Side}
use Rattle.pair_core.specs.declared.often.Side.TheVariants.{Left, Right}

-- the number of a pair's feature on a side
abbrev pub number_in : Side → ℕ × ℕ → ℕ
number_in Left pair = pair.0
number_in Right pair = pair.1

-- how many of the pairs have the feature with this number on a side
abbrev pub occurrences : Side → ℕ → List (ℕ × ℕ) → ℕ
occurrences side number pairs = count_by (λ pair. number_in side pair == number) pairs

-- the feature is in more than one of the pairs
abbrev pub is_met_often : Side → ℕ → List (ℕ × ℕ) → Bool
is_met_often side number pairs = nat_lt 1 (occurrences side number pairs)
