-- Which features occur in a pair.
use Rattle.std.specs.Prelude.{◌≡◌, ◌==◌, ℕ, Bool, List}
use Rattle.std.specs.List.{list_any}
use Rattle.std.specs.Ordering.{nat_cmp}
use Rattle.std.specs.BTreeSet.{BTreeSet, contains}

-- the left feature with this number occurs in a pair
abbrev pub has_left : List (ℕ × ℕ) → ℕ → Bool
has_left pairs number = list_any (λ p. number == p.0) pairs

-- the right feature with this number occurs in a pair
abbrev pub has_right : List (ℕ × ℕ) → ℕ → Bool
has_right pairs number = list_any (λ p. number == p.1) pairs

-- the set has exactly the numbers that pass the test
abbrev pub HoldsExactly : BTreeSet ℕ → (ℕ → Bool) → Type 0
HoldsExactly set test = (number : ℕ) → contains nat_cmp set number ≡ test number
