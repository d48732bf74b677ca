-- The first pair of each left feature among the pairs of a join.
use Rattle.std.specs.Prelude.{◌==◌, ◌&&◌, ℕ, Bool, not, List, filter, nat_lt}
use Rattle.std.specs.List.{list_any}

-- some pair of the list has the left number of this one, and a lesser right number
abbrev pub has_earlier : List (ℕ × ℕ) → ℕ × ℕ → Bool
has_earlier pairs pair = list_any (λ p. p.0 == pair.0 && nat_lt p.1 pair.1) pairs

-- for each left number of these pairs the one with the least right number, in their order
abbrev pub firsts_of : List (ℕ × ℕ) → List (ℕ × ℕ)
firsts_of pairs = filter (λ pair. not (has_earlier pairs pair)) pairs
