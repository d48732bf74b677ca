-- The text that is told of a file's first line.
use Rattle.std.proofs.Common.{◌≡◌, ◌<◌, ◌+◌, ◌∷◌, ◌++◌, [], ℕ, zero, suc, List, length, map, take, set, get_or}
use Rattle.std.proofs.Common.{ap, sym, subst, arith, ◌∙◌}
use Rattle.std.specs.Str.{IsAscii}
use Rattle.std.proofs.lemmas.Bool.Decides.{nat_tests}
use Rattle.std.proofs.lemmas.List.{map_more, take_more_set}
use Rattle.row_core.specs.FirstLines.{AreShown, shown}

shown_ascii : (b : ℕ) → shown b < 128
shown_ascii b = grind (arith, nat_tests)

-- bytes as they are told are ASCII
pub are_ascii : (bytes : List ℕ) → IsAscii (map shown bytes)
are_ascii [] i = omega arith
are_ascii (b ∷ bytes) zero = shown_ascii b
are_ascii (b ∷ bytes) (suc i) = are_ascii bytes i

-- and so are those that were told
pub told_ascii : (told bytes : List ℕ) (len : ℕ) → take len told ≡ map shown (take len bytes) → AreShown len told
told_ascii told bytes len is = subst IsAscii (sym is) (are_ascii (take len bytes))

-- one more byte is told
pub one_more : (told bytes : List ℕ) (place : ℕ) → place < length told → place < length bytes
    → take place told ≡ map shown (take place bytes)
    → take (place + 1) (set told place (shown (get_or bytes place 0))) ≡ map shown (take (place + 1) bytes)
one_more told bytes place room within is =
    take_more_set told place (shown (get_or bytes place 0)) room
    ∙ ap (λ l. l ++ shown (get_or bytes place 0) ∷ []) is
    ∙ sym (map_more shown bytes place 0 within)
