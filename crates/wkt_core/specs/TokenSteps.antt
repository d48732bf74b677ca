-- The steps of the reader over white space, symbols and letters: what they read, and what remains.
-- Proofs relate the definitions of the files of steps to the grammar, in both directions.
use Rattle.std.specs.Prelude.{◌≡◌, ◌==◌, ℕ, List, [], ◌∷◌, ◌++◌, Option}
use Rattle.std.specs.Prelude.{Some, None, if◌then◌else◌, map}
use Rattle.std.specs.Borrow.{Bor}
use Rattle.std.specs.Char.{to_ascii_lowercase}
use Rattle.wkt_core.specs.Grammar.{is_blank}
use Rattle.wkt_core.specs.declared.token.Next.{Next}
use Rattle.wkt_core.specs.declared.token.Next.TheVariants.{Item, End}

-- the text after its leading white space
abbrev pub skip : List ℕ → List ℕ
skip [] = []
skip (b ∷ text) = if is_blank b then skip text else b ∷ text

-- the text after at least one byte of white space
abbrev pub gap_at : List ℕ → Option (List ℕ)
gap_at [] = None
gap_at (b ∷ text) = if is_blank b then Some (skip text) else None

-- the text after this byte
abbrev pub symbol_at : ℕ → List ℕ → Option (List ℕ)
symbol_at wanted [] = None
symbol_at wanted (b ∷ text) = if b == wanted then Some text else None

-- the letters of a word are at the start, in any case
abbrev pub TakesLetters : List ℕ → List ℕ → List ℕ → Type 0
TakesLetters word text rest =
    (front : List ℕ) × (map to_ascii_lowercase front ≡ map to_ascii_lowercase word)
    × (text ≡ front ++ rest)

-- an item is followed by a comma (44), a closing parenthesis (41), or neither
abbrev pub StandsNext : List ℕ → Option Next → Type 0
StandsNext text (Some (Item rest)) = text ≡ 44 ∷ rest.now
StandsNext text (Some (End rest)) = text ≡ 41 ∷ rest.now
StandsNext text None = (rest : List ℕ) → ¬ (text ≡ 44 ∷ rest) × ¬ (text ≡ 41 ∷ rest)

-- the result of a step, with the remaining text as a list
abbrev pub rest_view : Option (Bor (List ℕ)) → Option (List ℕ)
rest_view None = None
rest_view (Some r) = Some r.now
