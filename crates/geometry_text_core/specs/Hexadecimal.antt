-- Bytes as pairs of hexadecimal digits.
use Rattle.std.specs.Prelude.{◌≡◌, ◌-◌, ◌+◌, ◌*◌, ◌&&◌, ℕ, List, [], ◌∷◌, Option, Some, None}
use Rattle.std.specs.Prelude.{nat_le, if◌then◌else◌}
use Rattle.wkt_core.specs.ListSteps.{Step}
use Rattle.wkt_core.specs.TokenSteps.{skip}
use Rattle.geometry_text_core.specs.Binary.{TakesEach}

-- the value of a digit: "0" (48) to "9" (57), "A" (65) to "F" (70) or "a" (97) to "f" (102)
abbrev pub digit_value : ℕ → Option ℕ
digit_value b =
    if nat_le 48 b && nat_le b 57 then Some (b - 48)
    else if nat_le 65 b && nat_le b 70 then Some (b - 55)
    else if nat_le 97 b && nat_le b 102 then Some (b - 87)
    else None

-- a byte as two digits
abbrev pub TakesPair : Step ℕ
TakesPair text byte rest =
    (h : ℕ) × (l : ℕ) × (high : ℕ) × (low : ℕ) × (text ≡ h ∷ l ∷ rest)
    × (digit_value h ≡ Some high) × (digit_value l ≡ Some low) × (byte ≡ 16 * high + low)

-- the text is pairs of digits, with white space before and after them
abbrev pub SpellsBytes : List ℕ → List ℕ → Type 0
SpellsBytes text bytes =
    (rest : List ℕ) × TakesEach TakesPair (skip text) bytes rest × (skip rest ≡ [])
