-- The steps of the reader over a number: what they read at the start of a text, and what remains.
use Rattle.std.specs.Prelude.{◌≡◌, ◌==◌, ◌<◌, ◌≤◌, ◌+◌, ◌-◌, ◌^◌, ◌⊎◌, ◌||◌, ℕ, nat_le, ℤ, Bool}
use Rattle.std.specs.Prelude.{true, false, IsTrue, get_or, drop}
use Rattle.std.specs.Prelude.{List, [], ◌∷◌, ◌++◌, Option, Some, None, if◌then◌else◌}
use Rattle.std.specs.Borrow.{Bor}
use Rattle.std.specs.Char.{is_ascii_digit}
use Rattle.std.specs.List.{list_all}
use Rattle.std.specs.Str.Parse.{digits_value}
use Rattle.number_core.specs.declared.number.Plain.{Plain}
use Rattle.number_core.specs.declared.number.ReadNumber.{ReadNumber}
use Rattle.number_core.specs.declared.scale.Rounding.{Rounding}
use Rattle.number_core.specs.declared.scale.Rounding.TheVariants.{Exact, Nearest}
use Rattle.number_core.specs.declared.scale.Scale.{Scale}
use Rattle.number_core.specs.ScaleLimits.{greatest_range, greatest_units}
use Rattle.number_core.specs.Scales.{digits_of, limits_of, rounding_of}
use Rattle.number_core.specs.Numbers.{Numeral}
use Rattle.number_core.specs.Values.{kept, is_whole, signed, units}

-- the digits at the start
abbrev pub digits_at : List ℕ → List ℕ
digits_at [] = []
digits_at (b ∷ text) = if is_ascii_digit b then b ∷ digits_at text else []

-- the text after the digits at the start
abbrev pub after_digits : List ℕ → List ℕ
after_digits [] = []
after_digits (b ∷ text) = if is_ascii_digit b then after_digits text else b ∷ text

-- whether a minus sign (45) is at the start, and the text after it or after a plus sign (43)
abbrev pub sign_at : List ℕ → Bool × List ℕ
sign_at [] = (false, [])
sign_at (b ∷ text) =
    if b == 43 then (false, text) else if b == 45 then (true, text) else (false, b ∷ text)

-- the digits after a dot (46), and the text after them
abbrev pub decimals_at : List ℕ → List ℕ × List ℕ
decimals_at [] = ([], [])
decimals_at (b ∷ text) = if b == 46 then (digits_at text, after_digits text) else ([], b ∷ text)

-- the exponent with these digits, and the text after it; without a digit there is none
abbrev pub exponent_with : List ℕ → Bool → List ℕ → List ℕ → Bool × List ℕ × List ℕ
exponent_with text lowers [] rest = (false, [], text)
exponent_with text lowers (d ∷ ds) rest = (lowers, d ∷ ds, rest)

-- whether an "e" (101) or "E" (69) is at the start
abbrev pub has_letter : List ℕ → Bool
has_letter [] = false
has_letter (b ∷ text) = b == 101 || b == 69

-- whether a minus sign precedes the exponent after an "e" (101) or "E" (69), the digits of the
-- exponent, and the text after them
abbrev pub exponent_at : List ℕ → Bool × List ℕ × List ℕ
exponent_at [] = (false, [], [])
exponent_at (b ∷ text) =
    if b == 101 || b == 69
    then exponent_with (b ∷ text) (sign_at text).0
    (digits_at (sign_at text).1) (after_digits (sign_at text).1)
    else (false, [], b ∷ text)

-- the same where numbers are rounded; otherwise they have no exponent
abbrev pub exponent_by : Rounding → List ℕ → Bool × List ℕ × List ℕ
exponent_by Exact text = (false, [], text)
exponent_by Nearest text = exponent_at text

abbrev pub has_digit : List ℕ → Bool
has_digit [] = false
has_digit (d ∷ ds) = true

-- whether these digits before and after the dot are enough
abbrev pub is_taken : Rounding → List ℕ → List ℕ → Bool
is_taken Exact digits decimals = has_digit digits
is_taken Nearest digits decimals = has_digit (digits ++ decimals)

-- a number with this sign, digits and decimals, followed by this exponent
abbrev pub numeral_with : Bool → List ℕ → List ℕ → Bool × List ℕ × List ℕ → Numeral × List ℕ
numeral_with negative digits decimals exponent = (
  record {
    negative = negative;
    digits = digits;
    decimals = decimals;
    lowers = exponent.0;
    exponent = exponent.1;
  },
  exponent.2,
)

-- the number with this sign, these digits, and the decimals and the exponent at the start
abbrev pub unsigned_by : Rounding → Bool → List ℕ → List ℕ × List ℕ → Option (Numeral × List ℕ)
unsigned_by rounding negative digits after =
    if is_taken rounding digits after.0
    then Some (numeral_with negative digits after.0 (exponent_by rounding after.1))
    else None

abbrev pub unsigned_at : Rounding → Bool → List ℕ → Option (Numeral × List ℕ)
unsigned_at rounding negative text =
    unsigned_by rounding negative (digits_at text) (decimals_at (after_digits text))

-- the number at the start, as it is written, and the text after it
abbrev pub number_at : Scale → List ℕ → Option (Numeral × List ℕ)
number_at scale text = unsigned_at (rounding_of scale) (sign_at text).0 (sign_at text).1

-- a sum that stopped growing once it exceeded the greatest range
abbrev pub IsCapped : ℕ → ℕ → Type 0
IsCapped sum total =
    (sum ≡ total) ⊎ ((greatest_range < sum) × (greatest_range < total))

-- a sum that stopped at the greatest number of 64 bits
abbrev pub IsSaturated : ℕ → ℕ → Type 0
IsSaturated sum total =
    (sum ≡ total) ⊎ ((sum ≡ 2 ^ 64 - 1) × (2 ^ 64 - 1 ≤ total))

-- whether a 5 (53) or a greater digit is at a place, so that a number cut off there is rounded up
abbrev pub rounds_up : ℕ → List ℕ → Bool
rounds_up place ds = nat_le 53 (get_or ds place 48)

-- the number of the digits before a place, and one more if it is rounded up
abbrev pub cut : ℕ → List ℕ → ℕ
cut place ds =
    digits_value 10 (kept place ds) + (if rounds_up place ds then 1 else 0)

-- a number at the start of a text that has a digit before its dot, cut off after the decimals of a
-- scale, and the text at which its exponent would begin
pub record IsPlainOf (scale : Scale) (text : List ℕ) (plain : Plain) (rest : List ℕ) : Type 0
  where
    pub negative : plain.negative ≡ (sign_at text).0
    pub some : IsTrue (has_digit (digits_at (sign_at text).1))
    pub units : IsCapped plain.units (digits_value 10 (digits_at (sign_at text).1
        ++ kept (digits_of scale) (decimals_at (after_digits (sign_at text).1)).0))
    pub whole : plain.whole ≡ list_all (λ d. d == 48)
        (drop (digits_of scale) (decimals_at (after_digits (sign_at text).1)).0)
    pub up : plain.up ≡ rounds_up (digits_of scale) (decimals_at (after_digits (sign_at text).1)).0
    pub after : rest ≡ (decimals_at (after_digits (sign_at text).1)).1

-- the number with this sign and absolute value, if this is at most the first number
abbrev pub ranged : ℕ → Bool → ℕ → Option ℤ
ranged most negative n = if nat_le n most then Some (signed negative n) else None

-- the result of reading a number of at most so many units
abbrev pub number_read : ℕ → Scale → Numeral → ReadNumber
number_read most scale n = record {
  value = ranged most n.negative (units scale n);
  whole = is_whole scale n;
}

-- the result of reading a coordinate
abbrev pub coordinate_read : Scale → Numeral → ReadNumber
coordinate_read scale = number_read (greatest_units (limits_of scale)) scale

-- a number that was read with the text after it, if there is one
abbrev pub number_answer : ℕ → Scale → Option (Numeral × List ℕ) → Option (ReadNumber × List ℕ)
number_answer most scale None = None
number_answer most scale (Some p) = Some (number_read most scale p.0, p.1)

-- what was read, with the remaining text as a list
abbrev pub answer_view : {A : Type 0} → Option (A × Bor (List ℕ)) → Option (A × List ℕ)
answer_view None = None
answer_view (Some p) = Some (p.0, p.1.now)
