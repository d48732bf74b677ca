-- The grammar of one number: which texts spell it, as lists of bytes (OGC 06-103r4, 7.2).
use Rattle.std.specs.Prelude.{◌≡◌, ◌==◌, ◌||◌, ℕ, Bool, true, false, List, [], ◌∷◌, ◌++◌}
use Rattle.std.specs.Prelude.{◌⊎◌, ⊤, ◌<◌, IsTrue, length, codes}
use Rattle.std.specs.List.{AllByRecursion}
use Rattle.std.specs.Char.{is_ascii_digit}
use Rattle.number_core.specs.declared.scale.Rounding.{Rounding}
use Rattle.number_core.specs.declared.scale.Rounding.TheVariants.{Exact, Nearest}
use Rattle.number_core.specs.declared.scale.Scale.{Scale}
use Rattle.number_core.specs.Scales.{rounding_of}

-- a number as it is written: whether a minus sign precedes it, its digits before the dot and those
-- after it, whether a minus sign precedes its exponent, and the digits of this, as bytes
pub record Numeral : Type 0 where
  pub negative : Bool
  pub digits : List ℕ
  pub decimals : List ℕ
  pub lowers : Bool
  pub exponent : List ℕ

-- the texts that consist of one of the first kind followed by one of the second
infixr 5 ◌then◌
pub record ◌then◌ (A B : List ℕ → Type 0) (text : List ℕ) : Type 0 where
  pub front : List ℕ
  pub back : List ℕ
  pub first : A front
  pub second : B back
  pub joined : text ≡ front ++ back

-- only this text
abbrev pub Exactly : List ℕ → List ℕ → Type 0
Exactly wanted text = text ≡ wanted

abbrev pub IsDigit : ℕ → Type 0
IsDigit b = IsTrue (is_ascii_digit b)

-- any number of digits
abbrev pub Digits : List ℕ → Type 0
Digits text = AllByRecursion IsDigit text

-- a minus sign before a negative number, otherwise nothing or a plus sign
abbrev pub Sign : Bool → List ℕ → Type 0
Sign true text = text ≡ codes "-"
Sign false text = (text ≡ []) ⊎ (text ≡ codes "+")

-- these digits, if there are any
abbrev pub TheDigits : List ℕ → List ℕ → Type 0
TheDigits digits text = Digits digits × (text ≡ digits)

-- one digit or more
abbrev pub SomeDigits : List ℕ → List ℕ → Type 0
SomeDigits digits text = (0 < length digits) × TheDigits digits text

-- a dot and any number of digits; if there are no digits, the dot may be missing
abbrev pub Decimals : List ℕ → List ℕ → Type 0
Decimals digits text =
    Digits digits × (((digits ≡ []) × (text ≡ [])) ⊎ (text ≡ codes "." ++ digits))

-- the letter before an exponent
abbrev pub Letter : List ℕ → Type 0
Letter text = (text ≡ codes "e") ⊎ (text ≡ codes "E")

-- the letter, a sign and the digits of an exponent; or nothing
abbrev pub Exponent : Bool → List ℕ → List ℕ → Type 0
Exponent lowers digits text =
    ((lowers ≡ false) × (digits ≡ []) × (text ≡ []))
    ⊎ (Letter then Sign lowers then SomeDigits digits) text

-- a number has a digit before its dot and no exponent; one that is rounded has a digit anywhere
abbrev pub IsTaken : Rounding → Numeral → Type 0
IsTaken Exact n = (0 < length n.digits) × (n.exponent ≡ [])
IsTaken Nearest n = 0 < length (n.digits ++ n.decimals)

abbrev pub Written : Numeral → List ℕ → Type 0
Written n =
    Sign n.negative then TheDigits n.digits then Decimals n.decimals
    then Exponent n.lowers n.exponent

abbrev pub Number : Scale → Numeral → List ℕ → Type 0
Number scale n text = IsTaken (rounding_of scale) n × Written n text

-- the bytes by which a number can go on after its digits: a digit, a dot (46), an "e" (101) or an
-- "E" (69)
abbrev pub goes_on : ℕ → Bool
goes_on b = is_ascii_digit b || b == 46 || b == 101 || b == 69

-- a number that is followed by this text ends before it
abbrev pub Ends : List ℕ → Type 0
Ends [] = ⊤
Ends (b ∷ text) = goes_on b ≡ false
