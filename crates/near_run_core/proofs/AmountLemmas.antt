-- Numbers of units need no quotes.
use Rattle.std.proofs.Common.{◌≡◌, ℕ, ◌/◌, ◌%◌, ◌<◌, ◌^◌, ◌||◌, Bool, true, false, cond, eqb, List, [], ◌∷◌, ◌++◌, pos, IsTrue, refl, ◌∙◌, arith}
use Rattle.std.specs.Prelude.{codes}
use Rattle.std.specs.Fmt.{decimal}
use Rattle.std.specs.Char.{is_ascii_digit}
use Rattle.std.specs.Str.Parse.{AllDigits}
use Rattle.std.proofs.Math.Nat.{mod-lt, div-le_self}
use Rattle.std.proofs.lemmas.Bool.Decides.{nat_tests}
use Rattle.std.proofs.lemmas.Fmt.{decimal_is_IsNumeral}
use Rattle.std.proofs.lemmas.List.Folds.{list_any-append}
use Rattle.std.proofs.lemmas.Str.Parse.{digit_from_value}
use Rattle.csv.specs.Writing.{default_writer, field_text, needs_byte, needs_quotes}
use Rattle.number_core.specs.declared.scale.Scale.{Scale}
use Rattle.number_core.specs.Scales.{digits_of}
use Rattle.number_core.specs.CanonicalNumbers.{decimals, fraction, number}
use Rattle.number_core.specs.Numbers.{Digits}
use Rattle.number_core.proofs.FractionLemmas.{power_pos, decimals_digits}

either : (a b : Bool) → a ≡ false → b ≡ false → (a || b) ≡ false
either a b p q = rw p q

digit_plain : (d : ℕ) → 47 < d → d < 58 → needs_byte default_writer d ≡ false
digit_plain d low high = grind (arith, nat_tests)

numeral_plain : (ds : List ℕ) → AllDigits 10 ds → needs_quotes default_writer ds ≡ false
numeral_plain [] h = refl
numeral_plain (d ∷ ds) h =
    let range = digit_from_value d h.0 in
    either (needs_byte default_writer d) (needs_quotes default_writer ds) (digit_plain d (omega arith) (omega arith)) (numeral_plain ds h.1)

above_47 : (d : ℕ) → IsTrue (is_ascii_digit d) → 47 < d
above_47 d h = grind (arith, nat_tests)

below_58 : (d : ℕ) → IsTrue (is_ascii_digit d) → d < 58
below_58 d h = grind (arith, nat_tests)

digits_plain : (ds : List ℕ) → Digits ds → needs_quotes default_writer ds ≡ false
digits_plain [] h = refl
digits_plain (d ∷ ds) h =
    either (needs_byte default_writer d) (needs_quotes default_writer ds) (digit_plain d (above_47 d h.0) (below_58 d h.0)) (digits_plain ds h.1)

dotted_plain : (k f : ℕ) (v : Bool) → f < 10 ^ k → needs_quotes default_writer (cond v [] (codes "." ++ decimals k f)) ≡ false
dotted_plain k f true h = refl
dotted_plain k f false h = digits_plain (decimals k f) (decimals_digits k f h)

both_plain : (xs ys : List ℕ) → needs_quotes default_writer xs ≡ false → needs_quotes default_writer ys ≡ false → needs_quotes default_writer (xs ++ ys) ≡ false
both_plain xs ys p q = list_any-append (needs_byte default_writer) xs ys ∙ either (needs_quotes default_writer xs) (needs_quotes default_writer ys) p q

amount_plain : (k n : ℕ) → n < 2 ^ 64 → needs_quotes default_writer (decimal (n / 10 ^ k) ++ fraction k (n % 10 ^ k)) ≡ false
amount_plain k n small =
    let whole = decimal_is_IsNumeral (n / 10 ^ k) (omega (arith, div-le_self n (10 ^ k))) in
    both_plain (decimal (n / 10 ^ k)) (fraction k (n % 10 ^ k)) (numeral_plain (decimal (n / 10 ^ k)) whole.0.1)
    (dotted_plain k (n % 10 ^ k) (eqb (n % 10 ^ k) 0) (mod-lt n (power_pos k)))

-- a number of units is its own field
pub number_field : (scale : Scale) (n : ℕ) → n < 2 ^ 64 → field_text default_writer (number scale (pos n)) ≡ number scale (pos n)
number_field scale n small =
    let plain : needs_quotes default_writer (number scale (pos n)) ≡ false = amount_plain (digits_of scale) n small in rw plain refl
