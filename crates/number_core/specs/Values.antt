-- The value of a number at a scale, in units of the scale.
use Rattle.std.specs.Prelude.{◌≡◌, ◌==◌, ◌+◌, ◌-◌, ◌*◌, ◌/◌, ◌^◌, ℕ, ℤ, pos, neg_ℤ, Bool}
use Rattle.std.specs.Prelude.{true, false, IsTrue, List, ◌++◌, length, take, drop, replicate}
use Rattle.std.specs.Prelude.{if◌then◌else◌}
use Rattle.std.specs.List.{list_all}
use Rattle.std.specs.Str.Parse.{digits_value}
use Rattle.number_core.specs.declared.scale.Rounding.{Rounding}
use Rattle.number_core.specs.declared.scale.Rounding.TheVariants.{Exact, Nearest}
use Rattle.number_core.specs.declared.scale.Scale.{Scale}
use Rattle.number_core.specs.Scales.{digits_of, rounding_of, IsInRange}
use Rattle.number_core.specs.Numbers.{Numeral, Number}

-- the first k of the digits, with a 0 (48) for each missing one
abbrev pub kept : ℕ → List ℕ → List ℕ
kept k ds = take k ds ++ replicate (k - length ds) 48

-- a whole number of units of 10^-k: only digits 0 after k decimals; each number is one once rounded
abbrev pub is_whole_by : Rounding → ℕ → Numeral → Bool
is_whole_by Exact k n = list_all (λ d. d == 48) (drop k n.decimals)
is_whole_by Nearest k n = true

abbrev pub is_whole : Scale → Numeral → Bool
is_whole scale n = is_whole_by (rounding_of scale) (digits_of scale) n

-- the whole number nearest to a / b, the greater one of two
abbrev pub nearest : ℕ → ℕ → ℕ
nearest a b = (2 * a + b) / (2 * b)

-- the powers of ten by which the exponent raises and lowers a number
abbrev pub raised : Numeral → ℕ
raised n = if n.lowers then 0 else digits_value 10 n.exponent

abbrev pub lowered : Numeral → ℕ
lowered n = if n.lowers then digits_value 10 n.exponent else 0

-- the units of 10^-k in a number without its sign: those given by the digits and k decimals, or
-- those nearest to the number
abbrev pub units_by : Rounding → ℕ → Numeral → ℕ
units_by Exact k n = digits_value 10 (n.digits ++ kept k n.decimals)
units_by Nearest k n =
    nearest (digits_value 10 (n.digits ++ n.decimals) * 10 ^ (k + raised n))
    (10 ^ (length n.decimals + lowered n))

abbrev pub units : Scale → Numeral → ℕ
units scale n = units_by (rounding_of scale) (digits_of scale) n

abbrev pub signed : Bool → ℕ → ℤ
signed false n = pos n
signed true n = neg_ℤ (pos n)

-- the number of units of the scale, with its sign: half a unit is rounded away from zero
abbrev pub value : Scale → Numeral → ℤ
value scale n = signed n.negative (units scale n)

-- whole and within the limit of the scale
pub record IsGood (scale : Scale) (n : Numeral) : Type 0 where
  pub whole : IsTrue (is_whole scale n)
  pub in_range : IsInRange scale (value scale n)

-- the text is a number of so many units
pub record SpellsNumber (scale : Scale) (text : List ℕ) (z : ℤ) : Type 0 where
  pub numeral : Numeral
  pub number : Number scale numeral text
  pub good : IsGood scale numeral
  pub same : value scale numeral ≡ z
