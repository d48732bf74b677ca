-- The canonical text of a number spells it.
use Rattle.std.proofs.Common.{◌≡◌, ℕ, suc, ◌+◌, ◌*◌, ◌/◌, ◌%◌, ◌<◌, ◌^◌, Bool, true, false, ℤ, pos, negsuc, List}
use Rattle.std.proofs.Common.{[], ◌∷◌, ◌++◌, length, refl, sym, ◌∙◌, ap, inl, arith}
use Rattle.std.specs.Prelude.{codes}
use Rattle.std.proofs.Math.Nat.{mod-lt, div-add-mod, div-le_self}
use Rattle.std.specs.Fmt.{decimal}
use Rattle.std.specs.Str.Parse.{AllDigits, digits_value}
use Rattle.std.proofs.lemmas.Bool.Decides.{nat_tests}
use Rattle.std.proofs.lemmas.Int.{ints}
use Rattle.std.proofs.lemmas.Fmt.{decimal_is_IsNumeral}
use Rattle.std.proofs.lemmas.Str.Parse.{digit_from_value}
use Rattle.std.proofs.lemmas.List.{append-nil}
use Rattle.geom_core.specs.Shapes.{IsCoordinate}
use Rattle.number_core.specs.declared.scale.Rounding.{Rounding}
use Rattle.number_core.specs.declared.scale.Rounding.TheVariants.{Exact, Nearest}
use Rattle.number_core.specs.declared.scale.Scale.{Scale}
use Rattle.number_core.specs.Scales.{digits_of, rounding_of, IsInRange}
use Rattle.number_core.specs.CanonicalNumbers.{decimals, fraction, amount, number}
use Rattle.number_core.specs.Numbers.{Numeral, Digits, Sign, IsTaken, Written, Number}
use Rattle.number_core.specs.Values.{kept, signed, is_whole_by, units_by, value, IsGood, SpellsNumber}
use Rattle.number_core.proofs.FractionLemmas.{power_pos, decimals_digits, decimals_kept, decimals_value, fraction_printed}
use Rattle.number_core.proofs.NumberLemmas.{digits_value_after-append}
use Rattle.number_core.proofs.RoundedLemmas.{whole_units}
use Rattle.number_core.proofs.GoodLemmas.{in_plane}

digits_are : (ds : List ℕ) → AllDigits 10 ds → Digits ds
digits_are [] h = tt
digits_are (d ∷ ds) h = let range = digit_from_value d h.0 in (grind (arith, nat_tests), digits_are ds h.1)

in_word : (scale : Scale) (n : ℕ) → IsInRange scale (pos n) → n < 2 ^ 64
in_word scale n h = let plane : IsCoordinate (pos n) = in_plane scale (pos n) h in omega (arith, ints)

in_word_below : (scale : Scale) (n : ℕ) → IsInRange scale (negsuc n) → suc n < 2 ^ 64
in_word_below scale n h = let plane : IsCoordinate (negsuc n) = in_plane scale (negsuc n) h in omega (arith, ints)

-- ---- an amount of units

-- n units of 10^-k as they are printed
abbrev printed : Bool → ℕ → ℕ → Numeral
printed negative k n = record {
  negative = negative;
  digits = decimal (n / 10 ^ k);
  decimals = decimals k (n % 10 ^ k);
  lowers = false;
  exponent = [];
}

amount_printed : (k n : ℕ) (negative : Bool) (s : List ℕ) → Sign negative s → n < 2 ^ 64 → Written (printed negative k n) (s ++ amount k n)
amount_printed k n negative s h small =
    let whole = n / 10 ^ k in
    let d = decimal_is_IsNumeral whole (omega (arith, div-le_self n (10 ^ k))) in
    record {
      front = s;
      back = amount k n;
      first = h;
      second = record {
        front = decimal whole;
        back = fraction k (n % 10 ^ k);
        first = (digits_are (decimal whole) d.0.1, refl);
        second = record {
          front = fraction k (n % 10 ^ k);
          back = [];
          first = fraction_printed k (n % 10 ^ k) (mod-lt n (power_pos k));
          second = inl (refl, refl, refl);
          joined = sym (append-nil (fraction k (n % 10 ^ k)));
        };
        joined = refl;
      };
      joined = refl;
    }

some_join : (ds es : List ℕ) → 0 < length ds → 0 < length (ds ++ es)
some_join [] es some = absurd (omega arith)
some_join (d ∷ ds) es some = omega arith

amount_taken : (rounding : Rounding) (negative : Bool) (k n : ℕ) → n < 2 ^ 64 → IsTaken rounding (printed negative k n)
amount_taken Exact negative k n small = ((decimal_is_IsNumeral (n / 10 ^ k) (omega (arith, div-le_self n (10 ^ k)))).0.0, refl)
amount_taken Nearest negative k n small =
    some_join (decimal (n / 10 ^ k)) _ (decimal_is_IsNumeral (n / 10 ^ k) (omega (arith, div-le_self n (10 ^ k)))).0.0

amount_value : (k n : ℕ) → n < 2 ^ 64 → digits_value 10 (decimal (n / 10 ^ k) ++ kept k (decimals k (n % 10 ^ k))) ≡ n
amount_value k n small =
    let whole = n / 10 ^ k in
    let part = n % 10 ^ k in
    let d = decimal_is_IsNumeral whole (omega (arith, div-le_self n (10 ^ k))) in
    digits_value_after-append 0 (decimal whole) (kept k (decimals k part))
    ∙ decimals_value k part (digits_value 10 (decimal whole)) (mod-lt n (power_pos k))
    ∙ ap (λ v. v * 10 ^ k + part) d.1
    ∙ omega (arith, div-add-mod n (10 ^ k))

whole_printed : (rounding : Rounding) (negative : Bool) (k n : ℕ) → is_whole_by rounding k (printed negative k n) ≡ true
whole_printed Exact negative k n = rw (decimals_kept k (n % 10 ^ k) (mod-lt n (power_pos k))) refl
whole_printed Nearest negative k n = refl

units_printed : (rounding : Rounding) (negative : Bool) (k n : ℕ) → n < 2 ^ 64 → units_by rounding k (printed negative k n) ≡ n
units_printed Exact negative k n small = amount_value k n small
units_printed Nearest negative k n small =
    let d = decimal_is_IsNumeral (n / 10 ^ k) (omega (arith, div-le_self n (10 ^ k))) in
    whole_units k (printed negative k n) (digits_are _ d.0.1) (decimals_digits k (n % 10 ^ k) (mod-lt n (power_pos k))) refl
    (whole_printed Exact negative k n) ∙ amount_value k n small

module _ (scale : Scale) where
  -- a number as it is printed
  pub numeral : ℤ → Numeral
  numeral (pos n) = printed false (digits_of scale) n
  numeral (negsuc n) = printed true (digits_of scale) (suc n)

  pub number_printed : (z : ℤ) → IsInRange scale z → Number scale (numeral z) (number scale z)
  unfolding numeral
  number_printed (pos n) h = (
    amount_taken (rounding_of scale) false (digits_of scale) n (in_word scale n h),
    amount_printed (digits_of scale) n false [] (inl refl) (in_word scale n h),
  )
  number_printed (negsuc n) h = (
    amount_taken (rounding_of scale) true (digits_of scale) (suc n) (in_word_below scale n h),
    amount_printed (digits_of scale) (suc n) true (codes "-") refl (in_word_below scale n h),
  )

  pub value_printed : (z : ℤ) → IsInRange scale z → value scale (numeral z) ≡ z
  unfolding numeral
  value_printed (pos n) h = ap pos (units_printed (rounding_of scale) false (digits_of scale) n (in_word scale n h))
  value_printed (negsuc n) h =
      ap (signed true) (units_printed (rounding_of scale) true (digits_of scale) (suc n) (in_word_below scale n h))

  pub good_printed : (z : ℤ) → IsInRange scale z → IsGood scale (numeral z)
  unfolding numeral
  good_printed (pos n) h = record { whole = whole_printed (rounding_of scale) false (digits_of scale) n; in_range = rw (value_printed (pos n) h) h }
  good_printed (negsuc n) h = record { whole = whole_printed (rounding_of scale) true (digits_of scale) (suc n); in_range = rw (value_printed (negsuc n) h) h }

pub number_spelled : (scale : Scale) (z : ℤ) → IsInRange scale z → SpellsNumber scale (number scale z) z
number_spelled scale z h = record {
  numeral = numeral scale z;
  number = number_printed scale z h;
  good = good_printed scale z h;
  same = value_printed scale z h;
}
