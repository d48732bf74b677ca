-- A number that is read without rounding is read alike with it.
use Rattle.std.proofs.Common.{◌≡◌, true, ℕ, List, [], refl, sym, ap, ◌∙◌, subst, arith}
use Rattle.std.proofs.lemmas.List.{length-append}
use Rattle.number_core.specs.declared.scale.Rounding.{Rounding}
use Rattle.number_core.specs.declared.scale.Rounding.TheVariants.{Exact, Nearest}
use Rattle.number_core.specs.declared.scale.Scale.{Scale}
use Rattle.number_core.specs.ScaleLimits.{IsWithin}
use Rattle.number_core.specs.Scales.{digits_of, limits_of, rounding_of, IsInRange}
use Rattle.number_core.specs.Numbers.{Numeral, Digits, IsTaken, Number}
use Rattle.number_core.specs.Values.{is_whole_by, units_by, signed, value, IsGood}
use Rattle.number_core.proofs.RoundedLemmas.{whole_units}

-- digits before a dot, digits after it, and no exponent
pub record IsPlain (n : Numeral) : Type 0 where
  pub digits : Digits n.digits
  pub decimals : Digits n.decimals
  pub none : n.exponent ≡ []

taken_still : (rounding : Rounding) (n : Numeral) → IsTaken Exact n → IsTaken rounding n
taken_still Exact n h = h
taken_still Nearest n h = omega (arith, h.0, length-append n.digits n.decimals)

pub units_still : (rounding : Rounding) (k : ℕ) (n : Numeral) → IsPlain n → is_whole_by Exact k n ≡ true → units_by rounding k n ≡ units_by Exact k n
units_still Exact k n plain whole = refl
units_still Nearest k n plain whole = whole_units k n plain.digits plain.decimals plain.none whole

pub whole_still : (rounding : Rounding) (k : ℕ) (n : Numeral) → is_whole_by Exact k n ≡ true → is_whole_by rounding k n ≡ true
whole_still Exact k n whole = whole
whole_still Nearest k n whole = refl

module _ (exact scale : Scale) (is : rounding_of exact ≡ Exact) where
  taken_exact : (n : Numeral) → IsTaken (rounding_of exact) n → IsTaken Exact n
  taken_exact n h = subst (λ r. IsTaken r n) is h

  pub number_still : (n : Numeral) (s : List ℕ) → Number exact n s → Number scale n s
  number_still n s h = (taken_still (rounding_of scale) n (taken_exact n h.0), h.1)

  pub number_plain : (n : Numeral) (s : List ℕ) → Number exact n s → IsPlain n
  number_plain n s h = record {
    digits = h.1.second.first.0;
    decimals = h.1.second.second.first.0;
    none = (taken_exact n h.0).1;
  }

  module _ (digits : digits_of scale ≡ digits_of exact) (limits : limits_of scale ≡ limits_of exact) where
    whole_exact : (n : Numeral) → IsGood exact n → is_whole_by Exact (digits_of scale) n ≡ true
    whole_exact n good = rw digits (subst (λ r. is_whole_by r (digits_of exact) n ≡ true) is good.whole)

    pub value_alike : (n : Numeral) → IsPlain n → IsGood exact n → value scale n ≡ value exact n
    value_alike n plain good =
        ap (signed n.negative) (units_still (rounding_of scale) (digits_of scale) n plain (whole_exact n good)
        ∙ ap (λ k. units_by Exact k n) digits ∙ ap (λ r. units_by r (digits_of exact) n) (sym is))

    pub good_alike : (n : Numeral) → IsPlain n → IsGood exact n → IsGood scale n
    good_alike n plain good = record {
      whole = whole_still (rounding_of scale) (digits_of scale) n (whole_exact n good);
      in_range = subst (λ l. IsWithin l (value scale n)) (sym limits) (subst (IsInRange exact) (sym (value_alike n plain good)) good.in_range);
    }
