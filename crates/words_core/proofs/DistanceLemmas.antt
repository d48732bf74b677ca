-- Texts that are one number as a whole, and what is read of them.
use Rattle.std.proofs.Common.{◌≡◌, ℕ, Bool, true, false, List, [], ◌∷◌, ◌++◌, length, arith, Option, Some, None, IfSome, IfNone, refl, sym, ap, ap₂, subst, ◌∙◌}
use Rattle.std.specs.Prelude.{◌≤◌, ◌↔◌, ℤ, pos, nat_abs, IsSome, is_some, if◌then◌else◌}
use Rattle.std.proofs.lemmas.Bool.{false≢true}
use Rattle.std.proofs.lemmas.Int.{ints}
use Rattle.std.proofs.lemmas.List.{append-nil}
use Rattle.std.proofs.lemmas.Option.{none-some, same_Some, some_pair_parts}
use Rattle.distance_core.specs.declared.distance.Distance.{Distance}
use Rattle.distance_core.specs.Limits.{greatest_distance}
use Rattle.distance_core.specs.Units.{units_of}
use Rattle.number_core.specs.declared.limits.Limits.{Limits}
use Rattle.number_core.specs.declared.number.ReadNumber.{ReadNumber}
use Rattle.number_core.specs.declared.scale.Scale.{Scale}
use Rattle.number_core.specs.ScaleLimits.{greatest_apart}
use Rattle.number_core.specs.Scales.{limits_of}
use Rattle.number_core.specs.Numbers.{Number, Numeral}
use Rattle.number_core.specs.NumberSteps.{number_answer, number_at, number_read}
use Rattle.number_core.specs.Values.{signed, units, value}
use Rattle.number_core.proofs.FrontLemmas.{number_at_front, number_begins}
use Rattle.number_core.proofs.GoodLemmas.{in_range_units, units_in_range}
use Rattle.words_core.specs.Distances.{SpellsDistance, SpellsNoDistance, SpellsNoNumber, SpellsNumber}

-- what is read where a number with this result is followed by this text
abbrev read_as : Option ℤ → Bool → List ℕ → Option (ReadNumber × List ℕ)
read_as z whole rest = Some (record { value = z; whole = whole }, rest)

some_value : (b : Bool) (z : ℤ) → is_some (if b then Some z else None) ≡ true
    → (if b then Some z else None) ≡ Some z
some_value true z h = refl
some_value false z h = absurd (false≢true h)

abs_signed : (negative : Bool) (n : ℕ) → nat_abs (signed negative n) ≡ n
abs_signed true n = omega (arith, ints)
abs_signed false n = refl

module _ (scale : Scale) (text : List ℕ) where
  abbrev most : ℕ
  most = greatest_apart (limits_of scale)

  -- what was read in the range of a distance of these limits
  pub read_to : (range : ℕ) (limits : Limits) (read : Option (ReadNumber × List ℕ))
      → range ≡ greatest_apart limits → limits ≡ limits_of scale
      → read ≡ number_answer range scale (number_at scale text)
      → read ≡ number_answer most scale (number_at scale text)
  read_to range limits read far same e =
      e ∙ ap (λ n. number_answer n scale (number_at scale text)) (far ∙ ap greatest_apart same)

  same_units : (n : Numeral) (z : ℤ) → value scale n ≡ z → units scale n ≡ nat_abs z
  same_units n z e = sym (abs_signed n.negative (units scale n)) ∙ ap nat_abs e

  spelled_at : (z : ℤ) (s : SpellsNumber scale text z) → number_at scale text ≡ Some (s.numeral, [])
  spelled_at z s = rw append-nil at (number_at_front scale s.numeral text [] s.written tt)

  -- the number that the text spells is read whole, with nothing behind it
  pub lone_read : (z : ℤ) → nat_abs z ≤ most → SpellsNumber scale text z
      → number_answer most scale (number_at scale text) ≡ read_as (Some z) true []
  lone_read z few s =
      let at = spelled_at z s in
      let in_range : (number_read most scale s.numeral).value ≡ Some z =
      some_value _ _ (in_range_units scale most s.numeral
      (subst (λ n. n ≤ most) (sym (same_units s.numeral z s.same)) few)) ∙ ap (λ v. Some v) s.same in
      ap (number_answer most scale) at ∙ ap₂ (λ v w. read_as v w []) in_range s.whole

  lone_spelled : (z : ℤ) → number_answer most scale (number_at scale text) ≡ read_as (Some z) true []
      → SpellsNumber scale text z
  lone_spelled z e = by (number_at scale text) refl e
    where
      by : (o : Option (Numeral × List ℕ)) → number_at scale text ≡ o
          → number_answer most scale o ≡ read_as (Some z) true [] → SpellsNumber scale text z
      by None at e = absurd (none-some _ e)
      by (Some p) at e =
          let (front, written, split) = number_begins scale text p.0 p.1 at in
          let parts = some_pair_parts _ _ _ _ e in
          let value_is : (number_read most scale p.0).value ≡ Some z = ap (λ r. r.value) parts.0 in
          let some : is_some (number_read most scale p.0).value ≡ true = ap is_some value_is in
          let alone : text ≡ front = split ∙ ap (λ rest. front ++ rest) parts.1 ∙ append-nil front in
          record {
            numeral = p.0;
            written = subst (Number scale p.0) (sym alone) written;
            whole = ap (λ r. r.whole) parts.0;
            same = same_Some _ _ (sym (some_value _ _ some) ∙ value_is);
          }

  -- a whole number was read, with nothing behind it
  pub some_spelled : (z : Option ℤ) (whole : Bool) (rest : List ℕ)
      → read_as z whole rest ≡ number_answer most scale (number_at scale text) → whole ≡ true → rest ≡ []
      → IfSome z (SpellsNumber scale text)
  some_spelled (Some z) whole rest e w r = lone_spelled z (sym e ∙ ap₂ (read_as (Some z)) w r)
  some_spelled None whole rest e w r = tt

  -- the number that was read is in range
  pub some_few : (z : Option ℤ) (whole : Bool) (rest : List ℕ)
      → read_as z whole rest ≡ number_answer most scale (number_at scale text) → IfSome z (λ v. nat_abs v ≤ most)
  some_few None whole rest e = tt
  some_few (Some z) whole rest e = by (number_at scale text) e
    where
      by : (o : Option (Numeral × List ℕ)) → read_as (Some z) whole rest ≡ number_answer most scale o → nat_abs z ≤ most
      by None e = absurd (none-some _ (sym e))
      by (Some p) e =
          let parts = some_pair_parts _ _ _ _ (sym e) in
          let value_is : (number_read most scale p.0).value ≡ Some z = ap (λ r. r.value) parts.0 in
          let some : is_some (number_read most scale p.0).value ≡ true = ap is_some value_is in
          let same : value scale p.0 ≡ z = same_Some _ _ (sym (some_value _ _ some) ∙ value_is) in
          subst (λ n. n ≤ most) (same_units p.0 z same) (units_in_range scale most p.0 some)

  -- what is read, if the text spells a number
  pub spelled_parts : (z : Option ℤ) (whole : Bool) (rest : List ℕ) (spelled : ℤ) → nat_abs spelled ≤ most
      → read_as z whole rest ≡ number_answer most scale (number_at scale text)
      → SpellsNumber scale text spelled → (z ≡ Some spelled) × (whole ≡ true) × (rest ≡ [])
  spelled_parts z whole rest spelled few e s =
      let parts = some_pair_parts _ _ _ _ (e ∙ lone_read spelled few s) in
      (ap (λ r. r.value) parts.0, ap (λ r. r.whole) parts.0, parts.1)

  -- no number was read that is in range
  pub none_spelled : (z : Option ℤ) (whole : Bool) (rest : List ℕ)
      → read_as z whole rest ≡ number_answer most scale (number_at scale text)
      → IfNone z (SpellsNoNumber scale text)
  none_spelled (Some z) whole rest e = tt
  none_spelled None whole rest e = λ z few s. none-some _ (spelled_parts None whole rest z few e s).0

  -- no number was read
  pub nothing_spelled : None ≡ number_answer most scale (number_at scale text)
      → SpellsNoNumber scale text
  nothing_spelled e = λ z few s. none-some _ (e ∙ lone_read z few s)

  pub one_spelled : (y z : ℤ) → SpellsNumber scale text y → SpellsNumber scale text z → y ≡ z
  one_spelled y z s t =
      let same = some_pair_parts _ _ _ _ (sym (spelled_at y s) ∙ spelled_at z t) in
      sym s.same ∙ ap (value scale) same.0 ∙ t.same

-- a number in range is that of a distance
pub is_distance : (scale : Scale) (text : List ℕ) (o : Option Distance) (z : ℤ) (n : ℕ)
    → SpellsNumber scale text z → nat_abs z ≤ greatest_apart (limits_of scale) → z ≡ pos n
    → IfSome o (λ d. units_of d ≡ n) → IfSome o (SpellsDistance scale text)
is_distance scale text None z n s few e same = tt
is_distance scale text (Some d) z n s few e same =
    let allowed : n ≤ greatest_apart (limits_of scale) = subst (λ y. nat_abs y ≤ greatest_apart (limits_of scale)) e few in
    record {
      number = subst (SpellsNumber scale text) (e ∙ ap (λ m. pos m) (sym same)) s;
      allowed = subst (λ m. m ≤ greatest_apart (limits_of scale)) (sym same) allowed;
    }

-- a number that is greater than each distance
pub no_distance : (scale : Scale) (text : List ℕ) (o : Option Distance) (z : ℤ) (n : ℕ)
    → SpellsNumber scale text z → z ≡ pos n → (IsSome o ↔ n ≤ greatest_distance) → IfNone o (SpellsNoDistance scale text)
no_distance scale text (Some d) z n s e bound = tt
no_distance scale text None z n s e bound = λ distance t.
    let same = sym e ∙ one_spelled scale text z (pos (units_of distance)) s t.number in
    absurd (false≢true (bound.1 (omega (arith, ints, same, distance.few))))

pub none_left : (rest : List ℕ) → length rest ≡ 0 → rest ≡ []
none_left [] e = refl
none_left (b ∷ rest) e = absurd (omega (arith, e))
