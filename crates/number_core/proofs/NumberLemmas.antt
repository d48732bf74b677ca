-- The value of digits, one digit on.
use Rattle.std.proofs.Common.{◌≡◌, Bool, true, false, cond, ℕ, suc, ◌+◌, ◌-◌, ◌*◌, ◌<◌, ◌≤◌, List, [], ◌∷◌}
use Rattle.std.proofs.Common.{◌++◌, length, get_or, take, drop, drop-drop, refl, sym, ap, ◌∙◌, inl, inr, subst, arith}
use Rattle.std.proofs.Math.Seq.{take-nil, take-length}
use Rattle.std.specs.Prelude.{◌==◌, ℤ, Option, if◌then◌else◌}
use Rattle.std.specs.Char.{digit_value, is_ascii_digit}
use Rattle.std.specs.List.{list_all}
use Rattle.std.specs.Str.Parse.{digits_value, digits_value_after}
use Rattle.std.proofs.lemmas.Bool.Decides.{nat_tests}
use Rattle.number_core.specs.declared.number.Plain.{Plain}
use Rattle.number_core.specs.declared.scale.Scale.{Scale}
use Rattle.number_core.specs.Numbers.{IsDigit}
use Rattle.number_core.specs.ScaleLimits.{greatest_range}
use Rattle.number_core.specs.Scales.{digits_of}
use Rattle.number_core.specs.Values.{kept}
use Rattle.number_core.specs.NumberSteps.{digits_at, after_digits, sign_at, decimals_at, has_digit, rounds_up, IsCapped, IsPlainOf, ranged}

-- ---- tests

pub by_bool : {P : Type 0} (b : Bool) → (b ≡ true → P) → (b ≡ false → P) → P
by_bool true f g = f refl
by_bool false f g = g refl

-- ---- digits

-- digits after digits
pub digits_value_after-append : (n : ℕ) (ds es : List ℕ) → digits_value_after 10 n (ds ++ es) ≡ digits_value_after 10 (digits_value_after 10 n ds) es
digits_value_after-append n [] es = refl
digits_value_after-append n (d ∷ ds) es = digits_value_after-append (n * 10 + digit_value d) ds es

-- ---- the digits that are kept

pub kept-none : (ds : List ℕ) → kept 0 ds ≡ []
kept-none [] = refl
kept-none (d ∷ ds) = let e : 0 - suc (length ds) ≡ 0 = omega arith in rw e refl

pub kept-absent : (k : ℕ) → kept (suc k) [] ≡ 48 ∷ kept k []
kept-absent k =
    let e : suc k - 0 ≡ suc k = omega arith in
    let f : k - 0 ≡ k = omega arith in
    rw (e, f, take-nil {A = ℕ} k) refl

pub kept-more : (k d : ℕ) (ds : List ℕ) → kept (suc k) (d ∷ ds) ≡ d ∷ kept k ds
kept-more k d ds = let e : suc k - suc (length ds) ≡ k - length ds = omega arith in rw e refl

-- ---- a digit at the front

-- the digit and the text after it
pub digit_taken : (text : List ℕ) → 1 ≤ length text → 48 ≤ get_or text 0 0 → get_or text 0 0 < 58
    → let rest = take (length text - 1) (drop 1 text) in (digits_at text ≡ get_or text 0 0 ∷ digits_at rest) × (after_digits text ≡ after_digits rest)
digit_taken [] some low high = absurd (omega arith)
digit_taken (b ∷ text) some low high =
    let e : suc (length text) - 1 ≡ length text = omega arith in
    rw (e, take-length text) (grind (arith, nat_tests), grind (arith, nat_tests))

not_digit : (b : ℕ) (text : List ℕ) (v : Bool) → is_ascii_digit b ≡ v → (48 ≤ b → b < 58 → ⊥) → cond v (b ∷ digits_at text) [] ≡ []
not_digit b text true e none = absurd (none (grind (arith, nat_tests)) (grind (arith, nat_tests)))
not_digit b text false e none = refl

pub no_digit : (text : List ℕ) → (1 ≤ length text → 48 ≤ get_or text 0 0 → get_or text 0 0 < 58 → ⊥) → digits_at text ≡ []
no_digit [] none = refl
no_digit (b ∷ text) none = not_digit b text (is_ascii_digit b) refl (none (omega arith))

-- ---- capped numbers

-- the number represents one that further digits extend to the total
pub record LeadsTo (sum : ℕ) (ds : List ℕ) (total : ℕ) : Type 0 where
  pub so_far : ℕ
  pub capped : IsCapped sum so_far
  pub whole : digits_value_after 10 so_far ds ≡ total

pub leads_on : (sum next digit total : ℕ) (ds es : List ℕ) → ((n : ℕ) → IsCapped sum n → IsCapped next (n * 10 + digit_value digit)) → ds ≡ digit ∷ es
    → LeadsTo sum ds total → LeadsTo next es total
leads_on sum next digit total ds es step e l = record {
  so_far = l.so_far * 10 + digit_value digit;
  capped = step l.so_far l.capped;
  whole = ap (digits_value_after 10 l.so_far) (sym e) ∙ l.whole;
}

pub led : (sum total : ℕ) (ds : List ℕ) → ds ≡ [] → LeadsTo sum ds total → IsCapped sum total
led sum total ds e l = let same : l.so_far ≡ total = ap (digits_value_after 10 l.so_far) (sym e) ∙ l.whole in rw same at l.capped

-- one decimal on
pub next_dropped : (i : ℕ) (ds rest after : List ℕ) → after ≡ drop 1 rest → rest ≡ drop i ds → after ≡ drop (i + 1) ds
next_dropped i ds rest after e f = e ∙ ap (drop 1) f ∙ drop-drop 1 i ds

-- a number takes a decimal from the front of a text
pub record Takes (sum next : ℕ) (rest after : List ℕ) : Type 0 where
  pub digit : ℕ
  pub step : (n : ℕ) → IsCapped sum n → IsCapped next (n * 10 + digit_value digit)
  pub more : (k : ℕ) → kept (suc k) rest ≡ digit ∷ kept k after

pub next_taken : (sum next digit : ℕ) (rest after : List ℕ) → IsDigit digit → ((n : ℕ) → IsCapped sum n → IsCapped next (n * 10 + digit_value digit))
    → ((k : ℕ) → kept (suc k) rest ≡ digit ∷ kept k after) → Takes sum next rest after
next_taken sum next digit rest after is step more = record { digit = digit; step = step; more = more }

pub decimal_led : (count i sum next : ℕ) (total : ℕ) (rest after : List ℕ) → i < count → LeadsTo sum (kept (count - i) (digits_at rest)) total
    → Takes sum next (digits_at rest) (digits_at after) → LeadsTo next (kept (count - (i + 1)) (digits_at after)) total
decimal_led count i sum next total rest after some l t =
    let e : count - i ≡ suc (count - (i + 1)) = omega arith in
    leads_on sum next t.digit total (kept (count - i) (digits_at rest)) (kept (count - (i + 1)) (digits_at after)) t.step
    (ap (λ k. kept k (digits_at rest)) e ∙ t.more (count - (i + 1))) l

pub ranged_capped : (most : ℕ) (negative : Bool) (sum total : ℕ) → most ≤ greatest_range → IsCapped sum total → ranged most negative sum ≡ ranged most negative total
ranged_capped most negative sum total few (inl e) = ap (ranged most negative) e
ranged_capped most negative sum total few (inr h) = grind (arith, nat_tests)

pub rounded_value : (most : ℕ) (negative up : Bool) (number next : ℕ) (value : Option ℤ) → most ≤ greatest_range → value ≡ ranged most negative next
    → ((total : ℕ) → IsCapped number total → IsCapped next (total + (if up then 1 else 0)))
    → (total : ℕ) → IsCapped number total → value ≡ ranged most negative (total + (if up then 1 else 0))
rounded_value most negative up number next value few v step total h = v ∙ ranged_capped most negative next _ few (step total h)

-- ---- a number up to its exponent

pub plain_read : (scale : Scale) (text unsigned rest behind : List ℕ) (plain : Plain) (negative : Bool) (part : ℕ)
    → negative ≡ (sign_at text).0 → unsigned ≡ (sign_at text).1 → 1 ≤ length unsigned → 48 ≤ get_or unsigned 0 0 → get_or unsigned 0 0 < 58
    → IsCapped part (digits_value 10 (digits_at unsigned)) → rest ≡ after_digits unsigned → plain.negative ≡ negative
    → ((total : ℕ) → IsCapped part total → IsCapped plain.units (digits_value_after 10 total (kept (digits_of scale) (decimals_at rest).0)))
    → plain.whole ≡ list_all (λ d. d == 48) (drop (digits_of scale) (decimals_at rest).0) → plain.up ≡ rounds_up (digits_of scale) (decimals_at rest).0
    → behind ≡ (decimals_at rest).1 → IsPlainOf scale text plain behind
plain_read scale text unsigned rest behind plain negative part n u some low high p r same k w up b =
    let after : rest ≡ after_digits (sign_at text).1 = r ∙ ap after_digits u in
    let ds = digits_at (sign_at text).1 in
    let es = kept (digits_of scale) (decimals_at (after_digits (sign_at text).1)).0 in
    let capped : IsCapped plain.units (digits_value_after 10 (digits_value 10 ds) es) = rw (after, u) at (k (digits_value 10 (digits_at unsigned)) p) in
    let front = (digit_taken unsigned some low high).0 in
    record {
      negative = same ∙ n;
      some = ap has_digit (ap digits_at (sym u) ∙ front);
      units = subst (IsCapped plain.units) (sym (digits_value_after-append 0 ds es)) capped;
      whole = rw after at w;
      up = rw after at up;
      after = rw after at b;
    }
