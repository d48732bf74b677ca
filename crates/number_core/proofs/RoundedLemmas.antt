-- The whole number of units nearest to a number, by the digits before its last unit.
use Rattle.std.proofs.Common.{◌≡◌, true, false, ℕ, zero, suc, ◌+◌, ◌-◌, ◌*◌, ◌/◌, ◌^◌, ◌<◌, ◌≤◌, List, [], ◌∷◌, ◌++◌, length, get_or, take, drop, refl, sym, ap, ap₂, ◌∙◌, inl, inr, subst, ◌⊎◌, ⊎_elim, min, arith}
use Rattle.std.specs.Prelude.{◌==◌, nat_le, Option, Some, if◌then◌else◌}
use Rattle.std.specs.Char.{digit_value}
use Rattle.std.specs.List.{list_all}
use Rattle.std.specs.Str.Parse.{digits_value, digits_value_after}
use Rattle.std.proofs.Math.Nat.{pow-succ', div-eq_of_lt-le, div-mul-le_self, lt-div-mul-add, mul-div-mul_left, mul-le-mul_right, mul-lt-mul_of_pos_right}
use Rattle.std.proofs.lemmas.Bool.{false≢true}
use Rattle.std.proofs.lemmas.Bool.Decides.{nat_tests}
use Rattle.std.proofs.lemmas.Int.Digits.{digits_value_more}
use Rattle.std.proofs.lemmas.List.{length-append}
use Rattle.std.proofs.lemmas.Nat.{pow-add}
use Rattle.std.proofs.lemmas.Str.{digit_value_digit}
use Rattle.number_core.specs.ScaleLimits.{greatest_range}
use Rattle.number_core.specs.Numbers.{IsDigit, Digits, Numeral}
use Rattle.number_core.specs.declared.number.Plain.{Plain}
use Rattle.number_core.specs.declared.number.ReadNumber.{ReadNumber}
use Rattle.number_core.specs.declared.scale.Scale.{Scale}
use Rattle.number_core.specs.Scales.{digits_of, rounding_of}
use Rattle.number_core.specs.declared.scale.Rounding.TheVariants.{Exact, Nearest}
use Rattle.number_core.specs.Values.{kept, nearest, is_whole_by, is_whole, units_by, units}
use Rattle.number_core.specs.NumberSteps.{digits_at, after_digits, sign_at, decimals_at, exponent_at, has_letter, has_digit, number_at, number_answer}
use Rattle.number_core.specs.NumberSteps.{rounds_up, cut, ranged, IsCapped, IsSaturated, IsPlainOf}
use Rattle.number_core.proofs.FractionLemmas.{power_pos}
use Rattle.number_core.proofs.FrontLemmas.{are_digits, are_decimals}
use Rattle.number_core.proofs.NumberLemmas.{by_bool}
use Rattle.number_core.proofs.NumberLemmas.{kept-none, kept-absent, kept-more}

-- ---- the nearest whole number

nearest_is : (a b r : ℕ) → 0 < b → 2 * (r * b) ≤ 2 * a + b → 2 * a + b < 2 * (r * b) + 2 * b → nearest a b ≡ r
nearest_is a b r some low high = div-eq_of_lt-le {k = r} (2 * b) (omega (arith, low)) (omega (arith, high))

nearest_times : (a b c : ℕ) → 0 < c → nearest (a * c) (b * c) ≡ nearest a b
nearest_times a b c some =
    let above : 2 * (a * c) + b * c ≡ c * (2 * a + b) = omega arith in
    let below : 2 * (b * c) ≡ c * (2 * b) = omega arith in
    ap₂ (λ x y. x / y) above below ∙ mul-div-mul_left (2 * a + b) (2 * b) some

nearest_whole : (a b : ℕ) → 0 < b → nearest (a * b) b ≡ a
nearest_whole a b some = nearest_is (a * b) b a some (omega arith) (omega (arith, some))

pub nearest_above : (a b : ℕ) → 0 < b → 2 * (nearest a b * b) ≤ 2 * a + b
nearest_above a b some = omega (arith, div-mul-le_self (2 * a + b) (2 * b))

pub nearest_below : (a b : ℕ) → 0 < b → 2 * a < 2 * (nearest a b * b) + b
nearest_below a b some = omega (arith, lt-div-mul-add {a = 2 * a + b} {b = 2 * b} (omega arith))

pub ruleset nearest_by = (nearest_above, nearest_below)

-- a number between h * 10 + g and the next, in x, by tens of x
module _ (h g v x : ℕ) (some : 0 < x) (digit : g < 10) (low : (h * 10 + g) * x ≤ v) (high : v < (h * 10 + g + 1) * x) where
  nearest_up : 5 ≤ g → nearest v (10 * x) ≡ h + 1
  nearest_up five =
      let least : 5 * x ≤ g * x = mul-le-mul_right x five in
      let most : g * x ≤ 9 * x = mul-le-mul_right x (omega arith) in
      nearest_is v (10 * x) (h + 1) (omega arith) (omega (arith, least, low)) (omega (arith, most, high, some))

  nearest_down : g < 5 → nearest v (10 * x) ≡ h
  nearest_down four =
      let most : g * x ≤ 4 * x = mul-le-mul_right x (omega arith) in
      nearest_is v (10 * x) h (omega arith) (omega (arith, low)) (omega (arith, most, high, some))

-- ---- the digits before a place

pub digits_more : (t i : ℕ) (ds : List ℕ)
    → digits_value_after 10 t (kept (suc i) ds) ≡ digits_value_after 10 t (kept i ds) * 10 + digit_value (get_or ds i 48)
digits_more t zero [] = refl
digits_more t zero (d ∷ ds) = rw (kept-more 0 d ds, kept-none ds, kept-none (d ∷ ds)) refl
digits_more t (suc i) [] = rw (kept-absent (suc i), kept-absent i) (rw (kept-absent i) at (digits_more (t * 10 + digit_value 48) i []))
digits_more t (suc i) (d ∷ ds) = rw (kept-more (suc i) d ds, kept-more i d ds) (digits_more (t * 10 + digit_value d) i ds)

zeros_value : (t m : ℕ) → digits_value_after 10 t (kept m []) ≡ t * 10 ^ m
zeros_value t zero = omega arith
zeros_value t (suc m) =
    let power : t * 10 ^ suc m ≡ t * (10 * 10 ^ m) = ap (λ n. t * n) (pow-succ' 10 m) in
    rw (kept-absent m) (zeros_value (t * 10 + digit_value 48) m ∙ omega (arith, power))

past_value : (t m : ℕ) (ds : List ℕ) → digits_value_after 10 t (kept (length ds + m) ds) ≡ digits_value_after 10 t ds * 10 ^ m
past_value t m [] = let e : 0 + m ≡ m = omega arith in rw e (zeros_value t m)
past_value t m (d ∷ ds) =
    let e : suc (length ds) + m ≡ suc (length ds + m) = omega arith in
    rw (e, kept-more (length ds + m) d ds) (past_value (t * 10 + digit_value d) m ds)

past_digit : (ds : List ℕ) (i : ℕ) → length ds ≤ i → get_or ds i 48 ≡ 48
past_digit [] i h = refl
past_digit (d ∷ ds) zero h = absurd (omega (arith, h))
past_digit (d ∷ ds) (suc i) h = past_digit ds i (omega (arith, h))

pub digit_there : (ds : List ℕ) (i d : ℕ) → Digits ds → i < length ds → IsDigit (get_or ds i d)
digit_there [] i d h lt = absurd (omega (arith, lt))
digit_there (c ∷ ds) zero d h lt = h.0
digit_there (c ∷ ds) (suc i) d h lt = digit_there ds i d h.1 (omega (arith, lt))

digit_is : (d : ℕ) → IsDigit d → (48 ≤ d) × (digit_value d + 48 ≡ d) × (digit_value d < 10)
digit_is d h =
    let low : 48 ≤ d = grind (arith, nat_tests) in
    let high : d < 58 = grind (arith, nat_tests) in
    let v = digit_value_digit d (low, omega (arith, high)) in
    (low, omega (arith, v), omega (arith, v))

value_bounds : (t : ℕ) (ds : List ℕ) → Digits ds
    → (t * 10 ^ length ds ≤ digits_value_after 10 t ds) × (digits_value_after 10 t ds < (t + 1) * 10 ^ length ds)
value_bounds t [] h = (omega arith, omega arith)
value_bounds t (d ∷ ds) h =
    let x = 10 ^ length ds in
    let v = digit_value d in
    let (low, high) = value_bounds (t * 10 + v) ds h.1 in
    let power : 10 ^ suc (length ds) ≡ 10 * x = pow-succ' 10 (length ds) in
    let times : t * 10 ^ suc (length ds) ≡ t * (10 * x) = ap (λ n. t * n) power in
    let most : v * x ≤ 9 * x = mul-le-mul_right x (omega (arith, (digit_is d h.0).2)) in
    (omega (arith, times, low), omega (arith, times, power, most, high))

bounds_at : (place u t : ℕ) (ds : List ℕ) → Digits ds → length ds ≡ place + u →
    let front = digits_value_after 10 t (kept place ds) in
    (front * 10 ^ u ≤ digits_value_after 10 t ds) × (digits_value_after 10 t ds < (front + 1) * 10 ^ u)
bounds_at zero u t ds h e =
    let same : length ds ≡ u = omega (arith, e) in
    rw (kept-none ds) (subst (λ n. (t * 10 ^ n ≤ digits_value_after 10 t ds) × (digits_value_after 10 t ds < (t + 1) * 10 ^ n)) same (value_bounds t ds h))
bounds_at (suc place) u t [] h e = absurd (omega (arith, e))
bounds_at (suc place) u t (d ∷ ds) h e = rw (kept-more place d ds) (bounds_at place u (t * 10 + digit_value d) ds h.1 (omega (arith, e)))

-- ---- the number cut at a place, and rounded

cut_past : (ds : List ℕ) (m : ℕ) → cut (length ds + m) ds ≡ digits_value 10 ds * 10 ^ m
cut_past ds m = rw (past_digit ds (length ds + m) (omega arith)) (omega arith ∙ past_value 0 m ds)

cut_within : (ds : List ℕ) (place u : ℕ) → Digits ds → length ds ≡ place + suc u → nearest (digits_value 10 ds) (10 ^ suc u) ≡ cut place ds
cut_within ds place u h e =
    let g = get_or ds place 48 in
    let is = digit_is g (digit_there ds place 48 h (omega (arith, e))) in
    let front = digits_value 10 (kept place ds) in
    let more : digits_value 10 (kept (suc place) ds) ≡ front * 10 + digit_value g = digits_more 0 place ds in
    let bounds = bounds_at (suc place) u 0 ds h (omega (arith, e)) in
    let low : (front * 10 + digit_value g) * 10 ^ u ≤ digits_value 10 ds = subst (λ n. n * 10 ^ u ≤ digits_value 10 ds) more bounds.0 in
    let high : digits_value 10 ds < (front * 10 + digit_value g + 1) * 10 ^ u = subst (λ n. digits_value 10 ds < (n + 1) * 10 ^ u) more bounds.1 in
    let by_tens : nearest (digits_value 10 ds) (10 ^ suc u) ≡ nearest (digits_value 10 ds) (10 * 10 ^ u) =
    ap (nearest (digits_value 10 ds)) (pow-succ' 10 u) in
    by_tens ∙ by_bool (nat_le 53 g)
    (λ t.
    let five : 53 ≤ g = grind (arith, nat_tests) in
    rw t (nearest_up front (digit_value g) (digits_value 10 ds) (10 ^ u) (power_pos u) is.2 low high (omega (arith, is.1, five))))
    (λ f.
    let four : g < 53 = grind (arith, nat_tests) in
    rw f (nearest_down front (digit_value g) (digits_value 10 ds) (10 ^ u) (power_pos u) is.2 low high (omega (arith, is.1, four)) ∙ omega arith))

module _ (ds : List ℕ) (place p q : ℕ) (h : Digits ds) (e : place + q ≡ length ds + p) where
  abbrev v : ℕ
  v = digits_value 10 ds

  past_nearest : (m : ℕ) → place ≡ length ds + m → nearest (v * 10 ^ p) (10 ^ q) ≡ cut place ds
  past_nearest m at =
      let more : p ≡ m + q = omega (arith, e, at) in
      let power : v * 10 ^ p ≡ v * 10 ^ m * 10 ^ q = ap (λ n. v * 10 ^ n) more ∙ ap (λ n. v * n) (pow-add 10 m q) ∙ omega arith in
      ap (λ a. nearest a (10 ^ q)) power ∙ nearest_whole (v * 10 ^ m) (10 ^ q) (power_pos q) ∙ sym (cut_past ds m) ∙ ap (λ n. cut n ds) (sym at)

  within_nearest : (u : ℕ) → length ds ≡ place + suc u → nearest (v * 10 ^ p) (10 ^ q) ≡ cut place ds
  within_nearest u at =
      let more : q ≡ suc u + p = omega (arith, e, at) in
      ap (λ n. nearest (v * 10 ^ p) n) (ap (λ n. 10 ^ n) more ∙ pow-add 10 (suc u) p) ∙ nearest_times v (10 ^ suc u) (10 ^ p) (power_pos p)
      ∙ cut_within ds place u h at

  nearest_cut : nearest (v * 10 ^ p) (10 ^ q) ≡ cut place ds
  nearest_cut = by_bool (nat_le (length ds) place)
      (λ t. let le : length ds ≤ place = grind (arith, nat_tests) in past_nearest (place - length ds) (omega (arith, le)))
      (λ f. let lt : place < length ds = grind (arith, nat_tests) in within_nearest (length ds - place - 1) (omega (arith, lt)))

-- a number less than a tenth of a unit
nearest_none : (ds : List ℕ) (p q : ℕ) → Digits ds → length ds + p < q → nearest (digits_value 10 ds * 10 ^ p) (10 ^ q) ≡ 0
nearest_none ds p q h less =
    let v = digits_value 10 ds in
    let l = length ds in
    let w = q - (l + p) - 1 in
    let more : q ≡ suc (w + (l + p)) = omega (arith, less) in
    let power : 10 ^ q ≡ 10 * (10 ^ w * (10 ^ l * 10 ^ p)) =
    ap (λ n. 10 ^ n) more ∙ pow-succ' 10 (w + (l + p)) ∙ ap (λ n. 10 * n) (pow-add 10 w (l + p) ∙ ap (λ n. 10 ^ w * n) (pow-add 10 l p)) in
    let bound : v < 10 ^ l = omega (arith, (value_bounds 0 ds h).1) in
    let times : v * 10 ^ p < 10 ^ l * 10 ^ p = mul-lt-mul_of_pos_right bound (power_pos p) in
    let one : 1 * (10 ^ l * 10 ^ p) ≤ 10 ^ w * (10 ^ l * 10 ^ p) = mul-le-mul_right (10 ^ l * 10 ^ p) (power_pos w) in
    nearest_is (v * 10 ^ p) (10 ^ q) 0 (power_pos q) (omega arith) (omega (arith, power, times, one))

-- ---- what the reader computes

pub capped_on : (r x y : ℕ) → IsCapped r x → IsCapped x y → IsCapped r y
capped_on r x y (inl e) h = subst (λ n. IsCapped n y) (sym e) h
capped_on r x y (inr h) (inl e) = inr (h.0, subst (λ n. greatest_range < n) e h.1)
capped_on r x y (inr h) (inr k) = inr (h.0, k.1)

beyond : (v m : ℕ) → 19 ≤ m → greatest_range < suc v * 10 ^ m
beyond v m h =
    let j = m - 19 in
    let more : m ≡ 19 + j = omega (arith, h) in
    let power : 10 ^ m ≡ 10 ^ 19 * 10 ^ j = ap (λ n. 10 ^ n) more ∙ pow-add 10 19 j in
    let least : 10 ^ 19 * 1 ≤ 10 ^ 19 * 10 ^ j = omega (arith, power_pos j) in
    let once : 1 * 10 ^ m ≤ suc v * 10 ^ m = mul-le-mul_right (10 ^ m) (omega arith) in
    omega (arith, power, least, once)

both_beyond : (v m n : ℕ) → 19 ≤ m → 19 ≤ n → IsCapped (v * 10 ^ m) (v * 10 ^ n)
both_beyond zero m n h k = inl (omega arith)
both_beyond (suc v) m n h k = inr (beyond v m h, beyond v n k)

digits_join : (ds es : List ℕ) → Digits ds → Digits es → Digits (ds ++ es)
digits_join [] es h k = k
digits_join (d ∷ ds) es h k = (h.0, digits_join ds es h.1 k)

module _ (ds es : List ℕ) (k : ℕ) (hd : Digits ds) (he : Digits es) where
  abbrev all : List ℕ
  all = ds ++ es

  -- the units of a number times ten to the power of n
  raised_is : (n : ℕ) → nearest (digits_value 10 all * 10 ^ (k + n)) (10 ^ (length es + 0)) ≡ cut (length ds + k + n) all
  raised_is n = nearest_cut all (length ds + k + n) (k + n) (length es + 0) (digits_join ds es hd he) (omega (arith, length-append ds es))

  far_cut : (i j : ℕ) → length all + 19 ≤ i → length all + 19 ≤ j → IsCapped (cut i all) (cut j all)
  far_cut i j h l =
      let m = i - length all in
      let n = j - length all in
      let at_i : cut i all ≡ digits_value 10 all * 10 ^ m = ap (λ x. cut x all) (omega (arith, h)) ∙ cut_past all m in
      let at_j : cut j all ≡ digits_value 10 all * 10 ^ n = ap (λ x. cut x all) (omega (arith, l)) ∙ cut_past all n in
      rw (at_i, at_j) (both_beyond (digits_value 10 all) m n (omega (arith, h)) (omega (arith, l)))

  abbrev IsRaised : ℕ → ℕ → Type 0
  IsRaised r n = IsCapped r (nearest (digits_value 10 all * 10 ^ (k + n)) (10 ^ (length es + 0)))

  -- raised by as much as is read
  near_raised : (r n place : ℕ) → place ≡ length ds + k + n → IsCapped r (cut place all) → IsRaised r n
  near_raised r n place at h = rw (raised_is n) (subst (λ i. IsCapped r (cut i all)) at h)

  -- raised by so much that more makes no difference
  far_raised : (r n place : ℕ) → place ≡ length ds + k + (length es + 19) → length es + 19 ≤ n → IsCapped r (cut place all) → IsRaised r n
  far_raised r n place at far h =
      rw (raised_is n) (capped_on r (cut place all) (cut (length ds + k + n) all) h
      (far_cut place (length ds + k + n) (omega (arith, at, length-append ds es)) (omega (arith, far, length-append ds es))))

  pub raised_units : (r a n raised place : ℕ) → length es < 2 ^ 63 → IsSaturated a n → (raised ≤ a) × (raised ≤ length es + 19) × ((raised ≡ a) ⊎ (raised ≡ length es + 19))
      → place ≡ length ds + k + raised → IsCapped r (cut place all) → IsRaised r n
  raised_units r a n raised place short (inl e) (low, high, inl f) at h = near_raised r n place (omega (arith, at, e, f)) h
  raised_units r a n raised place short (inl e) (low, high, inr f) at h = far_raised r n place (omega (arith, at, f)) (omega (arith, e, f, low)) h
  raised_units r a n raised place short (inr s) (low, high, inl f) at h = absurd (omega (arith, s.0, f, high, short))
  raised_units r a n raised place short (inr s) (low, high, inr f) at h = far_raised r n place (omega (arith, at, f)) (omega (arith, s.1, short)) h

  abbrev IsLowered : ℕ → ℕ → Type 0
  IsLowered r n = IsCapped r (nearest (digits_value 10 all * 10 ^ (k + 0)) (10 ^ (length es + n)))

  lowered_is : (n place : ℕ) → place + n ≡ length ds + k → nearest (digits_value 10 all * 10 ^ (k + 0)) (10 ^ (length es + n)) ≡ cut place all
  lowered_is n place at = nearest_cut all place (k + 0) (length es + n) (digits_join ds es hd he) (omega (arith, at, length-append ds es))

  pub lowered_units : (r a n place : ℕ) → length ds + k < 2 ^ 64 - 1 → IsSaturated a n → place + a ≡ length ds + k → IsCapped r (cut place all) → IsLowered r n
  lowered_units r a n place short (inl e) at h = rw (lowered_is n place (omega (arith, at, e))) h
  lowered_units r a n place short (inr s) at h = absurd (omega (arith, s.0, at, short))

  pub no_units : (a n : ℕ) → IsSaturated a n → length ds + k < a → IsLowered 0 n
  no_units a n s less =
      let past : length ds + k < n = ⊎_elim (λ e. omega (arith, e, less)) (λ t. omega (arith, t.0, t.1, less)) s in
      rw (nearest_none all (k + 0) (length es + n) (digits_join ds es hd he) (omega (arith, past, length-append ds es))) (inl refl)

pub digit_any : (ds es : List ℕ) (i : ℕ) → Digits ds → Digits es → IsDigit (get_or (ds ++ es) i 48)
digit_any ds es i hd he = digit_of (ds ++ es) i (digits_join ds es hd he)
  where
    digit_of : (ds : List ℕ) (i : ℕ) → Digits ds → IsDigit (get_or ds i 48)
    digit_of [] i h = refl
    digit_of (d ∷ ds) zero h = h.0
    digit_of (d ∷ ds) (suc i) h = digit_of ds i h.1

-- one digit more
pub before_more : (ds : List ℕ) (i sum next : ℕ) → ((total : ℕ) → IsCapped sum total → IsCapped next (total * 10 + digit_value (get_or ds i 48)))
    → IsCapped sum (digits_value 10 (kept i ds)) → IsCapped next (digits_value 10 (kept (i + 1) ds))
before_more ds i sum next step h =
    let e : suc i ≡ i + 1 = omega arith in
    subst (IsCapped next) (sym (digits_more 0 i ds) ∙ ap (λ n. digits_value 10 (kept n ds)) e) (step (digits_value 10 (kept i ds)) h)

pub cut_rounded : (ds : List ℕ) (place sum next digit : ℕ) → digit ≡ get_or ds place 48 → IsCapped sum (digits_value 10 (kept place ds))
    → ((total : ℕ) → IsCapped sum total → IsCapped next (total + (if nat_le 53 digit then 1 else 0))) → IsCapped next (cut place ds)
cut_rounded ds place sum next digit d h step =
    subst (λ g. IsCapped next (digits_value 10 (kept place ds) + (if nat_le 53 g then 1 else 0))) d (step (digits_value 10 (kept place ds)) h)

-- ---- the digits of an exponent

saturated_more : (sum total digit tens next : ℕ) → tens ≡ min (sum * 10) 18446744073709551615 → next ≡ min (tens + digit) 18446744073709551615
    → IsSaturated sum total → IsSaturated next (total * 10 + digit)
saturated_more sum total digit tens next t n (inl e) = by_bool (nat_le (sum * 10 + digit) 18446744073709551615)
    (λ v. let small : sum * 10 + digit ≤ 18446744073709551615 = grind (arith, nat_tests) in inl (omega (arith, e, t, n, small)))
    (λ v. let large : 18446744073709551615 < sum * 10 + digit = grind (arith, nat_tests) in inr (omega (arith, t, n, large), omega (arith, e, large)))
saturated_more sum total digit tens next t n (inr far) = inr (omega (arith, t, n, far.0), omega (arith, far.1))

pub amount_more : (ds : List ℕ) (i sum digit tens next : ℕ) → i < length ds → Digits ds → digit ≡ get_or ds i 0 - 48
    → tens ≡ min (sum * 10) 18446744073709551615 → next ≡ min (tens + digit) 18446744073709551615
    → IsSaturated sum (digits_value 10 (take i ds)) → IsSaturated next (digits_value 10 (take (i + 1) ds))
amount_more ds i sum digit tens next lt h d t n s =
    let is = digit_is (get_or ds i 0) (digit_there ds i 0 h lt) in
    let value : digit_value (get_or ds i 0) ≡ digit = omega (arith, is.0, is.1, d) in
    let more : digits_value 10 (take (i + 1) ds) ≡ digits_value 10 (take i ds) * 10 + digit =
    digits_value_more 10 ds i lt ∙ ap (λ v. digits_value 10 (take i ds) * 10 + v) value in
    rw more (saturated_more sum (digits_value 10 (take i ds)) digit tens next t n s)

-- ---- a number without further digits is the same rounded

kept_join : (ds es : List ℕ) (k : ℕ) → kept (length ds + k) (ds ++ es) ≡ ds ++ kept k es
kept_join [] es k = let e : 0 + k ≡ k = omega arith in rw e refl
kept_join (d ∷ ds) es k =
    let e : suc (length ds) + k ≡ suc (length ds + k) = omega arith in
    rw (e, kept-more (length ds + k) d (ds ++ es)) (ap (λ t. d ∷ t) (kept_join ds es k))

digit_join : (ds es : List ℕ) (k : ℕ) → get_or (ds ++ es) (length ds + k) 48 ≡ get_or es k 48
digit_join [] es k = let e : 0 + k ≡ k = omega arith in rw e refl
digit_join (d ∷ ds) es k =
    let e : suc (length ds) + k ≡ suc (length ds + k) = omega arith in
    rw e (digit_join ds es k)

zero_there : (k : ℕ) (es : List ℕ) → list_all (λ d. d == 48) (drop k es) ≡ true → get_or es k 48 ≡ 48
zero_there k [] h = refl
zero_there zero (d ∷ es) h = by_bool (d == 48)
    (λ t. grind (arith, nat_tests))
    (λ f. absurd (false≢true (sym (rw f refl) ∙ h)))
zero_there (suc k) (d ∷ es) h = zero_there k es h

pub whole_units : (k : ℕ) (n : Numeral) → Digits n.digits → Digits n.decimals → n.exponent ≡ [] → is_whole_by Exact k n ≡ true
    → units_by Nearest k n ≡ units_by Exact k n
whole_units k n hd he none whole =
    let ds = n.digits in
    let es = n.decimals in
    let raise : (if n.lowers then 0 else digits_value 10 n.exponent) ≡ 0 = rw none (by_bool n.lowers (λ t. rw t refl) (λ f. rw f refl)) in
    let lower : (if n.lowers then digits_value 10 n.exponent else 0) ≡ 0 = rw none (by_bool n.lowers (λ t. rw t refl) (λ f. rw f refl)) in
    let zero_next : get_or (ds ++ es) (length ds + k) 48 ≡ 48 = digit_join ds es k ∙ zero_there k es whole in
    let at : cut (length ds + k) (ds ++ es) ≡ digits_value 10 (ds ++ kept k es) = rw (zero_next, kept_join ds es k) (omega arith) in
    rw (raise, lower)
    (nearest_cut (ds ++ es) (length ds + k) (k + 0) (length es + 0) (digits_join ds es hd he) (omega (arith, length-append ds es)) ∙ at)

-- ---- a number without an exponent

plain_units : (ds es : List ℕ) (k : ℕ) → Digits ds → Digits es
    → nearest (digits_value 10 (ds ++ es) * 10 ^ (k + 0)) (10 ^ (length es + 0)) ≡ digits_value 10 (ds ++ kept k es) + (if rounds_up k es then 1 else 0)
plain_units ds es k hd he =
    nearest_cut (ds ++ es) (length ds + k) (k + 0) (length es + 0) (digits_join ds es hd he) (omega (arith, length-append ds es))
    ∙ ap₂ (λ xs d. digits_value 10 xs + (if nat_le 53 d then 1 else 0)) (kept_join ds es k) (digit_join ds es k)

no_letter : (text : List ℕ) → has_letter text ≡ false → exponent_at text ≡ (false, [], text)
no_letter [] h = refl
no_letter (b ∷ text) h = rw h refl

digit_before : (ds es : List ℕ) → has_digit ds ≡ true → has_digit (ds ++ es) ≡ true
digit_before [] es h = absurd (false≢true h)
digit_before (d ∷ ds) es h = refl

-- a number with a digit before its dot and no exponent is read as it is cut off, and rounded up by
-- the digit after that
pub plain_rounded : (most : ℕ) (scale : Scale) (text rest : List ℕ) (plain : Plain) (read : ReadNumber) → rounding_of scale ≡ Nearest → IsPlainOf scale text plain rest
    → has_letter rest ≡ false
    → ((total : ℕ) → IsCapped plain.units total → read.value ≡ ranged most plain.negative (total + (if plain.up then 1 else 0))) → read.whole ≡ true
    → ◌≡◌ {A = Option (ReadNumber × List ℕ)} (Some (read, rest)) (number_answer most scale (number_at scale text))
plain_rounded most scale text rest plain read rounds h none v whole =
    let unsigned = (sign_at text).1 in
    let ds = digits_at unsigned in
    let es = (decimals_at (after_digits unsigned)).0 in
    let k = digits_of scale in
    let n : Numeral = record { negative = (sign_at text).0; digits = ds; decimals = es; lowers = false; exponent = [] } in
    let ends : exponent_at (decimals_at (after_digits unsigned)).1 ≡ (false, [], (decimals_at (after_digits unsigned)).1) = no_letter _ (rw h.after at none) in
    let taken : number_at scale text ≡ Some (n, (decimals_at (after_digits unsigned)).1) = rw (rounds, digit_before ds es h.some, ends) refl in
    let total = digits_value 10 (ds ++ kept k es) in
    let worth : units scale n ≡ total + (if rounds_up k es then 1 else 0) =
    ap (λ r. units_by r k n) rounds ∙ plain_units ds es k (are_digits unsigned) (are_decimals (after_digits unsigned)) in
    let same_value : read.value ≡ ranged most (sign_at text).0 (units scale n) =
    v total h.units ∙ ap₂ (λ b up. ranged most b (total + (if up then 1 else 0))) h.negative h.up ∙ ap (ranged most (sign_at text).0) (sym worth) in
    let same_whole : read.whole ≡ is_whole scale n = whole ∙ sym (ap (λ r. is_whole_by r k n) rounds) in
    (λ i. Some (record { value = same_value i; whole = same_whole i }, h.after i)) ∙ sym (ap (number_answer most scale) taken)
