-- The digits of a fraction, and their value.
use Rattle.std.proofs.Common.{◌≡◌, ℕ, zero, suc, ◌+◌, ◌*◌, ◌/◌, ◌%◌, ◌^◌, ◌<◌, ◌≤◌, Bool, true, false, cond, eqb, List, []}
use Rattle.std.proofs.Common.{◌∷◌, ◌++◌, length, drop, refl, sym, ap, ◌∙◌, inl, inr, subst, arith, drop_of_length-le}
use Rattle.std.proofs.Math.Nat.{pow-succ', mod-lt, div-add-mod, div-lt_iff_lt-mul}
use Rattle.std.specs.Prelude.{codes}
use Rattle.std.specs.Fmt.{decimal}
use Rattle.std.specs.Char.{digit_value}
use Rattle.std.specs.Str.Parse.{digits_value_after}
use Rattle.std.proofs.lemmas.Bool.Decides.{nat_tests}
use Rattle.std.proofs.lemmas.Fmt.{decimal_digit}
use Rattle.std.proofs.lemmas.List.{append_assoc}
use Rattle.std.proofs.lemmas.Str.{digit_value_digit}
use Rattle.number_core.specs.Numbers.{Digits, Decimals}
use Rattle.number_core.specs.CanonicalNumbers.{decimals, fraction}
use Rattle.number_core.specs.Values.{kept}
use Rattle.number_core.proofs.NumberLemmas.{kept-absent, kept-more}

-- ---- powers of ten

pub power_pos : (k : ℕ) → 0 < 10 ^ k
power_pos zero = omega arith
power_pos (suc k) = omega (arith, pow-succ' 10 k, power_pos k)

-- the first digit of a fraction
pub first_digit : (k f : ℕ) → f < 10 ^ suc k → f / 10 ^ k < 10
first_digit k f h = let p = power_pos k in let e = pow-succ' 10 k in (div-lt_iff_lt-mul p).1 (omega arith)

-- ---- the digits of a fraction

pub decimals-zero : (k : ℕ) → decimals k 0 ≡ []
decimals-zero zero = refl
decimals-zero (suc k) = refl

pub decimals-more : (k f : ℕ) → 0 < f → decimals (suc k) f ≡ decimal (f / 10 ^ k) ++ decimals k (f % 10 ^ k)
decimals-more k f h = let e : eqb f 0 ≡ false = grind (arith, nat_tests) in rw e refl

-- the same, with its first digit
decimals-cons : (k f : ℕ) → 0 < f → f < 10 ^ suc k → decimals (suc k) f ≡ (48 + f / 10 ^ k) ∷ decimals k (f % 10 ^ k)
decimals-cons k f h small = decimals-more k f h ∙ ap (λ ds. ds ++ decimals k (f % 10 ^ k)) (decimal_digit (f / 10 ^ k) (first_digit k f small))

pub decimals_digits : (k f : ℕ) → f < 10 ^ k → Digits (decimals k f)
decimals_digits zero f h = tt
decimals_digits (suc k) zero h = tt
decimals_digits (suc k) (suc f) h =
    let d = first_digit k (suc f) h in
    subst Digits (sym (decimals-cons k (suc f) (omega arith) h))
    (grind (arith, nat_tests), decimals_digits k (suc f % 10 ^ k) (mod-lt (suc f) (power_pos k)))

pub length-decimals : (k f : ℕ) → f < 10 ^ k → length (decimals k f) ≤ k
length-decimals zero f h = omega arith
length-decimals (suc k) zero h = omega arith
length-decimals (suc k) (suc f) h =
    let rest = length-decimals k (suc f % 10 ^ k) (mod-lt (suc f) (power_pos k)) in
    rw (decimals-cons k (suc f) (omega arith) h) (omega arith)

pub decimals_kept : (k f : ℕ) → f < 10 ^ k → drop k (decimals k f) ≡ []
decimals_kept k f h = drop_of_length-le (decimals k f) (length-decimals k f h)

-- ---- what they stand for

pub decimals_value : (k f t : ℕ) → f < 10 ^ k → digits_value_after 10 t (kept k (decimals k f)) ≡ t * 10 ^ k + f
decimals_value zero f t h = omega arith
decimals_value (suc k) zero t h =
    let rest = decimals_value k 0 (t * 10 + digit_value 48) (power_pos k) in
    let zeros : digits_value_after 10 (t * 10 + digit_value 48) (kept k []) ≡ (t * 10 + digit_value 48) * 10 ^ k + 0 =
    rw (decimals-zero k) at rest in
    let power = ap (λ n. t * n) (pow-succ' 10 k) in
    rw (kept-absent k) (zeros ∙ omega (arith, power))
decimals_value (suc k) (suc f) t h =
    let q = suc f / 10 ^ k in
    let r = suc f % 10 ^ k in
    let small = first_digit k (suc f) h in
    let value : digit_value (48 + q) ≡ q = omega (arith, digit_value_digit (48 + q) (omega arith, omega arith)) in
    let rest = decimals_value k r (t * 10 + digit_value (48 + q)) (mod-lt (suc f) (power_pos k)) in
    let power = ap (λ n. t * n) (pow-succ' 10 k) in
    let split : q * 10 ^ k + r ≡ suc f = omega (arith, div-add-mod (suc f) (10 ^ k)) in
    let shifted : (t * 10 + digit_value (48 + q)) * 10 ^ k + r ≡ (t * 10 + q) * 10 ^ k + r = ap (λ d. (t * 10 + d) * 10 ^ k + r) value in
    rw (decimals-cons k (suc f) (omega arith) h, kept-more k (48 + q) (decimals k r)) (rest ∙ shifted ∙ omega (arith, power, split))

-- ---- its text

with_dot : (k f : ℕ) (v : Bool) → eqb f 0 ≡ v → f < 10 ^ k → Decimals (decimals k f) (cond v [] (codes "." ++ decimals k f))
with_dot k f true e h =
    let none : f ≡ 0 = grind (arith, nat_tests) in
    (decimals_digits k f h, inl (ap (decimals k) none ∙ decimals-zero k, refl))
with_dot k f false e h = (decimals_digits k f h, inr refl)

pub fraction_printed : (k f : ℕ) → f < 10 ^ k → Decimals (decimals k f) (fraction k f)
fraction_printed k f h = with_dot k f (eqb f 0) refl h

-- ---- one digit printed

pub digit_printed : (k place rest : ℕ) (old new digit total : List ℕ) → place ≡ 10 ^ k → rest < 10 ^ k → 0 < rest → new ≡ old ++ digit
    → digit ≡ decimal (rest / (place / 10)) → old ++ decimals k rest ≡ total
    → (j : ℕ) × (place / 10 ≡ 10 ^ j) × (rest % (place / 10) < 10 ^ j) × (new ++ decimals j (rest % (place / 10)) ≡ total)
digit_printed zero place rest old new digit total e small some n d t = absurd (omega arith)
digit_printed (suc k) place rest old new digit total e small some n d t =
    let lower : place / 10 ≡ 10 ^ k = ap (λ n. n / 10) (e ∙ pow-succ' 10 k) ∙ omega arith in
    let below = mod-lt rest (power_pos k) in
    let first : digit ≡ decimal (rest / 10 ^ k) = rw lower at d in
    let whole : old ++ decimals (suc k) rest ≡ old ++ (digit ++ decimals k (rest % 10 ^ k)) =
    ap (λ ds. old ++ ds) (decimals-more k rest some ∙ ap (λ ds. ds ++ decimals k (rest % 10 ^ k)) (sym first)) in
    (k, lower, rw lower below, rw (lower, n) (append_assoc old digit (decimals k (rest % 10 ^ k)) ∙ sym whole ∙ t))
