-- The table of digits, and that a text of digits spells one list of bytes.
use Rattle.std.proofs.Common.{◌≡◌, ◌+◌, ◌*◌, ◌<◌, ◌≤◌, ℕ, true, false, List, [], ◌∷◌, ⊎_elim, get_or, drop, refl, sym, ◌∙◌, ap, ap₂, arith}
use Rattle.std.specs.Prelude.{Option, Some, None}
use Rattle.std.proofs.lemmas.Bool.Decides.{nat_tests}
use Rattle.double_core.proofs.TableLemmas.{values, value_at}
use Rattle.number_core.proofs.NumberLemmas.{by_bool}
use Rattle.wkt_core.specs.Grammar.{is_blank}
use Rattle.wkt_core.specs.TokenSteps.{skip}
use Rattle.geometry_text_core.specs.Hexadecimal.{digit_value, TakesPair, SpellsBytes}
use Rattle.geometry_text_core.specs.Binary.{TakesEach}
use Rattle.geometry_text_core.proofs.EachLemmas.{IsOnly, Next, forked}

some_one : (a b : ℕ) → Some a ≡ Some b → a ≡ b
some_one a b e = cc

pub pair_only : IsOnly TakesPair
pair_only = record { value = λ b x y r s h k. (same b x y r s h k).0; rest = λ b x y r s h k. (same b x y r s h k).1 }
  where
    same : (b : List ℕ) (x y : ℕ) (r s : List ℕ) → TakesPair b x r → TakesPair b y s → (x ≡ y) × (r ≡ s)
    same b x y r s (h, l, a, c, e, i, j, v) (g, k, d, f, o, m, n, w) =
        let both = sym e ∙ o in
        let one : h ≡ g = ap (λ t. get_or t 0 0) both in
        let two : l ≡ k = ap (λ t. get_or t 1 0) both in
        let high : a ≡ d = some_one a d (sym i ∙ ap digit_value one ∙ m) in
        let low : c ≡ f = some_one c f (sym j ∙ ap digit_value two ∙ n) in
        (v ∙ ap₂ (λ p q. 16 * p + q) high low ∙ sym w, ap (λ t. drop 2 t) both)

-- ---- the table of digits

abbrev or_no_digit : Option ℕ → ℕ
or_no_digit (Some v) = v
or_no_digit None = 255

abbrev pub digits : List ℕ
digits = 255 ∷ 255 ∷ 255 ∷ 255 ∷ 255 ∷ 255 ∷ 255 ∷ 255 ∷ 255 ∷ 255 ∷ 255 ∷ 255 ∷ 255 ∷ 255 ∷ 255 ∷ 255
    ∷ 255 ∷ 255 ∷ 255 ∷ 255 ∷ 255 ∷ 255 ∷ 255 ∷ 255 ∷ 255 ∷ 255 ∷ 255 ∷ 255 ∷ 255 ∷ 255 ∷ 255 ∷ 255
    ∷ 255 ∷ 255 ∷ 255 ∷ 255 ∷ 255 ∷ 255 ∷ 255 ∷ 255 ∷ 255 ∷ 255 ∷ 255 ∷ 255 ∷ 255 ∷ 255 ∷ 255 ∷ 255
    ∷ 0 ∷ 1 ∷ 2 ∷ 3 ∷ 4 ∷ 5 ∷ 6 ∷ 7 ∷ 8 ∷ 9 ∷ 255 ∷ 255 ∷ 255 ∷ 255 ∷ 255 ∷ 255
    ∷ 255 ∷ 10 ∷ 11 ∷ 12 ∷ 13 ∷ 14 ∷ 15 ∷ 255 ∷ 255 ∷ 255 ∷ 255 ∷ 255 ∷ 255 ∷ 255 ∷ 255 ∷ 255
    ∷ 255 ∷ 255 ∷ 255 ∷ 255 ∷ 255 ∷ 255 ∷ 255 ∷ 255 ∷ 255 ∷ 255 ∷ 255 ∷ 255 ∷ 255 ∷ 255 ∷ 255 ∷ 255
    ∷ 255 ∷ 10 ∷ 11 ∷ 12 ∷ 13 ∷ 14 ∷ 15 ∷ 255 ∷ 255 ∷ 255 ∷ 255 ∷ 255 ∷ 255 ∷ 255 ∷ 255 ∷ 255
    ∷ 255 ∷ 255 ∷ 255 ∷ 255 ∷ 255 ∷ 255 ∷ 255 ∷ 255 ∷ 255 ∷ 255 ∷ 255 ∷ 255 ∷ 255 ∷ 255 ∷ 255 ∷ 255
    ∷ 255 ∷ 255 ∷ 255 ∷ 255 ∷ 255 ∷ 255 ∷ 255 ∷ 255 ∷ 255 ∷ 255 ∷ 255 ∷ 255 ∷ 255 ∷ 255 ∷ 255 ∷ 255
    ∷ 255 ∷ 255 ∷ 255 ∷ 255 ∷ 255 ∷ 255 ∷ 255 ∷ 255 ∷ 255 ∷ 255 ∷ 255 ∷ 255 ∷ 255 ∷ 255 ∷ 255 ∷ 255
    ∷ 255 ∷ 255 ∷ 255 ∷ 255 ∷ 255 ∷ 255 ∷ 255 ∷ 255 ∷ 255 ∷ 255 ∷ 255 ∷ 255 ∷ 255 ∷ 255 ∷ 255 ∷ 255
    ∷ 255 ∷ 255 ∷ 255 ∷ 255 ∷ 255 ∷ 255 ∷ 255 ∷ 255 ∷ 255 ∷ 255 ∷ 255 ∷ 255 ∷ 255 ∷ 255 ∷ 255 ∷ 255
    ∷ 255 ∷ 255 ∷ 255 ∷ 255 ∷ 255 ∷ 255 ∷ 255 ∷ 255 ∷ 255 ∷ 255 ∷ 255 ∷ 255 ∷ 255 ∷ 255 ∷ 255 ∷ 255
    ∷ 255 ∷ 255 ∷ 255 ∷ 255 ∷ 255 ∷ 255 ∷ 255 ∷ 255 ∷ 255 ∷ 255 ∷ 255 ∷ 255 ∷ 255 ∷ 255 ∷ 255 ∷ 255
    ∷ 255 ∷ 255 ∷ 255 ∷ 255 ∷ 255 ∷ 255 ∷ 255 ∷ 255 ∷ 255 ∷ 255 ∷ 255 ∷ 255 ∷ 255 ∷ 255 ∷ 255 ∷ 255
    ∷ 255 ∷ 255 ∷ 255 ∷ 255 ∷ 255 ∷ 255 ∷ 255 ∷ 255 ∷ 255 ∷ 255 ∷ 255 ∷ 255 ∷ 255 ∷ 255 ∷ 255 ∷ 255 ∷ []

digits_are : digits ≡ values (λ b. or_no_digit (digit_value b)) 0 256
unfolding values
digits_are = refl

digit_at : (b : ℕ) → b < 256 → get_or digits b 0 ≡ or_no_digit (digit_value b)
digit_at b h =
    let same : 0 + b ≡ b = omega arith in
    ap (λ (l : List ℕ). get_or l b 0) digits_are ∙ value_at (λ (k : ℕ). or_no_digit (digit_value k)) 0 256 b 0 h ∙ ap (λ (k : ℕ). or_no_digit (digit_value k)) same

digit_few : (b v : ℕ) → digit_value b ≡ Some v → v < 16
digit_few b v e = grind (arith, nat_tests)

some_read : (o : Option ℕ) (x : ℕ) → x ≡ or_no_digit o → x < 16 → Some x ≡ o
some_read (Some v) x e small = ap Some e
some_read None x e small = absurd (omega (arith, e, small))

none_read : (o : Option ℕ) (x : ℕ) → ((v : ℕ) → o ≡ Some v → v < 16) → x ≡ or_no_digit o → 16 ≤ x → None ≡ o
none_read (Some v) x few e great = absurd (omega (arith, e, great, few v refl))
none_read None x few e great = refl

pub digit_read : (b : ℕ) → b < 256 → get_or digits b 0 < 16 → Some (get_or digits b 0) ≡ digit_value b
digit_read b h small = some_read (digit_value b) (get_or digits b 0) (digit_at b h) small

pub digit_refused : (b : ℕ) → b < 256 → 16 ≤ get_or digits b 0 → None ≡ digit_value b
digit_refused b h great = none_read (digit_value b) (get_or digits b 0) (digit_few b) (digit_at b h) great

-- ---- a text spells one list of bytes

digit_stays : (b v : ℕ) → digit_value b ≡ Some v → is_blank b ≡ false
digit_stays b v e = by_bool (is_blank b) (λ t. absurd (none t)) (λ f. f)
  where
    none : is_blank b ≡ true → ⊥
    none t = grind (arith, nat_tests)

-- no text ends where a pair of digits follows
pub no_end : (text : List ℕ) → Next TakesPair text → skip text ≡ [] → ⊥
no_end text (byte, m, (h, l, a, c, e, i, j, v)) empty =
    let at : skip text ≡ h ∷ l ∷ m = ap skip e ∙ rw (digit_stays h a i) refl in
    let none : [] ≡ h ∷ l ∷ m = sym empty ∙ at in
    absurd cc

pub bytes_one : (text : List ℕ) (xs ys : List ℕ) → SpellsBytes text xs → SpellsBytes text ys → xs ≡ ys
bytes_one text xs ys (r, h, p) (s, k, q) =
    ⊎_elim (λ same. same.0) (λ more. absurd (⊎_elim (λ n. no_end r n p) (λ n. no_end s n q) more))
    (forked TakesPair pair_only xs ys (skip text) r s h k)

-- where no pair follows and the text isn't at its end, it spells no bytes
pub no_bytes : (text : List ℕ) (done : List ℕ) (rest : List ℕ) → TakesEach TakesPair (skip text) done rest → (Next TakesPair rest → ⊥) → (skip rest ≡ [] → ⊥)
    → (ys : List ℕ) → SpellsBytes text ys → ⊥
no_bytes text done rest h none not_end ys (s, k, q) =
    ⊎_elim (λ same. not_end (ap skip same.1 ∙ q)) (λ more. ⊎_elim none (λ n. no_end s n q) more)
    (forked TakesPair pair_only done ys (skip text) rest s h k)
