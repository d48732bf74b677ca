-- The steps of the reader of a number read exactly what the grammar allows.
use Rattle.std.proofs.Common.{◌||◌, ◌≡◌, ℕ, ◌<◌, ◌≤◌, Bool, true, false, cond, List, [], ◌∷◌, ◌++◌, length, Some, None, inl, inr, refl, sym, ◌∙◌, ap, subst}
use Rattle.std.proofs.Common.{arith, eqb, ◌+◌}
use Rattle.std.specs.Prelude.{IfSome}
use Rattle.std.proofs.lemmas.Bool.{eqb-true, false≢true}
use Rattle.std.specs.Char.{is_ascii_digit}
use Rattle.std.proofs.lemmas.Bool.Decides.{nat_tests}
use Rattle.std.proofs.lemmas.List.{append_assoc, length-append}
use Rattle.number_core.specs.declared.scale.Rounding.{Rounding}
use Rattle.number_core.specs.declared.scale.Rounding.TheVariants.{Exact, Nearest}
use Rattle.number_core.specs.declared.scale.Scale.{Scale}
use Rattle.number_core.specs.Scales.{rounding_of}
use Rattle.number_core.specs.Numbers.{Numeral, Digits, Sign, Decimals, Letter, Exponent, IsTaken, Written, Number, Ends}
use Rattle.number_core.specs.NumberSteps.{digits_at, after_digits, sign_at, decimals_at, exponent_with, exponent_at, exponent_by}
use Rattle.number_core.specs.NumberSteps.{has_digit, is_taken, numeral_with, number_at}
use Rattle.number_core.proofs.NumberLemmas.{by_bool}

-- there is no digit at the start
abbrev pub NoDigit : List ℕ → Type 0
NoDigit [] = Unit {0}
NoDigit (b ∷ text) = is_ascii_digit b ≡ false

-- ---- digits

pub digits_split : (text : List ℕ) → text ≡ digits_at text ++ after_digits text
digits_split [] = refl
digits_split (b ∷ text) = grind (arith, digits_split text)

pub are_digits : (text : List ℕ) → Digits (digits_at text)
are_digits [] = tt
are_digits (b ∷ text) = grind (arith, are_digits text)

pub digits_at_front : (ds text : List ℕ) → Digits ds → NoDigit text → digits_at (ds ++ text) ≡ ds
digits_at_front [] [] h n = refl
digits_at_front [] (b ∷ text) h n = rw n refl
digits_at_front (d ∷ ds) text h n = rw h.0 (ap (λ u. d ∷ u) (digits_at_front ds text h.1 n))

pub after_digits_front : (ds text : List ℕ) → Digits ds → NoDigit text → after_digits (ds ++ text) ≡ text
after_digits_front [] [] h n = refl
after_digits_front [] (b ∷ text) h n = rw n refl
after_digits_front (d ∷ ds) text h n = rw h.0 (after_digits_front ds text h.1 n)

-- ---- a number

end_is_no_digit : (text : List ℕ) → Ends text → NoDigit text
end_is_no_digit [] h = tt
end_is_no_digit (b ∷ text) h = grind (arith, nat_tests)

-- there is no dot at the start
abbrev NoDot : List ℕ → Type 0
NoDot [] = Unit {0}
NoDot (b ∷ text) = eqb b 46 ≡ false

end_is_no_dot : (text : List ℕ) → Ends text → NoDot text
end_is_no_dot [] h = tt
end_is_no_dot (b ∷ text) h = grind (arith, nat_tests)

-- there is no sign at the start
abbrev NoSign : List ℕ → Type 0
NoSign [] = Unit {0}
NoSign (b ∷ text) = (eqb b 43 ≡ false) × (eqb b 45 ≡ false)

digits_no_sign : (ds text : List ℕ) → 0 < length ds → Digits ds → NoSign (ds ++ text)
digits_no_sign [] text some h = absurd (omega arith)
digits_no_sign (d ∷ ds) text some h =
    let is : is_ascii_digit d ≡ true = h.0 in
    (grind (arith, nat_tests), grind (arith, nat_tests))

sign_at_front : (negative : Bool) (s text : List ℕ) → Sign negative s → NoSign text → sign_at (s ++ text) ≡ (negative, text)
sign_at_front true s text h none = rw h refl
sign_at_front false s [] (inl e) none = rw e refl
sign_at_front false s (b ∷ text) (inl e) none = rw (e, none.0, none.1) refl
sign_at_front false s text (inr e) none = rw e refl

decimals_at_front : (ds s text : List ℕ) → Decimals ds s → NoDigit text → NoDot text → decimals_at (s ++ text) ≡ (ds, text)
decimals_at_front ds s [] (h, inl (p, q)) n dot = rw (q, p) refl
decimals_at_front ds s (b ∷ text) (h, inl (p, q)) n dot = rw (q, p, dot) refl
decimals_at_front ds s text (h, inr q) n dot = rw (q, digits_at_front ds text h n, after_digits_front ds text h n) refl

decimals_end_digits : (ds s text : List ℕ) → Decimals ds s → NoDigit text → NoDigit (s ++ text)
decimals_end_digits ds s text (h, inl (p, q)) n = rw q n
decimals_end_digits ds s text (h, inr q) n = rw q refl

sign_more : (b : ℕ) (text : List ℕ) (v w : Bool) → eqb b 43 ≡ v → eqb b 45 ≡ w →
    let r : Bool × List ℕ = cond v (false, text) (cond w (true, text) (false, b ∷ text)) in (s : List ℕ) × Sign r.0 s × (b ∷ text ≡ s ++ r.1)
sign_more b text true w p q = (43 ∷ [], inr refl, ap (λ x. x ∷ text) (eqb-true b 43 p))
sign_more b text false true p q = (45 ∷ [], refl, ap (λ x. x ∷ text) (eqb-true b 45 q))
sign_more b text false false p q = ([], inl refl, refl)

sign_split : (text : List ℕ) → (s : List ℕ) × Sign (sign_at text).0 s × (text ≡ s ++ (sign_at text).1)
sign_split [] = ([], inl refl, refl)
sign_split (b ∷ text) = sign_more b text (eqb b 43) (eqb b 45) refl refl

decimals_more : (b : ℕ) (text : List ℕ) (v : Bool) → eqb b 46 ≡ v →
    let r : List ℕ × List ℕ = cond v (digits_at text, after_digits text) ([], b ∷ text) in (s : List ℕ) × Decimals r.0 s × (b ∷ text ≡ s ++ r.1)
decimals_more b text true p = (
  46 ∷ digits_at text,
  (are_digits text, inr refl),
  ap (λ x. x ∷ text) (eqb-true b 46 p)
      ∙ ap (λ u. 46 ∷ u) (digits_split text),
)
decimals_more b text false p = ([], (tt, inl (refl, refl)), refl)

decimals_split : (text : List ℕ) → (s : List ℕ) × Decimals (decimals_at text).0 s × (text ≡ s ++ (decimals_at text).1)
decimals_split [] = ([], (tt, inl (refl, refl)), refl)
decimals_split (b ∷ text) = decimals_more b text (eqb b 46) refl

-- ---- an exponent

-- the exponent that a step reads, as one of the grammar
abbrev IsExponentOf : List ℕ → Bool × List ℕ × List ℕ → Type 0
IsExponentOf text r = (s : List ℕ) × Exponent r.0 r.1 s × (text ≡ s ++ r.2)

exponent_digits : (b : ℕ) (text s u ds : List ℕ) (lowers : Bool) → Letter (b ∷ []) → Sign lowers s → text ≡ s ++ u → digits_at u ≡ ds
    → IsExponentOf (b ∷ text) (exponent_with (b ∷ text) lowers ds (after_digits u))
exponent_digits b text s u [] lowers l h e d = ([], inl (refl, refl, refl), refl)
exponent_digits b text s u (c ∷ ds) lowers l h e d = (
  b ∷ (s ++ (c ∷ ds)),
  inr (record {
    front = b ∷ [];
    back = s ++ (c ∷ ds);
    first = l;
    second = record { front = s; back = c ∷ ds; first = h; second = (omega arith, (subst Digits d (are_digits u), refl)); joined = refl };
    joined = refl;
  }),
  ap (λ w. b ∷ w) (e ∙ ap (λ w. s ++ w) (digits_split u ∙ ap (λ w. w ++ after_digits u) d) ∙ sym (append_assoc s (c ∷ ds) (after_digits u))),
)

is_letter : (b : ℕ) → (eqb b 101 || eqb b 69) ≡ true → Letter (b ∷ [])
is_letter b h = by_bool (eqb b 101)
    (λ t. inl (ap (λ c. c ∷ []) (eqb-true b 101 t)))
    (λ f. inr (ap (λ c. c ∷ []) (eqb-true b 69 (rw f at h))))

exponent_more : (b : ℕ) (text : List ℕ) (v : Bool) → (eqb b 101 || eqb b 69) ≡ v
    → IsExponentOf (b ∷ text) (cond v (exponent_with (b ∷ text) (sign_at text).0 (digits_at (sign_at text).1) (after_digits (sign_at text).1)) (false, [], b ∷ text))
exponent_more b text true p =
    let (s, h, e) = sign_split text in
    exponent_digits b text s (sign_at text).1 (digits_at (sign_at text).1) (sign_at text).0 (is_letter b p) h e refl
exponent_more b text false p = ([], inl (refl, refl, refl), refl)

exponent_split : (rounding : Rounding) (text : List ℕ) → IsExponentOf text (exponent_by rounding text)
exponent_split Exact text = ([], inl (refl, refl, refl), refl)
exponent_split Nearest [] = ([], inl (refl, refl, refl), refl)
exponent_split Nearest (b ∷ text) = exponent_more b text (eqb b 101 || eqb b 69) refl

end_is_no_letter : (b : ℕ) (text : List ℕ) → Ends (b ∷ text) → (eqb b 101 || eqb b 69) ≡ false
end_is_no_letter b text ends = grind (arith, nat_tests)

none_at_end : (rounding : Rounding) (text : List ℕ) → Ends text → exponent_by rounding text ≡ (false, [], text)
none_at_end Exact text ends = refl
none_at_end Nearest [] ends = refl
none_at_end Nearest (b ∷ text) ends = rw (end_is_no_letter b text ends) refl

some_at_front : (lowers : Bool) (ds s text : List ℕ) (b : ℕ) → (eqb b 101 || eqb b 69) ≡ true → Sign lowers s → 0 < length ds → Digits ds → NoDigit text
    → exponent_at (b ∷ (s ++ (ds ++ text))) ≡ (lowers, ds, text)
some_at_front lowers [] s text b l h some is n = absurd (omega arith)
some_at_front lowers (d ∷ ds) s text b l h some is n =
    rw (l, sign_at_front lowers s (d ∷ (ds ++ text)) h (digits_no_sign (d ∷ ds) text some is), is.0, digits_at_front ds text is.1 n, after_digits_front ds text is.1 n) refl

letter_at_front : (l rest : List ℕ) → Letter l → (b : ℕ) × ((eqb b 101 || eqb b 69) ≡ true) × (l ++ rest ≡ b ∷ rest)
letter_at_front l rest (inl e) = (101, refl, ap (λ t. t ++ rest) e)
letter_at_front l rest (inr e) = (69, refl, ap (λ t. t ++ rest) e)

exponent_at_front : (rounding : Rounding) (lowers : Bool) (ds s text : List ℕ) → Exponent lowers ds s → (rounding ≡ Exact → ds ≡ []) → Ends text
    → exponent_by rounding (s ++ text) ≡ (lowers, ds, text)
exponent_at_front rounding lowers ds s text (inl (l, d, e)) none ends = rw (l, d, e) (none_at_end rounding text ends)
exponent_at_front Exact lowers ds s text (inr h) none ends =
    let some = h.second.second.0 in
    absurd (omega (arith, some, ap length (none refl)))
exponent_at_front Nearest lowers ds s text (inr h) none ends =
    let regrouped : s ++ text ≡ h.front ++ (h.second.front ++ (ds ++ text)) =
    rw (h.joined, h.second.joined, h.second.second.1.1) (simp append_assoc) in
    let (b, l, e) = letter_at_front h.front (h.second.front ++ (ds ++ text)) h.first in
    rw (regrouped, e) (some_at_front lowers ds h.second.front text b l h.second.first h.second.second.0 h.second.second.1.0 (end_is_no_digit text ends))

letter_is_other : (b : ℕ) → (eqb b 101 || eqb b 69) ≡ true → (is_ascii_digit b ≡ false) × (eqb b 46 ≡ false)
letter_is_other b h = (grind (arith, nat_tests), grind (arith, nat_tests))

-- neither a digit nor a dot begins an exponent, or what follows a number
exponent_ends : (lowers : Bool) (ds s text : List ℕ) → Exponent lowers ds s → Ends text → NoDigit (s ++ text) × NoDot (s ++ text)
exponent_ends lowers ds s text (inl (l, d, e)) ends = rw e (end_is_no_digit text ends, end_is_no_dot text ends)
exponent_ends lowers ds s text (inr h) ends =
    let regrouped : s ++ text ≡ h.front ++ (h.back ++ text) = rw h.joined (append_assoc h.front h.back text) in
    let (b, l, e) = letter_at_front h.front (h.back ++ text) h.first in
    rw (regrouped, e) (letter_is_other b l)

-- ---- what is read are digits, no more than the text has

pub are_decimals : (text : List ℕ) → Digits (decimals_at text).0
are_decimals text = (decimals_split text).1.0

exponent_is : (lowers : Bool) (ds s : List ℕ) → Exponent lowers ds s → Digits ds
exponent_is lowers ds s (inl (l, d, e)) = subst Digits (sym d) tt
exponent_is lowers ds s (inr h) = h.second.second.1.0

pub are_exponents : (text : List ℕ) → Digits (exponent_at text).1
are_exponents text = let (s, h, e) = exponent_split Nearest text in exponent_is (exponent_at text).0 (exponent_at text).1 s h

pub digits_short : (text : List ℕ) → length (digits_at text) + length (after_digits text) ≡ length text
digits_short text = omega (arith, ap length (digits_split text), length-append (digits_at text) (after_digits text))

sign_short : (text : List ℕ) → length (sign_at text).1 ≤ length text
sign_short text = let (s, h, e) = sign_split text in omega (arith, ap length e, length-append s (sign_at text).1)

decimals_within : (ds s : List ℕ) → Decimals ds s → length ds ≤ length s
decimals_within ds s (h, inl (d, e)) = omega (arith, ap length d)
decimals_within ds s (h, inr e) = omega (arith, ap length e)

decimals_short : (text : List ℕ) → length (decimals_at text).0 ≤ length text
decimals_short text =
    let (s, h, e) = decimals_split text in
    omega (arith, ap length e, length-append s (decimals_at text).1, decimals_within (decimals_at text).0 s h)

pub number_short : (text unsigned digits after decimals : List ℕ) → unsigned ≡ (sign_at text).1 → digits ≡ digits_at unsigned → after ≡ after_digits unsigned
    → decimals ≡ (decimals_at after).0 → length digits + length decimals ≤ length text
number_short text unsigned digits after decimals u d a ds =
    omega (arith, ap length u, ap length d, ap length a, ap length ds, sign_short text, digits_short unsigned, decimals_short after)

-- ---- from what is read to the grammar

some_digit : (ds : List ℕ) → has_digit ds ≡ true → 0 < length ds
some_digit [] h = absurd (false≢true h)
some_digit (d ∷ ds) h = omega arith

digit_some : (ds : List ℕ) → 0 < length ds → has_digit ds ≡ true
digit_some [] h = absurd (omega arith)
digit_some (d ∷ ds) h = refl

pub digit_left : (ds es : List ℕ) → 0 < length ds → has_digit (ds ++ es) ≡ true
digit_left [] es some = absurd (omega arith)
digit_left (d ∷ ds) es some = refl

pub digit_right : (ds es : List ℕ) → 0 < length es → has_digit (ds ++ es) ≡ true
digit_right [] es some = digit_some es some
digit_right (d ∷ ds) es some = refl

pub no_digits : (ds es : List ℕ) → length ds ≡ 0 → length es ≡ 0 → has_digit (ds ++ es) ≡ false
no_digits [] [] d e = refl
no_digits [] (c ∷ es) d e = absurd (omega (arith, e))
no_digits (c ∷ ds) es d e = absurd (omega (arith, d))

pub ruleset some_digits = (digit_left, digit_right, no_digits)

taken_means : (rounding : Rounding) (negative : Bool) (ds es text : List ℕ) → is_taken rounding ds es ≡ true
    → IsTaken rounding (numeral_with negative ds es (exponent_by rounding text)).0
taken_means Exact negative ds es text h = (some_digit ds h, refl)
taken_means Nearest negative ds es text h = some_digit (ds ++ es) h

means_taken : (rounding : Rounding) (n : Numeral) → IsTaken rounding n → is_taken rounding n.digits n.decimals ≡ true
means_taken Exact n h = digit_some n.digits h.0
means_taken Nearest n h = digit_some (n.digits ++ n.decimals) h

abbrev NumberBy : Rounding → Numeral → List ℕ → Type 0
NumberBy rounding n s = IsTaken rounding n × Written n s

unsigned_more : (rounding : Rounding) (negative : Bool) (x text u : List ℕ) (v : Bool) → Sign negative x → text ≡ x ++ u
    → is_taken rounding (digits_at u) (decimals_at (after_digits u)).0 ≡ v →
    let after = decimals_at (after_digits u) in
    IfSome {T = Numeral × List ℕ} (cond v (Some (numeral_with negative (digits_at u) after.0 (exponent_by rounding after.1))) None)
    (λ p. (s : List ℕ) × NumberBy rounding p.0 s × (text ≡ s ++ p.1))
unsigned_more rounding negative x text u true h e t =
    let after = decimals_at (after_digits u) in
    let (y, hy, ey) = decimals_split (after_digits u) in
    let (z, hz, ez) = exponent_split rounding after.1 in (
      x ++ (digits_at u ++ (y ++ z)),
      (
        taken_means rounding negative (digits_at u) after.0 after.1 t,
        record {
          front = x;
          back = digits_at u ++ (y ++ z);
          first = h;
          second = record {
            front = digits_at u;
            back = y ++ z;
            first = (are_digits u, refl);
            second = record { front = y; back = z; first = hy; second = hz; joined = refl };
            joined = refl;
          };
          joined = refl;
        },
      ),
      e ∙ ap (λ w. x ++ w) (digits_split u ∙ ap (λ w. digits_at u ++ w) (ey ∙ ap (λ w. y ++ w) ez)) ∙ sym (simp append_assoc),
    )
unsigned_more rounding negative x text u false h e t = tt

pub number_begins : (scale : Scale) (text : List ℕ) (n : Numeral) (rest : List ℕ) → number_at scale text ≡ Some (n, rest)
    → (s : List ℕ) × Number scale n s × (text ≡ s ++ rest)
number_begins scale text n rest e =
    let (x, h, p) = sign_split text in
    let read = unsigned_more (rounding_of scale) (sign_at text).0 x text (sign_at text).1 _ h p refl in
    rw e at read

-- ---- from the grammar to what is read

-- a number without its sign begins with a digit or a dot
abbrev IsFirst : ℕ → Type 0
IsFirst b = (is_ascii_digit b || eqb b 46) ≡ true

abbrev Opens : List ℕ → Type 0
Opens text = (b : ℕ) × (rest : List ℕ) × IsFirst b × (text ≡ b ∷ rest)

decimals_open : (ds s text : List ℕ) → Decimals ds s → 0 < length ds → Opens (s ++ text)
decimals_open ds s text (h, inl (d, e)) some = absurd (omega (arith, ap length d))
decimals_open ds s text (h, inr e) some = (46, ds ++ text, refl, ap (λ t. t ++ text) e)

digit_first : (b : ℕ) → is_ascii_digit b ≡ true → IsFirst b
digit_first b h = rw h refl

number_opens : (rounding : Rounding) (n : Numeral) (ds s text : List ℕ) → n.digits ≡ ds → IsTaken rounding n → Digits ds → Decimals n.decimals s
    → Opens (ds ++ (s ++ text))
number_opens rounding n (d ∷ ds) s text e taken hd hy = (d, ds ++ (s ++ text), digit_first d hd.0, refl)
number_opens Exact n [] s text e taken hd hy = absurd (omega (arith, taken.0, ap length e))
number_opens Nearest n [] s text e taken hd hy =
    let some : 0 < length n.decimals = subst (λ ds. 0 < length (ds ++ n.decimals)) e taken in
    decimals_open n.decimals s text hy some

opens_no_sign : (text : List ℕ) → Opens text → NoSign text
opens_no_sign text (b, rest, h, e) =
    let first : NoSign (b ∷ rest) = (grind (arith, nat_tests), grind (arith, nat_tests)) in
    rw e first

no_exponent : (rounding : Rounding) (n : Numeral) → IsTaken rounding n → rounding ≡ Exact → n.exponent ≡ []
no_exponent Exact n taken e = taken.1
no_exponent Nearest n taken e = absurd cc

-- the parts of a number, and the text that they are followed by
whole_parts : (scale : Scale) (n : Numeral) (x y z text : List ℕ) → IsTaken (rounding_of scale) n → Sign n.negative x → Digits n.digits
    → Decimals n.decimals y → Exponent n.lowers n.exponent z → Ends text → number_at scale (x ++ (n.digits ++ (y ++ (z ++ text)))) ≡ Some (n, text)
whole_parts scale n x y z text taken hx hd hy hz ends =
    let after = exponent_ends n.lowers n.exponent z text hz ends in
    let end = decimals_end_digits n.decimals y (z ++ text) hy after.0 in
    let opens = number_opens (rounding_of scale) n n.digits y (z ++ text) refl taken hd hy in
    rw (
      sign_at_front n.negative x (n.digits ++ (y ++ (z ++ text))) hx (opens_no_sign _ opens),
      digits_at_front n.digits (y ++ (z ++ text)) hd end,
      after_digits_front n.digits (y ++ (z ++ text)) hd end,
      decimals_at_front n.decimals y (z ++ text) hy after.0 after.1,
      exponent_at_front (rounding_of scale) n.lowers n.exponent z text hz (no_exponent (rounding_of scale) n taken) ends,
      means_taken (rounding_of scale) n taken,
    ) refl

-- a number as its sign, digits, decimals and exponent
number_grouped : (n : Numeral) (s text : List ℕ) (h : Written n s)
    → s ++ text ≡ h.front ++ (n.digits ++ (h.second.second.front ++ (h.second.second.back ++ text)))
number_grouped n s text h =
    rw (h.joined, h.second.joined, h.second.first.1, h.second.second.joined) (simp append_assoc)

pub number_at_front : (scale : Scale) (n : Numeral) (s text : List ℕ) → Number scale n s → Ends text → number_at scale (s ++ text) ≡ Some (n, text)
number_at_front scale n s text (taken, h) ends =
    rw (number_grouped n s text h)
    (whole_parts scale n h.front h.second.second.front h.second.second.back text taken h.first h.second.first.0 h.second.second.first
    h.second.second.second ends)

pub ruleset numbers_read = (number_begins, number_at_front)

-- a number begins with a digit, a dot (46) or a sign (43 or 45)
abbrev pub Starts : List ℕ → Type 0
Starts text = (b : ℕ) × (rest : List ℕ) × ((is_ascii_digit b || eqb b 46 || eqb b 43 || eqb b 45) ≡ true) × (text ≡ b ∷ rest)

first_starts : (b : ℕ) → IsFirst b → (is_ascii_digit b || eqb b 46 || eqb b 43 || eqb b 45) ≡ true
first_starts b h = grind (arith, nat_tests)

sign_starts : (negative : Bool) (s text : List ℕ) → Sign negative s → Opens text → Starts (s ++ text)
sign_starts true s text h opens = (45, text, refl, ap (λ t. t ++ text) h)
sign_starts false s text (inl e) (b, rest, h, p) = (b, rest, first_starts b h, ap (λ t. t ++ text) e ∙ p)
sign_starts false s text (inr e) opens = (43, text, refl, ap (λ t. t ++ text) e)

pub number_starts : (scale : Scale) (n : Numeral) (s text : List ℕ) → Number scale n s → Starts (s ++ text)
number_starts scale n s text (taken, h) =
    let opens = number_opens (rounding_of scale) n n.digits h.second.second.front (h.second.second.back ++ text) refl taken h.second.first.0
    h.second.second.first in
    subst Starts (sym (number_grouped n s text h)) (sign_starts n.negative h.front _ h.first opens)
