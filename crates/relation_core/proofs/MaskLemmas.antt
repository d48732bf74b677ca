-- Reading a mask: nine letters spell at most one mask, and the bytes determine the result of
-- reading.
use Rattle.std.proofs.Common.{◌≡◌, ◌≢◌, ℕ, ◌+◌, ◌<◌, ◌≤◌, ◌==◌, ◌↔◌, if◌then◌else◌, List, [], ◌∷◌, length, slice_index, get_or, map, refl, sym, ap, subst, ◌∙◌}
use Rattle.std.proofs.Common.{arith, pos, Option, Some, None, Result, Ok, Err, below_more}
use Rattle.std.specs.Char.{to_ascii_uppercase}
use Rattle.std.specs.Str.{str_to_ascii_uppercase}
use Rattle.std.proofs.lemmas.List.{get_or-map, length-map}
use Rattle.std.proofs.lemmas.Int.{ints, by_lt_z}
use Rattle.std.proofs.lemmas.Slice.Eq.{text_from_reads}
use Rattle.relation_core.specs.declared.extent.Extent.TheVariants.{Empty, Point, Line, Area}
use Rattle.relation_core.specs.declared.part.Parts.{Parts}
use Rattle.relation_core.specs.declared.pattern_value.PatternValue.{PatternValue}
use Rattle.relation_core.specs.declared.pattern_value.PatternValue.TheVariants.{Any, NotEmpty, Exactly}
use Rattle.relation_core.specs.declared.mask.Mask.{Mask}
use Rattle.relation_core.specs.declared.mask.MaskFault.{MaskFault}
use Rattle.relation_core.specs.declared.mask.MaskFault.TheVariants.{Length, Letter}
use Rattle.relation_core.specs.Masks.{letter_of_value, text_of, IsLetter, IsLetterOf, IsFirstBad, SpellsRow, SpellsRows, TellsBad}

-- the value that an upper-case letter stands for
abbrev value_of : ℕ → Option PatternValue
value_of n =
    if n == 42 then Some Any
    else (if n == 84 then Some NotEmpty
    else (if n == 70 then Some (Exactly Empty)
    else (if n == 48 then Some (Exactly Point)
    else (if n == 49 then Some (Exactly Line)
    else (if n == 50 then Some (Exactly Area) else None)))))

value_of-letter : (value : PatternValue) → value_of (letter_of_value value) ≡ Some value
value_of-letter Any = refl
value_of-letter NotEmpty = refl
value_of-letter (Exactly Empty) = refl
value_of-letter (Exactly Point) = refl
value_of-letter (Exactly Line) = refl
value_of-letter (Exactly Area) = refl

-- each letter is a capital
capital : (value : PatternValue) → to_ascii_uppercase (letter_of_value value) ≡ letter_of_value value
capital Any = refl
capital NotEmpty = refl
capital (Exactly Empty) = refl
capital (Exactly Point) = refl
capital (Exactly Line) = refl
capital (Exactly Area) = refl

-- a letter stands for one value
pub same_value : (p q : PatternValue) → letter_of_value p ≡ letter_of_value q → p ≡ q
same_value p q e =
    let s : Some p ≡ Some q = sym (value_of-letter p) ∙ ap value_of e ∙ value_of-letter q in cc

-- a text is that of one mask
pub same_text : (m n : Mask) → text_of m ≡ text_of n → m ≡ n
same_text m n e =
    let at : (k : ℕ) → slice_index (text_of m) k ≡ slice_index (text_of n) k = λ k. ap (λ text. slice_index text k) e in
    let ii = same_value m.rows.interior.interior n.rows.interior.interior (at 0) in
    let ib = same_value m.rows.interior.boundary n.rows.interior.boundary (at 1) in
    let ie = same_value m.rows.interior.exterior n.rows.interior.exterior (at 2) in
    let bi = same_value m.rows.boundary.interior n.rows.boundary.interior (at 3) in
    let bb = same_value m.rows.boundary.boundary n.rows.boundary.boundary (at 4) in
    let be = same_value m.rows.boundary.exterior n.rows.boundary.exterior (at 5) in
    let ei = same_value m.rows.exterior.interior n.rows.exterior.interior (at 6) in
    let eb = same_value m.rows.exterior.boundary n.rows.exterior.boundary (at 7) in
    let ee = same_value m.rows.exterior.exterior n.rows.exterior.exterior (at 8) in
    λ i. record {
      rows = record {
        interior = record { interior = ii i; boundary = ib i; exterior = ie i };
        boundary = record { interior = bi i; boundary = bb i; exterior = be i };
        exterior = record { interior = ei i; boundary = eb i; exterior = ee i };
      };
    }

upper_at : (text : List ℕ) (k : ℕ) → k < length text → slice_index (str_to_ascii_uppercase text) k ≡ to_ascii_uppercase (slice_index text k)
upper_at text k h = get_or-map to_ascii_uppercase text k 0 0 h

-- nine bytes that spell the rows of a mask are, as capitals, its text
pub text_from_rows : (text : List ℕ) (m : Mask) → length text ≡ 9 → SpellsRows text m.rows → str_to_ascii_uppercase text ≡ text_of m
text_from_rows text m n h =
    let u = upper_at text in
    let i0 = u 0 (omega arith) ∙ h.interior.interior in
    let i1 = u 1 (omega arith) ∙ h.interior.boundary in
    let i2 = u 2 (omega arith) ∙ h.interior.exterior in
    let b0 = u 3 (omega arith) ∙ h.boundary.interior in
    let b1 = u 4 (omega arith) ∙ h.boundary.boundary in
    let b2 = u 5 (omega arith) ∙ h.boundary.exterior in
    let e0 = u 6 (omega arith) ∙ h.exterior.interior in
    let e1 = u 7 (omega arith) ∙ h.exterior.boundary in
    let e2 = u 8 (omega arith) ∙ h.exterior.exterior in
    text_from_reads (str_to_ascii_uppercase text) (text_of m) (length-map text to_ascii_uppercase ∙ n)
    (i0, (i1, (i2, (b0, (b1, (b2, (e0, (e1, (e2, tt)))))))))

-- the nine values of a mask
abbrev values : Mask → List PatternValue
values m =
    m.rows.interior.interior ∷ m.rows.interior.boundary ∷ m.rows.interior.exterior
    ∷ m.rows.boundary.interior ∷ m.rows.boundary.boundary ∷ m.rows.boundary.exterior
    ∷ m.rows.exterior.interior ∷ m.rows.exterior.boundary ∷ m.rows.exterior.exterior ∷ []

text_of-values : (m : Mask) → text_of m ≡ map letter_of_value (values m)
text_of-values m = refl

length-text : (text : List ℕ) (m : Mask) → str_to_ascii_uppercase text ≡ text_of m → length text ≡ 9
length-text text m e = sym (length-map text to_ascii_uppercase) ∙ ap length e

-- a text that spells a mask has no bad byte
no_bad : (text : List ℕ) (m : Mask) (k : ℕ) → str_to_ascii_uppercase text ≡ text_of m → k < length text → IsLetter (slice_index text k)
no_bad text m k e h =
    let n = length-text text m e in
    (get_or (values m) k Any, sym (upper_at text k h) ∙ ap (λ t. slice_index t k) e ∙ get_or-map letter_of_value (values m) k Any 0 (omega arith))

-- a fact of three consecutive indexes is a fact of each index among them
near : (P : ℕ → Type 0) (first k : ℕ) → first ≤ k → k < first + 3 → P first → P (first + 1) → P (first + 2) → P k
near P first k low high a b c =
    let Q : ℕ → Type 0 = λ j. first ≤ j → P j in
    let one : (j : ℕ) → j < first + 1 → Q j = below_more Q first (λ j h g. absurd (omega arith)) (λ _. a) in
    let two : (j : ℕ) → j < first + 1 + 1 → Q j = below_more Q (first + 1) one (λ _. b) in
    let three : (j : ℕ) → j < first + 2 + 1 → Q j = below_more Q (first + 2) (λ j h. two j (omega arith)) (λ _. c) in
    three k (omega arith) low

-- each byte of a row that was read is a letter
letters_of_row : (text : List ℕ) (first : ℕ) (row : Parts PatternValue) → SpellsRow text first row →
    (k : ℕ) → first ≤ k → k < first + 3 → IsLetter (slice_index text k)
letters_of_row text first row h k low high =
    near (λ j. IsLetter (slice_index text j)) first k low high (row.interior, h.interior) (row.boundary, h.boundary) (row.exterior, h.exterior)

by_below : {P : Type 0} (j k : ℕ) → (j < k → P) → (k ≤ j → P) → P
by_below j k below above = by_lt_z (pos j) (pos k) (λ h. below (omega (arith, ints))) (λ h. above (omega (arith, ints)))

-- after bytes that are letters the first bad byte is that of the whole piece
behind_letters : (text : List ℕ) (first middle end stop : ℕ) (fault : MaskFault) → first ≤ middle → end ≤ stop →
    ((k : ℕ) → first ≤ k → k < middle → IsLetter (slice_index text k)) → TellsBad text middle end fault → TellsBad text first stop fault
behind_letters text first middle end stop fault low high letters bad = record {
  place = bad.place;
  told = bad.told;
  before_end = omega arith;
  first_bad = record {
    behind = omega (arith, bad.first_bad.behind);
    within = bad.first_bad.within;
    bad = bad.first_bad.bad;
    before = λ k from below. by_below k middle (letters k from) (λ reached. bad.first_bad.before k reached below);
  };
}

-- the first bad byte of a piece is that of a longer one
pub sooner : (text : List ℕ) (first end stop : ℕ) (fault : MaskFault) → end ≤ stop → TellsBad text first end fault → TellsBad text first stop fault
sooner text first end stop fault high bad =
    behind_letters text first first end stop fault (omega arith) high (λ k from below. absurd (omega arith)) bad

-- a bad byte at the beginning of a row is the row's
pub bad_first : (text : List ℕ) (first : ℕ) (fault : MaskFault) → TellsBad text first (first + 1) fault → TellsBad text first (first + 3) fault
bad_first text first fault bad = sooner text first (first + 1) (first + 3) fault (omega arith) bad

-- and so is one after one letter or two
pub bad_second : (text : List ℕ) (first second : ℕ) (v : PatternValue) (fault : MaskFault) → second ≡ first + 1 →
    IsLetterOf v (slice_index text first) → TellsBad text second (second + 1) fault → TellsBad text first (first + 3) fault
bad_second text first second v fault at good bad =
    let L : ℕ → Type 0 = λ k. IsLetter (slice_index text k) in
    behind_letters text first second (second + 1) (first + 3) fault (omega arith) (omega arith)
    (λ k from below. let e : first ≡ k = omega arith in subst L e (v, good)) bad

pub bad_third : (text : List ℕ) (first second third : ℕ) (v w : PatternValue) (fault : MaskFault) → second ≡ first + 1 → third ≡ first + 2 →
    IsLetterOf v (slice_index text first) → IsLetterOf w (slice_index text second) →
    TellsBad text third (third + 1) fault → TellsBad text first (first + 3) fault
bad_third text first second third v w fault at behind good next bad =
    let L : ℕ → Type 0 = λ k. IsLetter (slice_index text k) in
    behind_letters text first third (third + 1) (first + 3) fault (omega arith) (omega arith)
    (λ k from below. below_more (λ j. first ≤ j → L j) second
    (λ j h g. let e : first ≡ j = omega arith in subst L e (v, good)) (λ _. (w, next)) k (omega arith) from) bad

-- after a row that was read the first bad byte is that of the longer piece
pub behind_row : (text : List ℕ) (first end stop : ℕ) (row : Parts PatternValue) (fault : MaskFault) → end ≤ stop →
    SpellsRow text first row → TellsBad text (first + 3) end fault → TellsBad text first stop fault
behind_row text first end stop row fault high h bad =
    behind_letters text first (first + 3) end stop fault (omega arith) high (letters_of_row text first row h) bad

-- the result of reading a text as a mask
abbrev pub Reads : List ℕ → Result Mask MaskFault → Type 0
Reads text (Ok m) = (length text ≡ 9) × SpellsRows text m.rows
Reads text (Err Length) = length text ≢ 9
Reads text (Err (Letter k)) = (length text ≡ 9) × IsFirstBad text k

-- the least bad place is one
one_first_bad : (text : List ℕ) (j k : ℕ) → IsFirstBad text j → IsFirstBad text k → j ≡ k
one_first_bad text j k h w =
    let not_below : ¬ (j < k) = λ l. h.bad (w.before j (omega arith) l) in
    let not_above : ¬ (k < j) = λ l. w.bad (h.before k (omega arith) l) in omega arith

pub exact_ok : (text : List ℕ) (r : Result Mask MaskFault) → Reads text r → (m : Mask) → (r ≡ Ok m) ↔ (str_to_ascii_uppercase text ≡ text_of m)
exact_ok text (Ok n) h m = (
  λ e. let s : n ≡ m = cc in subst (λ (x : Mask). str_to_ascii_uppercase text ≡ text_of x) s (text_from_rows text n h.0 h.1),
  λ e. ap Ok (same_text n m (sym (text_from_rows text n h.0 h.1) ∙ e)),
)
exact_ok text (Err Length) h m = (λ e. absurd cc, λ e. absurd (h (length-text text m e)))
exact_ok text (Err (Letter k)) h m = (λ e. absurd cc, λ e. absurd (h.1.bad (no_bad text m k e h.1.within)))

pub exact_length : (text : List ℕ) (r : Result Mask MaskFault) → Reads text r → (r ≡ Err Length) ↔ (length text ≢ 9)
exact_length text (Ok n) h = (λ e. absurd cc, λ e. absurd (e h.0))
exact_length text (Err Length) h = (λ e. h, λ e. refl)
exact_length text (Err (Letter k)) h = (λ e. absurd cc, λ e. absurd (e h.0))

pub exact_letter : (text : List ℕ) (r : Result Mask MaskFault) → Reads text r → (k : ℕ) → (r ≡ Err (Letter k)) ↔ ((length text ≡ 9) × IsFirstBad text k)
exact_letter text (Ok n) h k = (λ e. absurd cc, λ w. absurd (w.1.bad (no_bad text n k (text_from_rows text n h.0 h.1) w.1.within)))
exact_letter text (Err Length) h k = (λ e. absurd cc, λ w. absurd (h w.0))
exact_letter text (Err (Letter j)) h k = (
  λ e. let s : j ≡ k = cc in subst (λ (x : ℕ). (length text ≡ 9) × IsFirstBad text x) s h,
  λ w. ap (λ x. Err (Letter x)) (one_first_bad text j k h.1 w.1),
)

capitals : (vs : List PatternValue) → map to_ascii_uppercase (map letter_of_value vs) ≡ map letter_of_value vs
capitals [] = refl
capitals (v ∷ vs) = cc (capital v, capitals vs)

-- the text of a mask is read as that mask
pub exact_text : (text : List ℕ) (r : Result Mask MaskFault) → Reads text r → (m : Mask) → text ≡ text_of m → r ≡ Ok m
exact_text text r h m e = (exact_ok text r h m).1 (ap str_to_ascii_uppercase e ∙ capitals (values m))

pub reads_fault : (text : List ℕ) (fault : MaskFault) → length text ≡ 9 → TellsBad text 0 9 fault → Reads text (Err fault)
reads_fault text fault n bad = subst (λ (f : MaskFault). Reads text (Err f)) (sym bad.told) (n, bad.first_bad)

pub ok_not_err : {A E : Type 0} (a : A) (e : E) → Ok a ≡ Err e → ⊥
ok_not_err a e is = cc

-- the facts on an error hold for another result type
pub err_exact : {A B E : Type 0} (x y : E) (P : Type 0) →
    (◌≡◌ {A = Result A E} (Err x) (Err y)) ↔ P → (◌≡◌ {A = Result B E} (Err x) (Err y)) ↔ P
err_exact x y P told = (λ e. let same : x ≡ y = cc in told.0 (ap Err same), λ w. let e = told.1 w in let same : x ≡ y = cc in ap Err same)
