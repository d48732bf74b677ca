-- The records of a text that is cut between two records are those of both parts.
use Rattle.std.proofs.Common.{◌≡◌, ◌≢◌, ◌∙◌, ◌||◌, ◌==◌, ◌⊎◌, ℕ, zero, suc, ◌+◌, ◌<◌, Bool, true, false, List, [], ◌∷◌, ◌++◌, All, length, Option, Some, None, refl, sym, ap, inl, inr, arith, if◌then◌else◌, length-append}
use Rattle.std.proofs.lemmas.List.Elements.{All-tail}
use Rattle.csv.specs.Machine.{Read, ends_at_end, field_after, fields_after, in_field, is_end, next_record, start_field, start_record, step}
use Rattle.csv.specs.Reading.{default_config, records, records_from, records_next}
use Rattle.csv.specs.declared.parser.Action.{Action}
use Rattle.csv.specs.declared.parser.Action.TheVariants as act
use Rattle.csv.specs.declared.parser.State.{State}
use Rattle.csv.specs.declared.parser.State.TheVariants as st
use Rattle.row_core.proofs.RecordLemmas.{records-enough, takes}
use Rattle.row_core.specs.Cuts.{IsClosed, state_after, EndsBetween}

-- in a field or after a quote
abbrev pub is_inside : State → Bool
is_inside st.StartRecord = false
is_inside st.AfterCr = false
is_inside st.InComment = false
is_inside st.StartField = true
is_inside st.InField = true
is_inside st.InQuoted = true
is_inside st.AfterQuote = true
is_inside st.InEscape = true

-- a record that ends in the first part is the whole text's, with the rest of the first part and the
-- second after it
record Carries (s : State) (a b : List ℕ) (fields : List (List ℕ)) (field : List ℕ) (p : Read) : Type 0 where
  pub same : next_record default_config s fields field (a ++ b) ≡ Some (p.0, p.1, p.2 ++ b)
  pub after : state_after p.1 p.2 ≡ state_after s a

carries : (a b : List ℕ) (s : State) (fields : List (List ℕ)) (field : List ℕ) (p : Read) → EndsBetween s a
    → next_record default_config s fields field a ≡ Some p → Carries s a b fields field p
unfolding next_record
carries [] b s fields field p between h = let none = rw between at h in cc
carries (c ∷ a) b s fields field p between h =
    by (is_end (step default_config s c).1) refl
    (λ later. carries a b (step default_config s c).0 (fields_after (step default_config s c).1 fields field)
    (field_after (step default_config s c).1 c field) p between later)
  where
    by : (t : Bool) → is_end (step default_config s c).1 ≡ t
        → (next_record default_config (step default_config s c).0 (fields_after (step default_config s c).1 fields field)
        (field_after (step default_config s c).1 c field) a ≡ Some p
        → Carries (step default_config s c).0 a b (fields_after (step default_config s c).1 fields field)
        (field_after (step default_config s c).1 c field) p)
        → Carries s (c ∷ a) b fields field p
    by true e more =
        let found : Some (fields_after (step default_config s c).1 fields field, (step default_config s c).0, a) ≡ Some p = rw e at h in
        let same : (fields_after (step default_config s c).1 fields field, (step default_config s c).0, a) ≡ p = cc in
        rw (← same) (record { same = rw e refl; after = refl })
    by false e more = let c = more (rw e at h) in record { same = rw e c.same; after = c.after }

-- ---- one byte

module _ (P : State × Action → Type 0) (c : ℕ) where
  in_field-by : P (st.StartField, act.EndField) → P (st.AfterCr, act.EndRecord) → P (st.StartRecord, act.EndRecord) → P (st.InField, act.Copy)
      → P (in_field default_config c)
  in_field-by comma return feed other = by (c == 44) ((c == 13) || (c == 10)) (c == 13)
    where
      by : (t u v : Bool) → P (if t then (st.StartField, act.EndField) else if u then (if v then st.AfterCr else st.StartRecord, act.EndRecord) else (st.InField, act.Copy))
      by true u v = comma
      by false true true = return
      by false true false = feed
      by false false v = other

  start_field-by : P (st.InQuoted, act.Skip) → P (in_field default_config c) → P (start_field default_config c)
  start_field-by quote other = by (c == 34)
    where
      by : (t : Bool) → P (if t then (st.InQuoted, act.Skip) else in_field default_config c)
      by true = quote
      by false = other

  start_record-by : P (st.StartRecord, act.Skip) → P (start_field default_config c) → P (start_record default_config c)
  start_record-by skip other = by ((c == 13) || (c == 10))
    where
      by : (t : Bool) → P (if t then (st.StartRecord, act.Skip) else start_field default_config c)
      by true = skip
      by false = other

  between-by : (s : State) → ends_at_end s ≡ false → P (st.StartRecord, act.Skip) → P (start_record default_config c) → P (step default_config s c)
  between-by st.StartRecord between skip other = other
  between-by st.AfterCr between skip other = by (c == 10)
    where
      by : (t : Bool) → P (if t then (st.StartRecord, act.Skip) else start_record default_config c)
      by true = skip
      by false = other
  between-by st.StartField between skip other = let h = between in cc
  between-by st.InField between skip other = let h = between in cc
  between-by st.InQuoted between skip other = let h = between in cc
  between-by st.AfterQuote between skip other = let h = between in cc
  between-by st.InEscape between skip other = let h = between in cc
  between-by st.InComment between skip other = let h = between in cc

  inside-by : (s : State) → is_inside s ≡ true → P (start_field default_config c) → P (in_field default_config c) → P (st.AfterQuote, act.Skip)
      → P (st.InQuoted, act.Copy) → P (step default_config s c)
  inside-by st.StartField inside start field quote copy = start
  inside-by st.InField inside start field quote copy = field
  inside-by st.InQuoted inside start field quote copy = by (c == 34)
    where
      by : (t : Bool) → P (if t then (st.AfterQuote, act.Skip) else (st.InQuoted, act.Copy))
      by true = quote
      by false = copy
  inside-by st.AfterQuote inside start field quote copy = by (c == 34)
    where
      by : (t : Bool) → P (if t then (st.InQuoted, act.Copy) else in_field default_config c)
      by true = copy
      by false = field
  inside-by st.InEscape inside start field quote copy = copy
  inside-by st.StartRecord inside start field quote copy = let h = inside in cc
  inside-by st.AfterCr inside start field quote copy = let h = inside in cc
  inside-by st.InComment inside start field quote copy = let h = inside in cc

-- a byte that ends no record leaves the machine inside one
abbrev Stays : State × Action → Type 0
Stays t = is_end t.1 ≡ false → is_inside t.0 ≡ true

in_field-stays : (c : ℕ) → Stays (in_field default_config c)
in_field-stays c = in_field-by Stays c (λ _. refl) (λ h. cc h) (λ h. cc h) (λ _. refl)

start_field-stays : (c : ℕ) → Stays (start_field default_config c)
start_field-stays c = start_field-by Stays c (λ _. refl) (in_field-stays c)

step-inside : (s : State) (c : ℕ) → is_inside s ≡ true → is_end (step default_config s c).1 ≡ false → is_inside (step default_config s c).0 ≡ true
step-inside s c inside = inside-by Stays c s inside (start_field-stays c) (in_field-stays c) (λ _. refl) (λ _. refl)

-- between records a byte that ends no record is skipped or begins one
abbrev Begins : State × Action → Type 0
Begins t = is_end t.1 ≡ false → (t ≡ (st.StartRecord, act.Skip)) ⊎ (is_inside t.0 ≡ true)

step-between : (s : State) (c : ℕ) → ends_at_end s ≡ false → is_end (step default_config s c).1 ≡ false
    → (step default_config s c ≡ (st.StartRecord, act.Skip)) ⊎ (is_inside (step default_config s c).0 ≡ true)
step-between s c between =
    between-by Begins c s between (λ _. inl refl) (start_record-by Begins c (λ _. inl refl) (λ h. inr (start_field-stays c h)))

inside-ends : (s : State) → is_inside s ≡ true → ends_at_end s ≡ true
inside-ends st.StartField inside = refl
inside-ends st.InField inside = refl
inside-ends st.InQuoted inside = refl
inside-ends st.AfterQuote inside = refl
inside-ends st.InEscape inside = refl
inside-ends st.StartRecord inside = let h = inside in cc
inside-ends st.AfterCr inside = let h = inside in cc
inside-ends st.InComment inside = let h = inside in cc

-- inside a record the text has one, be it at its end
inside-some : (a : List ℕ) (s : State) (fields : List (List ℕ)) (field : List ℕ) → is_inside s ≡ true
    → next_record default_config s fields field a ≢ None
unfolding next_record
inside-some [] s fields field inside h = let none = rw (inside-ends s inside) at h in cc none
inside-some (c ∷ a) s fields field inside h =
    by (is_end (step default_config s c).1) refl
    (λ stays. inside-some a (step default_config s c).0 (fields_after (step default_config s c).1 fields field)
    (field_after (step default_config s c).1 c field) stays)
  where
    by : (t : Bool) → is_end (step default_config s c).1 ≡ t
        → (is_inside (step default_config s c).0 ≡ true
        → next_record default_config (step default_config s c).0 (fields_after (step default_config s c).1 fields field)
        (field_after (step default_config s c).1 c field) a ≢ None)
        → ⊥
    by true e more = let none = rw e at h in cc none
    by false e more = more (step-inside s c inside e) (rw e at h)

-- a front part without a record is skipped
record Skips (s : State) (a b : List ℕ) : Type 0 where
  pub same : next_record default_config s [] [] (a ++ b) ≡ next_record default_config (state_after s a) [] [] b
  pub between : EndsBetween s a

skips : (a b : List ℕ) (s : State) → ends_at_end s ≡ false → next_record default_config s [] [] a ≡ None → Skips s a b
unfolding next_record
skips [] b s between h = record { same = refl; between = between }
skips (c ∷ a) b s between h = by (is_end (step default_config s c).1) refl (skips a b st.StartRecord refl)
  where
    by : (t : Bool) → is_end (step default_config s c).1 ≡ t
        → (next_record default_config st.StartRecord [] [] a ≡ None → Skips st.StartRecord a b)
        → Skips s (c ∷ a) b
    by true e more = let none = rw e at h in cc none
    by false e more = which (step-between s c between e)
      where
        which : (step default_config s c ≡ (st.StartRecord, act.Skip)) ⊎ (is_inside (step default_config s c).0 ≡ true) → Skips s (c ∷ a) b
        which (inl skip) = let rest = more (rw skip at h) in record { same = rw skip rest.same; between = rw skip rest.between }
        which (inr inside) =
            absurd (inside-some a (step default_config s c).0 (fields_after (step default_config s c).1 [] [])
            (field_after (step default_config s c).1 c []) inside (rw e at h))

-- ---- records

-- after a carriage return the records are those from the start of a record
pub step-after_cr : (c : ℕ) → step default_config st.AfterCr c ≡ step default_config st.StartRecord c
step-after_cr c = by (c == 10) (c == 13) refl refl
  where
    by : (t u : Bool) → (c == 10) ≡ t → (c == 13) ≡ u → step default_config st.AfterCr c ≡ step default_config st.StartRecord c
    by true true e f = rw (e, f) refl
    by true false e f = rw (e, f) refl
    by false u e f = rw e refl

next-after_cr : (a : List ℕ) → next_record default_config st.AfterCr [] [] a ≡ next_record default_config st.StartRecord [] [] a
unfolding next_record
next-after_cr [] = refl
next-after_cr (c ∷ a) = rw (step-after_cr c) refl

pub records-after_cr : (n : ℕ) (a : List ℕ) → records_from default_config n st.AfterCr a ≡ records_from default_config n st.StartRecord a
unfolding records_from
records-after_cr zero a = refl
records-after_cr (suc n) a = ap (records_next (records_from default_config n)) (next-after_cr a)

-- between records the records are those from the start of one
pub records-between : (n : ℕ) (s : State) (a : List ℕ) → ends_at_end s ≡ false
    → records_from default_config n s a ≡ records_from default_config n st.StartRecord a
records-between n st.StartRecord a between = refl
records-between n st.AfterCr a between = records-after_cr n a
records-between n st.StartField a between = let h = between in cc
records-between n st.InField a between = let h = between in cc
records-between n st.InQuoted a between = let h = between in cc
records-between n st.AfterQuote a between = let h = between in cc
records-between n st.InEscape a between = let h = between in cc
records-between n st.InComment a between = let h = between in cc

-- with enough turns for each, the records of a text that is cut between two records are those of both parts
pub records-cut : (m n k : ℕ) (s : State) (a b : List ℕ) → ends_at_end s ≡ false → EndsBetween s a
    → length (a ++ b) < m → length a < n → length b < k
    → records_from default_config m s (a ++ b) ≡ records_from default_config n s a ++ records_from default_config k (state_after s a) b
unfolding records_from
records-cut zero n k s a b start between big first second = absurd (omega arith)
records-cut (suc m) zero k s a b start between big first second = absurd (omega arith)
records-cut (suc m) (suc n) zero s a b start between big first second = absurd (omega arith)
records-cut (suc m) (suc n) (suc k) s a b start between big first second =
    by (next_record default_config s [] [] a) refl
    (λ p found.
    let left = takes 44 s a p start found in
    let whole = carries a b s [] [] p between found in
    let rest : EndsBetween p.1 p.2 = ap ends_at_end whole.after ∙ between in
    records-cut m n (suc k) p.1 p.2 b left.1 rest (omega (arith, length-append p.2 b, length-append a b)) (omega arith) second)
  where
    by : (r : Option Read) → next_record default_config s [] [] a ≡ r
        → ((p : Read) → next_record default_config s [] [] a ≡ Some p
        → records_from default_config m p.1 (p.2 ++ b) ≡ records_from default_config n p.1 p.2 ++ records_from default_config (suc k) (state_after p.1 p.2) b)
        → records_next (records_from default_config m) (next_record default_config s [] [] (a ++ b))
        ≡ records_next (records_from default_config n) (next_record default_config s [] [] a)
        ++ records_next (records_from default_config k) (next_record default_config (state_after s a) [] [] b)
    by None found more =
        let over = skips a b s start found in
        let enough = records-enough 44 (suc m) (suc k) (state_after s a) b (omega (arith, length-append a b)) second between in
        rw (found, over.same) enough
    by (Some p) found more =
        let whole = carries a b s [] [] p between found in
        rw (found, whole.same) (ap (λ rows. p.0 ∷ rows) (more p found ∙ ap (λ t. records_from default_config n p.1 p.2 ++ records_from default_config (suc k) t b) whole.after))

-- a text of two parts
pub text-cut : (a b : List ℕ) → EndsBetween st.StartRecord a
    → records default_config (a ++ b) ≡ records default_config a ++ records default_config b
text-cut a b between =
    records-cut (length (a ++ b) + 1) (length a + 1) (length b + 1) st.StartRecord a b refl between (omega arith) (omega arith) (omega arith)
    ∙ ap (λ rows. records default_config a ++ rows) (records-between (length b + 1) (state_after st.StartRecord a) b between)

-- ---- a text that ends with a line feed

pub state-append : (s : State) (a b : List ℕ) → state_after s (a ++ b) ≡ state_after (state_after s a) b
state-append s [] b = refl
state-append s (c ∷ a) b = state-append (step default_config s c).0 a b

-- without a record the text ends between records
none-between : (a : List ℕ) (s : State) → ends_at_end s ≡ false → next_record default_config s [] [] a ≡ None → EndsBetween s a
none-between a s between none = (skips a [] s between none).between

-- a record that begins in the text and is ended by its end alone, the line feed being a part of it; or ended before
abbrev IsOpen : State → List ℕ → Read → Type 0
IsOpen s a p =
    ((front : List (List ℕ)) × (last : List ℕ) × (p.0 ≡ front ++ (last ++ 10 ∷ []) ∷ []))
    ⊎ ((rest : List ℕ) × (p.2 ≡ rest ++ 10 ∷ []) × (state_after p.1 p.2 ≡ state_after s (a ++ 10 ∷ [])))

open-feed : (s : State) (fields : List (List ℕ)) (field : List ℕ) (p : Read)
    → next_record default_config s fields field (10 ∷ []) ≡ Some p → ends_at_end (step default_config s 10).0 ≡ true → IsOpen s [] p
unfolding next_record
open-feed st.InQuoted fields field p h unended =
    let same : (fields ++ (field ++ 10 ∷ []) ∷ [], st.StartRecord, []) ≡ p = cc in
    inl (fields, field, sym (ap (λ q. q.0) same))
open-feed st.InEscape fields field p h unended =
    let same : (fields ++ (field ++ 10 ∷ []) ∷ [], st.StartRecord, []) ≡ p = cc in
    inl (fields, field, sym (ap (λ q. q.0) same))
open-feed st.StartRecord fields field p h unended = let e = unended in cc
open-feed st.AfterCr fields field p h unended = let e = unended in cc
open-feed st.StartField fields field p h unended = let e = unended in cc
open-feed st.InField fields field p h unended = let e = unended in cc
open-feed st.AfterQuote fields field p h unended = let e = unended in cc
open-feed st.InComment fields field p h unended = let e = unended in cc

open-end : (a : List ℕ) (s : State) (fields : List (List ℕ)) (field : List ℕ) (p : Read)
    → next_record default_config s fields field (a ++ 10 ∷ []) ≡ Some p → ends_at_end (state_after s (a ++ 10 ∷ [])) ≡ true → IsOpen s a p
unfolding next_record
open-end [] s fields field p h unended = open-feed s fields field p h unended
open-end (c ∷ a) s fields field p h unended =
    by (is_end (step default_config s c).1) refl
    (λ later. open-end a (step default_config s c).0 (fields_after (step default_config s c).1 fields field)
    (field_after (step default_config s c).1 c field) p later unended)
  where
    by : (t : Bool) → is_end (step default_config s c).1 ≡ t
        → (next_record default_config (step default_config s c).0 (fields_after (step default_config s c).1 fields field)
        (field_after (step default_config s c).1 c field) (a ++ 10 ∷ []) ≡ Some p
        → IsOpen (step default_config s c).0 a p)
        → IsOpen s (c ∷ a) p
    by true e more =
        let found : Some (fields_after (step default_config s c).1 fields field, (step default_config s c).0, a ++ 10 ∷ []) ≡ Some p = rw e at h in
        let same : (fields_after (step default_config s c).1 fields field, (step default_config s c).0, a ++ 10 ∷ []) ≡ p = cc in
        rw (← same) (inr (a, refl, refl))
    by false e more = more (rw e at h)

-- if no record ends with a line feed, a text that does ends between records
abbrev ClosedBetween : ℕ → Type 0
ClosedBetween n =
    (b : List ℕ) (t : State) → ends_at_end t ≡ false → length (b ++ 10 ∷ []) < n
    → All IsClosed (records_from default_config n t (b ++ 10 ∷ [])) → EndsBetween t (b ++ 10 ∷ [])

pub closed-between : (n : ℕ) (s : State) (a : List ℕ) → ends_at_end s ≡ false → length (a ++ 10 ∷ []) < n
    → All IsClosed (records_from default_config n s (a ++ 10 ∷ [])) → EndsBetween s (a ++ 10 ∷ [])
unfolding records_from
closed-between zero s a start enough closed = absurd (omega arith)
closed-between (suc n) s a start enough closed =
    which (ends_at_end (state_after s (a ++ 10 ∷ []))) refl (λ b t between few all. closed-between n t b between few all)
  where
    next : (r : Option Read) → next_record default_config s [] [] (a ++ 10 ∷ []) ≡ r → ends_at_end (state_after s (a ++ 10 ∷ [])) ≡ true
        → All IsClosed (records_next (records_from default_config n) r) → ClosedBetween n → EndsBetween s (a ++ 10 ∷ [])
    next None found unended closed more = none-between (a ++ 10 ∷ []) s start found
    next (Some p) found unended closed more = by (open-end a s [] [] p found unended)
      where
        by : IsOpen s a p → EndsBetween s (a ++ 10 ∷ [])
        by (inl (front, last, is)) = absurd (closed 0 [] (omega arith) front last is)
        by (inr (rest, is, after)) =
            let left = takes 44 s (a ++ 10 ∷ []) p start found in
            let few = rw is at left.0 in
            let others = rw is at (All-tail IsClosed p.0 (records_from default_config n p.1 p.2) closed) in
            let ends : EndsBetween p.1 (rest ++ 10 ∷ []) = more rest p.1 left.1 (omega arith) others in
            sym (ap ends_at_end (ap (state_after p.1) (sym is) ∙ after)) ∙ ends

    which : (t : Bool) → ends_at_end (state_after s (a ++ 10 ∷ [])) ≡ t → ClosedBetween n → EndsBetween s (a ++ 10 ∷ [])
    which false e more = e
    which true e more = next (next_record default_config s [] [] (a ++ 10 ∷ [])) refl e closed more
