-- Each record takes at least a byte, so the records that a reader has left are those of the bytes that it has left.
use Rattle.std.specs.Bool.{MatchBool}
use Rattle.std.proofs.Common.{◌≡◌, ◌∙◌, ℕ, zero, suc, ◌+◌, ◌<◌, ◌≤◌, Bool, true, false, List, [], ◌∷◌, length, Option, Some, None, refl, sym, ap, arith, ◌==◌}
use Rattle.std.proofs.Common.{◌||◌, ◌++◌, if◌then◌else◌, Bor, unwrap_or, inl, add-one}
use Rattle.csv.specs.Machine.{Read, after_end, ends_at_end, field_after, fields_after, in_field, is_end, next_record, start_field, start_record, step}
use Rattle.csv.specs.Reading.{ExplainsRead, Reached, ReadRecord, is_flexible, reader_config, reader_state, records_from, records_next, took_first}
use Rattle.csv.specs.declared.error.ErrorKind.{ErrorKind}
use Rattle.csv.specs.declared.error.ErrorKind.TheVariants as kind
use Rattle.csv.specs.declared.reader.Reader.{Reader}
use Rattle.csv.proofs.ReadFacts.{rows-end, rows-more}
use Rattle.row_core.specs.Records.{Record, config_of, source, unread, records_left, IsBetweenRecords, TakesRecord, IsRefusedOrUnread}
use Rattle.csv.specs.declared.parser.Action.TheVariants as act
use Rattle.csv.specs.declared.parser.State.{State}
use Rattle.csv.specs.declared.parser.State.TheVariants as st
use Rattle.csv.specs.declared.parser.Terminator.TheVariants as term

module _ (sep : ℕ) where
  -- if a byte ends a record, the machine is between two records
  in_field-end : (c : ℕ) → is_end (in_field (config_of sep) c).1 ≡ true → ends_at_end (in_field (config_of sep) c).0 ≡ false
  in_field-end c h = comma (c == sep) refl
    where
      start : (b : Bool) → (c == 13) ≡ b → ends_at_end (after_end term.CRLF c) ≡ false
      start true e = rw e refl
      start false e = rw e refl

      feed : (b : Bool) → (c == sep) ≡ false → (c == 13) ≡ false → (c == 10) ≡ b → ends_at_end (in_field (config_of sep) c).0 ≡ false
      feed true a b e = rw (a, b, e) refl
      feed false a b e = let none = rw (a, b, e) at h in cc

      return : (b : Bool) → (c == sep) ≡ false → (c == 13) ≡ b → ends_at_end (in_field (config_of sep) c).0 ≡ false
      return true a e = rw (a, e) refl
      return false a e = feed (c == 10) a e refl

      comma : (b : Bool) → (c == sep) ≡ b → ends_at_end (in_field (config_of sep) c).0 ≡ false
      comma true e = let none = rw e at h in cc
      comma false e = return (c == 13) e refl

  start_field-end : (c : ℕ) → is_end (start_field (config_of sep) c).1 ≡ true → ends_at_end (start_field (config_of sep) c).0 ≡ false
  start_field-end c h = by (c == 34) refl
    where
      by : (b : Bool) → (c == 34) ≡ b → ends_at_end (start_field (config_of sep) c).0 ≡ false
      by true e = let none = rw e at h in cc
      by false e = rw e (in_field-end c (rw e at h))

  start_record-end : (c : ℕ) → is_end (start_record (config_of sep) c).1 ≡ true → ends_at_end (start_record (config_of sep) c).0 ≡ false
  start_record-end c h = by ((c == 13) || (c == 10)) refl
    where
      by : (b : Bool) → ((c == 13) || (c == 10)) ≡ b → ends_at_end (start_record (config_of sep) c).0 ≡ false
      by true e = let skips = ap (λ b. is_end (if b then (st.StartRecord, act.Skip) else start_field (config_of sep) c).1) e in cc
      by false e =
          let same : start_record (config_of sep) c ≡ start_field (config_of sep) c = ap
          (λ b. if b then (st.StartRecord, act.Skip) else start_field (config_of sep) c) e in
          ap (λ t. ends_at_end t.0) same ∙ start_field-end c (sym (ap (λ t. is_end t.1) same) ∙ h)

  step-end : (s : State) (c : ℕ) → is_end (step (config_of sep) s c).1 ≡ true → ends_at_end (step (config_of sep) s c).0 ≡ false
  step-end st.StartRecord c h = start_record-end c h
  step-end st.StartField c h = start_field-end c h
  step-end st.InField c h = in_field-end c h
  step-end st.InQuoted c h = by (c == 34) refl
    where
      by : (b : Bool) → (c == 34) ≡ b → ends_at_end (step (config_of sep) st.InQuoted c).0 ≡ false
      by true e = let none = rw e at h in cc
      by false e = let none = rw e at h in cc
  step-end st.InEscape c h = cc h
  step-end st.AfterQuote c h = by (c == 34) refl
    where
      by : (b : Bool) → (c == 34) ≡ b → ends_at_end (step (config_of sep) st.AfterQuote c).0 ≡ false
      by true e = let none = rw e at h in cc
      by false e = rw e (in_field-end c (rw e at h))
  step-end st.InComment c h = by (c == 10) refl
    where
      by : (b : Bool) → (c == 10) ≡ b → ends_at_end (step (config_of sep) st.InComment c).0 ≡ false
      by true e = let none = rw e at h in cc
      by false e = let none = rw e at h in cc
  step-end st.AfterCr c h = by (c == 10) refl
    where
      by : (b : Bool) → (c == 10) ≡ b → ends_at_end (step (config_of sep) st.AfterCr c).0 ≡ false
      by true e = let skips = ap (λ b. is_end (if b then (st.StartRecord, act.Skip) else start_record (config_of sep) c).1) e in cc
      by false e =
          let same : step (config_of sep) st.AfterCr c ≡ start_record (config_of sep) c = ap
          (λ b. if b then (st.StartRecord, act.Skip) else start_record (config_of sep) c) e in
          ap (λ t. ends_at_end t.0) same ∙ start_record-end c (sym (ap (λ t. is_end t.1) same) ∙ h)

  -- the state after a record: no more bytes than before, and the machine between two records
  record Leaves (xs : List ℕ) (p : Read) : Type 0 where
    pub fewer : length p.2 ≤ length xs
    pub between : ends_at_end p.1 ≡ false

  leaves-nil : (s : State) (fields : List (List ℕ)) (field : List ℕ) (p : Read) → next_record (config_of sep) s fields field [] ≡ Some p → Leaves [] p
  unfolding next_record
  leaves-nil s fields field p h = by (ends_at_end s) refl
    where
      by : (b : Bool) → ends_at_end s ≡ b → Leaves [] p
      by true e =
          let found : Some (fields ++ (field ∷ []), st.StartRecord, []) ≡ Some p = rw e at h in
          let same : (fields ++ (field ∷ []), st.StartRecord, []) ≡ p = cc in
          rw (← same) (record { fewer = omega arith; between = refl })
      by false e = let none = rw e at h in cc

  ended : (s : State) (fields : List (List ℕ)) (field : List ℕ) (c : ℕ) (xs : List ℕ) (p : Read) → is_end (step (config_of sep) s c).1 ≡ true
      → Some (fields_after (step (config_of sep) s c).1 fields field, (step (config_of sep) s c).0, xs) ≡ Some p → Leaves xs p
  ended s fields field c xs p e found =
      let same : (fields_after (step (config_of sep) s c).1 fields field, (step (config_of sep) s c).0, xs) ≡ p = cc in
      rw (← same) (record { fewer = omega arith; between = step-end s c e })

  longer : (c : ℕ) (xs : List ℕ) (p : Read) → Leaves xs p → Leaves (c ∷ xs) p
  longer c xs p left = record { fewer = omega (arith, left.fewer); between = left.between }

  -- a record takes the byte that it begins with
  leaves-cons : (xs : List ℕ) (s : State) (fields : List (List ℕ)) (field : List ℕ) (c : ℕ) (p : Read)
      → next_record (config_of sep) s fields field (c ∷ xs) ≡ Some p → Leaves xs p
  unfolding next_record
  leaves-cons [] s fields field c p h = by (is_end (step (config_of sep) s c).1) refl
    where
      by : (b : Bool) → is_end (step (config_of sep) s c).1 ≡ b → Leaves [] p
      by true e = ended s fields field c [] p e (rw e at h)
      by false e =
          leaves-nil (step (config_of sep) s c).0 (fields_after (step (config_of sep) s c).1 fields field) (field_after (step (config_of sep) s c).1 c field) p
          (rw e at h)
  leaves-cons (d ∷ xs) s fields field c p h =
      by (is_end (step (config_of sep) s c).1) refl (λ later. longer d xs p (leaves-cons xs (step (config_of sep) s c).0
      (fields_after (step (config_of sep) s c).1 fields field) (field_after (step (config_of sep) s c).1 c field) d p later))
    where
      by : (b : Bool) → is_end (step (config_of sep) s c).1 ≡ b → (next_record (config_of sep) (step (config_of sep) s c).0
          (fields_after (step (config_of sep) s c).1 fields field) (field_after (step (config_of sep) s c).1 c field) (d ∷ xs) ≡ Some p → Leaves
          (d ∷ xs) p) → Leaves (d ∷ xs) p
      by true e more = ended s fields field c (d ∷ xs) p e (rw e at h)
      by false e more = more (rw e at h)

  -- so does one that begins between two records
  pub takes : (s : State) (xs : List ℕ) (p : Read) → ends_at_end s ≡ false → next_record (config_of sep) s [] [] xs ≡ Some p
      → (length p.2 < length xs) × (ends_at_end p.1 ≡ false)
  unfolding next_record
  takes s [] p e h = let none = rw e at h in cc
  takes s (c ∷ xs) p e h = let left = leaves-cons xs s [] [] c p h in (omega (arith, left.fewer), left.between)

  -- with enough turns the records are the same
  pub records-enough : (m n : ℕ) (s : State) (xs : List ℕ) → length xs < m → length xs < n → ends_at_end s ≡ false
      → records_from (config_of sep) m s xs ≡ records_from (config_of sep) n s xs
  unfolding records_from
  records-enough zero n s xs a b e = absurd (omega arith)
  records-enough (suc m) zero s xs a b e = absurd (omega arith)
  records-enough (suc m) (suc n) s xs a b e =
      by (next_record (config_of sep) s [] [] xs) refl
      (λ p found. let left = takes s xs p e found in records-enough m n p.1 p.2 (omega arith) (omega arith) left.1)
    where
      by : (r : Option Read) → next_record (config_of sep) s [] [] xs ≡ r →
          ((p : Read) → next_record (config_of sep) s [] [] xs ≡ Some p → records_from (config_of sep) m p.1 p.2 ≡ records_from (config_of sep) n p.1 p.2) →
          records_next (records_from (config_of sep) m) (next_record (config_of sep) s [] [] xs) ≡ records_next (records_from (config_of sep) n)
          (next_record (config_of sep) s [] [] xs)
      by None found same = rw found refl
      by (Some p) found same = rw found (ap (λ rows. p.0 ∷ rows) (same p found))

  -- no more records than bytes, and one
  pub length_records_from : (n : ℕ) (s : State) (xs : List ℕ) → length (records_from (config_of sep) n s xs) ≤ n
  unfolding records_from
  length_records_from zero s xs = omega arith
  length_records_from (suc n) s xs = by (next_record (config_of sep) s [] [] xs) (λ p. length_records_from n p.1 p.2)
    where
      by : (r : Option Read) → ((p : Read) → length (records_from (config_of sep) n p.1 p.2) ≤ n) → length (records_next (records_from (config_of sep) n) r) ≤ suc n
      by None few = omega arith
      by (Some p) few = let left = few p in omega arith

-- the consequence of reading a record for the remaining records
module _ (a b : Reader (Bor (List ℕ))) (fields : Record) (reading : IsBetweenRecords a) where
  abbrev byte : ℕ
  byte = (reader_config a).delimiter

  unrolled : records_left a
      ≡ records_next (records_from (config_of byte) (length (unread a))) (next_record (config_of byte) (reader_state a) [] [] (unread a))
  unfolding records_from
  unrolled =
      ap (λ c. records_from c (length (unread a) + 1) (reader_state a) (unread a)) reading.config
      ∙ ap (λ n. records_from (config_of byte) n (reader_state a) (unread a)) (add-one (length (unread a)))

  pub row-last : ReadRecord (λ (s : Bor (List ℕ)). Some s.now) a b false fields → records_left a ≡ []
  row-last r =
      let none = rows-end (λ (s : Bor (List ℕ)). Some s.now) a b fields (config_of byte) (unread a) reading.config reading.known r in
      unrolled ∙ ap (records_next (records_from (config_of byte) (length (unread a)))) none

  next_from : took_first b ≡ true → is_flexible b ≡ is_flexible a → ReadRecord (λ (s : Bor (List ℕ)). Some s.now) a b true fields
      → (z : List ℕ) × (source b ≡ Some z) × (p : Read) × (next_record (config_of byte) (reader_state a) [] [] (unread a) ≡ Some p) × (fields ≡ p.0) ×
      (p.1 ≡ reader_state b) × (p.2 ≡ z)
      → TakesRecord a fields b
  next_from first flexible r (z, known, p, found, is, state, rest) = record {
    records =
        unrolled ∙ ap (records_next (records_from (config_of byte) (length (unread a)))) found
        ∙ (λ i. sym is i ∷ records_from (config_of byte) (length (unread a)) (state i) ((rest ∙ sym left) i))
        ∙ ap (λ rows. fields ∷ rows) (records-enough byte (length (unread a)) (length (unread b) + 1) (reader_state b) (unread b)
        (let fewer = rw (rest ∙ sym left) at taken.0 in fewer) (omega arith) between)
        ∙ ap (λ c. fields ∷ records_from c (length (unread b) + 1) (reader_state b) (unread b)) (sym (r.2 ∙ reading.config));
    reading =
        record {
          trim = r.3 ∙ reading.trim;
          flexible = flexible ∙ reading.flexible;
          ready = inl first;
          config = r.2 ∙ reading.config ∙ ap (λ c. config_of c.delimiter) (sym r.2);
          known = known
              ∙ ap Some (sym left);
          between = between;
        };
  }
    where
      left : unread b ≡ z
      left = ap (λ k. unwrap_or k []) known

      taken : (length p.2 < length (unread a)) × (ends_at_end p.1 ≡ false)
      taken = takes byte (reader_state a) (unread a) p reading.between found

      between : ends_at_end (reader_state b) ≡ false
      between = sym (ap ends_at_end state) ∙ taken.1

  pub row-next : took_first b ≡ true → is_flexible b ≡ is_flexible a → ReadRecord (λ (s : Bor (List ℕ)). Some s.now) a b true fields → TakesRecord a fields b
  unfolding Reached
  row-next first flexible r =
      let g = rows-more (λ (s : Bor (List ℕ)). Some s.now) a b fields (config_of byte) (reader_state a) (unread a) (unread a) [] reading.config reading.known
      (refl, refl) r in
      next_from first flexible r (g.0, g.1, g.2.0, g.2.1, g.2.2, g.2.3.0, g.2.3.1)

  pub row_read : (found : Bool) → took_first b ≡ true → is_flexible b ≡ is_flexible a → ReadRecord (λ (s : Bor (List ℕ)). Some s.now) a b found fields
      → MatchBool found (TakesRecord a fields b) (records_left a ≡ [])
  row_read true first flexible r = row-next first flexible r
  row_read false first flexible r = row-last r

-- a reader that takes records of any length fails for memory or for its bytes alone
pub refused_or_unread : (a b : Reader (Bor (List ℕ))) (kind : ErrorKind) → is_flexible a ≡ true
    → ExplainsRead (λ (s : Bor (List ℕ)). Some s.now) a b false kind → IsRefusedOrUnread kind
refused_or_unread a b (kind.Io e) flexible why = refl
refused_or_unread a b kind.OutOfMemory flexible why = refl
refused_or_unread a b (kind.UnequalLengths pos expected len) flexible why = let rigid = why.0 in cc
refused_or_unread a b (kind.Utf8 pos err) flexible why = let text = why.0 in cc
refused_or_unread a b (kind.Serialize text) flexible why = absurd why
refused_or_unread a b (kind.Deserialize pos err) flexible why = absurd why

pub ruleset record_read = (refused_or_unread, row_read)
