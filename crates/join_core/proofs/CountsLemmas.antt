-- The numbers of the pairs of left features, and the rows that are written of these.
use Rattle.std.proofs.Common.{◌≡◌, ◌≢◌, ◌+◌, ◌<◌, ◌≤◌, ℕ, inl, inr, List, [], ◌∷◌, ◌++◌, Vec, Global, ap, append-nil, append_assoc, sym, ◌∙◌}
use Rattle.std.proofs.Common.{eq-eqb, eqb, filter, get_or, get_or-set_other, get_or-set_same, length, length-take-le, map, ne_eqb, replicate, set, subst, take}
use Rattle.std.proofs.lemmas.Bool.{cases_eq, cases_lt, cond-false, cond-true}
use Rattle.std.proofs.lemmas.List.{get_or_past, get_or-replicate, length-replicate}
use Rattle.std.proofs.lemmas.List.Sums.{count_by-le-length, count_by_more_no, count_by_more_yes}
use Rattle.pair_core.specs.Often.{occurrences}
use Rattle.pair_core.specs.declared.often.Side.TheVariants.{Left}
use Rattle.join_core.specs.Counts.{is_unmatched}
use Rattle.csv.specs.declared.writer.Writer.{Writer}
use Rattle.layer_core.specs.Layers.{Feature}
use Rattle.report_core.specs.CsvTexts.{csv_text}
use Rattle.run_core.specs.CsvWriting.{AddsRow, HasRows}

-- ---- counts

module _ (pairs : List (ℕ × ℕ)) where
  -- how many of the first pairs each number is on the left of
  abbrev pub AreCounts : ℕ → List ℕ → Type 0
  AreCounts i counts = (n : ℕ) → get_or counts n 0 ≡ occurrences Left n (take i pairs)

  pub none_counted : (limit : ℕ) → AreCounts 0 (replicate limit 0)
  none_counted limit = λ n. elim (cases_lt n limit) [
    | inl within ↦ get_or-replicate limit n 0 0 within
    | inr past ↦ get_or_past (replicate limit 0) n 0 (subst (λ (k : ℕ). k ≤ n) (sym (length-replicate limit 0)) past)
  ]

  -- no more than there are pairs
  pub few_counted : (i : ℕ) (counts : List ℕ) → i ≤ length pairs → AreCounts i counts → (n : ℕ) → get_or counts n 0 ≤ i
  few_counted i counts within are n = subst (λ (k : ℕ). k ≤ i) (sym (are n))
      (subst (λ (k : ℕ). occurrences Left n (take i pairs) ≤ k) (length-take-le i pairs within) (count_by-le-length (λ p. eqb p.0 n) (take i pairs)))

  -- one pair more
  pub one_counted : (i : ℕ) (pair d : ℕ × ℕ) (old new : List ℕ) → i < length pairs → pair ≡ get_or pairs i d → AreCounts i old → pair.0 < length old
      → new ≡ set old pair.0 (get_or old pair.0 0 + 1) → AreCounts (i + 1) new
  one_counted i pair d old new within at are below grown = λ n. ap (λ ns. get_or ns n 0) grown ∙ elim (cases_eq pair.0 n) [
    | inl same ↦
        subst (λ (k : ℕ). get_or (set old pair.0 (get_or old pair.0 0 + 1)) k 0 ≡ occurrences Left k (take (i + 1) pairs)) same
        (get_or-set_same old pair.0 (get_or old pair.0 0 + 1) 0 below ∙ ap (λ (k : ℕ). k + 1) (are pair.0)
        ∙ sym (count_by_more_yes (λ p. eqb p.0 pair.0) pairs i d within (eq-eqb (get_or pairs i d).0 pair.0 (sym (ap (λ p. p.0) at)))))
    | inr other ↦ get_or-set_other old pair.0 n (get_or old pair.0 0 + 1) 0 (λ back. other (sym back)) ∙ are n
        ∙ sym (count_by_more_no (λ p. eqb p.0 n) pairs i d within (ne_eqb (get_or pairs i d).0 n (λ is. other (ap (λ p. p.0) at ∙ is))))
  ]

-- ---- rows

-- the rows of a writer, and then those of the features that are left, are the header and the rows of all features
pub record HasFront {G : Type 0} (header : List (List ℕ)) (rows_of : List (Feature G) → List (List (List ℕ))) (writer : Writer (Vec ℕ Global))
    (left features : List (Feature G)) : Type 0 where
  pub rows : List (List (List ℕ))
  pub written : HasRows writer rows
  pub all : rows ++ rows_of left ≡ header ∷ rows_of features

module _ {G : Type 0} (header : List (List ℕ)) (rows_of : List (Feature G) → List (List (List ℕ))) where
  pub header_written : (old writer : Writer (Vec ℕ Global)) (left features : List (Feature G)) → HasRows old [] → AddsRow old writer header
      → left ≡ features → HasFront header rows_of writer left features
  header_written old writer left features empty more same = record {
    rows = header ∷ [];
    written = more [] empty;
    all = ap (λ fs. header ∷ rows_of fs) same;
  }

  -- a row for one feature more
  pub row_written : (old writer : Writer (Vec ℕ Global)) (left left' features : List (Feature G)) (row : List (List ℕ))
      → HasFront header rows_of old left features → rows_of left ≡ row ∷ rows_of left' → AddsRow old writer row
      → HasFront header rows_of writer left' features
  row_written old writer left left' features row front is more = record {
    rows = front.rows ++ row ∷ [];
    written = more front.rows front.written;
    all = append_assoc front.rows (row ∷ []) (rows_of left') ∙ ap (λ rest. front.rows ++ rest) (sym is) ∙ front.all;
  }

  -- no row for one feature more
  pub none_written : (writer : Writer (Vec ℕ Global)) (left left' features : List (Feature G)) → HasFront header rows_of writer left features
      → rows_of left ≡ rows_of left' → HasFront header rows_of writer left' features
  none_written writer left left' features front is = record {
    rows = front.rows;
    written = front.written;
    all = ap (λ rest. front.rows ++ rest) (sym is) ∙ front.all;
  }

  -- no feature is left
  pub all_written : (writer : Writer (Vec ℕ Global)) (left features : List (Feature G)) (text : List ℕ) → HasFront header rows_of writer left features
      → rows_of left ≡ [] → ((rows : List (List (List ℕ))) → HasRows writer rows → text ≡ csv_text rows)
      → text ≡ csv_text (header ∷ rows_of features)
  all_written writer left features text front none kept =
      kept front.rows front.written ∙ ap csv_text (sym (append-nil front.rows) ∙ ap (λ rest. front.rows ++ rest) (sym none) ∙ front.all)

-- a feature that is in no pair is one of those, and any other isn't
module _ {G : Type 0} (pairs : List (ℕ × ℕ)) (f : Feature G) (left left' : List (Feature G)) (is : left ≡ f ∷ left') where
  abbrev rows_of : List (Feature G) → List (List (List ℕ))
  rows_of features = map (λ f. f.id ∷ []) (filter (is_unmatched pairs) features)

  pub row_of_unmatched : occurrences Left f.number pairs ≡ 0 → rows_of left ≡ (f.id ∷ []) ∷ rows_of left'
  row_of_unmatched none = ap rows_of is
      ∙ ap (map (λ f. f.id ∷ [])) (cond-true (is_unmatched pairs f) (f ∷ filter (is_unmatched pairs) left') (filter (is_unmatched pairs) left')
      (eq-eqb (occurrences Left f.number pairs) 0 none))

  pub no_row_of_matched : occurrences Left f.number pairs ≢ 0 → rows_of left ≡ rows_of left'
  no_row_of_matched some = ap rows_of is
      ∙ ap (map (λ f. f.id ∷ [])) (cond-false (is_unmatched pairs f) (f ∷ filter (is_unmatched pairs) left') (filter (is_unmatched pairs) left')
      (ne_eqb (occurrences Left f.number pairs) 0 some))
