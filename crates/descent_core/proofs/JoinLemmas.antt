-- Each two entries that meet are in one task, and the rows of the tasks are the pairs of the trees.
use Rattle.std.proofs.Common.{arith, ◌≡◌, ◌≢◌, ℕ, zero, suc, ◌+◌, ◌*◌, ◌<◌, ◌≤◌, Bool, true, false, cond, List, [], ◌∷◌, length, get_or, refl, sym, ◌∙◌, ap}
use Rattle.std.proofs.Common.{subst, inl, inr}
use Rattle.std.specs.Prelude.{◌==◌, ◌&&◌, All, AllPairs, Contains, Some, slice_get, count_by}
use Rattle.std.specs.List.{sum_by}
use Rattle.std.proofs.lemmas.Bool.{cases_eq, eqb-true}
use Rattle.std.proofs.lemmas.Bool.Decides.{nat_tests}
use Rattle.std.proofs.lemmas.Option.{slice_get-get_or, get_or_from_slice_get, slice_get_within, slice_get_cases}
use Rattle.std.proofs.lemmas.List.Elements.{All-weaker, All-contains}
use Rattle.std.proofs.lemmas.List.Sums.{sum_by-cons, get_or-le-sum_by}
use Rattle.relation_core.specs.declared.relation.Relation.{Relation}
use Rattle.geom_core.specs.Cells.{Meets}
use Rattle.relation_core.specs.Relations.{ForbidsDisjoint}
use Rattle.rtree_core.specs.declared.node.Entry.{Entry}
use Rattle.rtree_core.specs.declared.node.Node.{Node}
use Rattle.rtree_core.specs.Nodes.{entries_of}
use Rattle.rtree_core.specs.Trees.{has_number}
use Rattle.descent_core.specs.Rows.{Precedes, StandIn, IsRow}
use Rattle.descent_core.specs.Shares.{HoldsBoth, ShareOut, is_pair, RowsJoin}
use Rattle.descent_core.proofs.FindLemmas.{contains_here}
use Rattle.descent_core.proofs.RoundLemmas.{meet_or_not}
use Rattle.descent_core.proofs.RowLemmas.{at_most_product}
use Rattle.descent_core.proofs.ShareLemmas.{IsPart, SharesMet, weight, contains_later, contains_joined, joined_contains, sum_joined}

-- an entry that is there is counted
counts_itself : (k : ℕ) → cond {A = ℕ} (k == k) 1 0 ≡ 1
counts_itself k = grind (arith, nat_tests)

counted_there : (es : List Entry) (e : Entry) → Contains es e → 1 ≤ count_by (has_number e.number) es
counted_there es e c =
    let f : Entry → ℕ = λ x. cond {A = ℕ} (has_number e.number x) 1 0 in
    omega (arith, get_or-le-sum_by f es c.0 e c.1, ap f c.2, counts_itself e.number)

at_least_product : (a b : ℕ) → 1 ≤ a → 1 ≤ b → 1 ≤ a * b
at_least_product zero b h k = absurd (omega arith)
at_least_product (suc a) zero h k = absurd (omega arith)
at_least_product (suc a) (suc b) h k = grind arith

heavy : (e f : Entry) (t : Node × Node) → HoldsBoth e f t → 1 ≤ weight e.number f.number t
heavy e f t h =
    at_least_product (count_by (has_number e.number) (entries_of t.0)) (count_by (has_number f.number) (entries_of t.1)) (counted_there (entries_of t.0) e h.0)
    (counted_there (entries_of t.1) f h.1)

-- two places of a list are within its sum
two_places : {T : Type 0} (f : T → ℕ) (xs : List T) (i j : ℕ) (c d : T) → i ≢ j → i < length xs → j < length xs →
    f (get_or xs i c) + f (get_or xs j d) ≤ sum_by f xs
two_places f [] i j c d differ h k = absurd (omega arith)
two_places f (x ∷ xs) zero zero c d differ h k = absurd (differ refl)
two_places f (x ∷ xs) zero (suc j) c d differ h k = omega (arith, sum_by-cons f x xs, get_or-le-sum_by f xs j d (omega arith))
two_places f (x ∷ xs) (suc i) zero c d differ h k = omega (arith, sum_by-cons f x xs, get_or-le-sum_by f xs i c (omega arith))
two_places f (x ∷ xs) (suc i) (suc j) c d differ h k =
    omega (arith, sum_by-cons f x xs, two_places f xs i j c d (λ same. differ (ap suc same)) (omega arith) (omega arith))

-- the index of an item, as a lookup returns it
contains_at : {T : Type 0} (xs : List T) (k : ℕ) (x : T) → slice_get xs k ≡ Some x → Contains xs x
contains_at xs k x at = (k, slice_get_within xs k x at, get_or_from_slice_get xs k x x at)

at_contains : {T : Type 0} (xs : List T) (x : T) (c : Contains xs x) → slice_get xs c.0 ≡ Some x
at_contains xs x c = slice_get-get_or xs c.0 x c.1 ∙ ap Some c.2

there_is : {T : Type 0} (xs : List T) (k : ℕ) → k < length xs → (x : T) × (slice_get xs k ≡ Some x)
there_is xs k lt =
    elim (slice_get_cases xs k).1 [
      | inl h ↦ (h.0, h.2)
      | inr h ↦ absurd (let past = h.0 in omega arith)
    ]

module _ (es fs : List Entry) (tasks : List (Node × Node)) (left : (k : ℕ) → count_by (has_number k) es ≤ 1)
    (right : (k : ℕ) → count_by (has_number k) fs ≤ 1) (s : SharesMet es fs tasks) where
  no_more : (i j : ℕ) → sum_by (weight i j) tasks ≤ 1
  no_more i j = omega (arith, s.once i j, at_most_product (count_by (has_number i) es) (count_by (has_number j) fs) (left i) (right j))

  one_place : (e f : Entry) (i j : ℕ) (t u : Node × Node) → slice_get tasks i ≡ Some t → HoldsBoth e f t → slice_get tasks j ≡ Some u → HoldsBoth e f u → i ≡ j
  one_place e f i j t u at_t in_t at_u in_u =
      elim (cases_eq i j) [
        | inl same ↦ same
        | inr differ ↦
            let w = weight e.number f.number in
            absurd (omega (
              arith,
              two_places w tasks i j t u differ (slice_get_within tasks i t at_t) (slice_get_within tasks j u at_u),
              no_more e.number f.number,
              heavy e f t in_t,
              heavy e f u in_u,
              ap w (get_or_from_slice_get tasks i t t at_t),
              ap w (get_or_from_slice_get tasks j u u at_u),
            ))
      ]

  -- the tasks share out the pairs of entries that meet
  pub share_out : ShareOut es fs tasks
  share_out = record {
    lefts = All-weaker (λ t. IsPart es (entries_of t.0)) (λ t. All (Contains es) (entries_of t.0)) (λ t h. h.held) tasks s.lefts;
    rights = All-weaker (λ t. IsPart fs (entries_of t.1)) (λ t. All (Contains fs) (entries_of t.1)) (λ t h. h.held) tasks s.rights;
    one = λ e f c d m.
        let t = s.every e f c d m in
        record {
          place = t.1.0;
          task = t.0;
          there = at_contains tasks t.0 t.1;
          holds = t.2;
          only = λ k other at holds. one_place e f k t.1.0 other t.0 at holds (at_contains tasks t.0 t.1) t.2;
        };
  }

-- a sum along two lists of one length
sums_along : {A B : Type 0} (f : A → ℕ) (g : B → ℕ) (xs : List A) (ys : List B) → length xs ≡ length ys →
    ((k : ℕ) (x : A) (y : B) → slice_get xs k ≡ Some x → slice_get ys k ≡ Some y → f x ≤ g y) → sum_by f xs ≤ sum_by g ys
sums_along f g [] ys e h = omega arith
sums_along f g (x ∷ xs) [] e h = absurd (omega arith)
sums_along f g (x ∷ xs) (y ∷ ys) e h =
    omega (arith, sum_by-cons f x xs, sum_by-cons g y ys, h 0 x y refl refl, sums_along f g xs ys (omega arith) (λ k a b p q. h (suc k) a b p q))

both_true : (a b : Bool) → a && b ≡ true → (a ≡ true) × (b ≡ true)
both_true true b e = (refl, e)
both_true false b e = absurd cc

same_pair : (p q : ℕ × ℕ) → is_pair p q ≡ true → q ≡ p
same_pair p q e =
    let both = both_true (q.0 == p.0) (q.1 == p.1) e in
    let first = eqb-true q.0 p.0 both.0 in
    let second = eqb-true q.1 p.1 both.1 in
    λ i. (first i, second i)

count_step : (p q : ℕ × ℕ) (row : List (ℕ × ℕ)) (b : Bool) → is_pair p q ≡ b → count_by (is_pair p) (q ∷ row) ≡ cond {A = ℕ} b 1 0 + count_by (is_pair p) row
count_step p q row b e =
    let f : ℕ × ℕ → ℕ = λ r. cond {A = ℕ} (is_pair p r) 1 0 in
    omega (arith, sum_by-cons f q row, ap (λ c. cond {A = ℕ} c 1 0) e)

-- a pair that is counted is there
count_here : (p q : ℕ × ℕ) (row : List (ℕ × ℕ)) (b : Bool) → is_pair p q ≡ b → 1 ≤ count_by (is_pair p) (q ∷ row) →
    (1 ≤ count_by (is_pair p) row → Contains row p) → Contains (q ∷ row) p
count_here p q row true e h later = subst (Contains (q ∷ row)) (same_pair p q e) (contains_here q row)
count_here p q row false e h later = contains_later q row p (later (omega (arith, h, count_step p q row false e)))

count_contains : (p : ℕ × ℕ) (row : List (ℕ × ℕ)) → 1 ≤ count_by (is_pair p) row → Contains row p
count_contains p [] h = absurd (omega arith)
count_contains p (q ∷ row) h = count_here p q row (is_pair p q) refl h (count_contains p row)

not_itself : (p : ℕ × ℕ) → Precedes p p → ⊥
not_itself p (inl h) = omega arith
not_itself p (inr h) = omega (arith, h.1)

not_later : (p q : ℕ × ℕ) (row : List (ℕ × ℕ)) → AllPairs Precedes (q ∷ row) → is_pair p q ≡ true → Contains row p → ⊥
not_later p q row up e c =
    let before : Precedes q (get_or row c.0 p) = up 0 (suc c.0) p (omega arith) (let within = c.1 in omega arith) in
    not_itself p (subst (λ (r : ℕ × ℕ). Precedes r p) (same_pair p q e) (subst (Precedes q) c.2 before))

-- in an ascending list no pair comes twice
count_first : (p q : ℕ × ℕ) (row : List (ℕ × ℕ)) → AllPairs Precedes (q ∷ row) → (b : Bool) → is_pair p q ≡ b → count_by (is_pair p) row ≤ 1 →
    count_by (is_pair p) (q ∷ row) ≤ 1
count_first p q row up true e rest =
    elim (cases_eq (count_by (is_pair p) row) 0) [
      | inl zero_is ↦ omega (arith, count_step p q row true e, zero_is)
      | inr some ↦ absurd (not_later p q row up e (count_contains p row (omega arith)))
    ]
count_first p q row up false e rest = omega (arith, rest, count_step p q row false e)

count_ascending : (p : ℕ × ℕ) (row : List (ℕ × ℕ)) → AllPairs Precedes row → count_by (is_pair p) row ≤ 1
count_ascending p [] up = omega arith
count_ascending p (q ∷ row) up =
    count_first p q row up (is_pair p q) refl
    (count_ascending p row (λ i j d lt within. up (suc i) (suc j) d (omega arith) (omega arith)))

-- a pair comes in the row of a task no more often than the task holds two entries with its numbers
row_weight : (relation : Relation) (t : Node × Node) (row : List (ℕ × ℕ)) → IsRow relation t row → (p : ℕ × ℕ) → count_by (is_pair p) row ≤ weight p.0 p.1 t
row_weight relation t row h p =
    elim (cases_eq (count_by (is_pair p) row) 0) [
      | inl zero_is ↦ omega arith
      | inr some ↦
          let s = (h.exact p).0 (count_contains p row (omega arith)) in
          let both = heavy s.first s.second t (s.first_held, s.second_held) in
          let moved : 1 ≤ weight p.0 p.1 t = subst (λ (q : ℕ × ℕ). 1 ≤ weight q.0 q.1 t) (sym s.numbers) both in
          omega (arith, count_ascending p row h.ascending, moved)
    ]

stand_wider : (relation : Relation) (es fs : List Entry) (t : Node × Node) (p : ℕ × ℕ) → IsPart es (entries_of t.0) → IsPart fs (entries_of t.1) →
    StandIn relation (entries_of t.0) (entries_of t.1) p → StandIn relation es fs p
stand_wider relation es fs t p left right s = record {
  first = s.first;
  second = s.second;
  first_held = All-contains (Contains es) (entries_of t.0) s.first left.held s.first_held;
  second_held = All-contains (Contains fs) (entries_of t.1) s.second right.held s.second_held;
  numbers = s.numbers;
  holds = s.holds;
}

-- the rows of the tasks, together, are the pairs of the trees
pub rows_join : (es fs : List Entry) (tasks : List (Node × Node)) → ((k : ℕ) → count_by (has_number k) es ≤ 1) → ((k : ℕ) → count_by (has_number k) fs ≤ 1) →
    SharesMet es fs tasks → (relation : Relation) → ForbidsDisjoint relation → RowsJoin relation es fs tasks
rows_join es fs tasks left right s relation forbids rows are = record {
  exact = λ pair. (
    (λ c.
        let r = joined_contains (λ (row : List (ℕ × ℕ)). row) rows pair c in
        let t = there_is tasks r.1.0 (let within = r.1.1 in omega (arith, are.as_many)) in
        let here = contains_at tasks r.1.0 t.0 t.1 in
        stand_wider relation es fs t.0 pair (All-contains (λ (u : Node × Node). IsPart es (entries_of u.0)) tasks t.0 s.lefts here)
        (All-contains (λ (u : Node × Node). IsPart fs (entries_of u.1)) tasks t.0 s.rights here)
        (((are.each r.1.0 t.0 r.0 t.1 (at_contains rows r.0 r.1)).exact pair).0 r.2)),
    (λ st.
        let meet : Meets st.first.shape st.second.shape = elim (meet_or_not st.first.shape st.second.shape) [
          | inl m ↦ m
          | inr apart ↦ absurd (forbids st.first.shape st.second.shape apart st.holds)
        ] in
        let t = s.every st.first st.second st.first_held st.second_held meet in
        let r = there_is rows t.1.0 (let within = t.1.1 in omega (arith, are.as_many)) in
        let row = are.each t.1.0 t.0 r.0 (at_contains tasks t.0 t.1) r.1 in
        contains_joined (λ (row : List (ℕ × ℕ)). row) rows r.0 pair (contains_at rows t.1.0 r.0 r.1)
        ((row.exact pair).1
        (record { first = st.first; second = st.second; first_held = t.2.0; second_held = t.2.1; numbers = st.numbers; holds = st.holds }))),
  );
  once = λ pair.
      omega (
        arith,
        sum_joined (λ q. cond {A = ℕ} (is_pair pair q) 1 0) (λ (row : List (ℕ × ℕ)). row) rows,
        sums_along (λ row. count_by (is_pair pair) row) (weight pair.0 pair.1) rows tasks are.as_many
            (λ k row t at_row at_task. row_weight relation t row (are.each k t row at_task at_row) pair),
        no_more es fs tasks left right s pair.0 pair.1,
      );
}
