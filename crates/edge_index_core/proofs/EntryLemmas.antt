-- Entries that are numbered by their places: their numbers differ, and a tree of them has one of each edge.
use Rattle.std.proofs.Common.{arith, ◌≡◌, ◌≤◌, ◌<◌, ◌+◌, ℕ, zero, suc, Bool, true, false, cond, List, [], ◌∷◌, ◌++◌, length, get_or, refl, sym, subst, ◌∙◌, inl, inr, below_more, length-append}
use Rattle.std.specs.Prelude.{Contains, count_by}
use Rattle.std.proofs.lemmas.Bool.{cases_eq}
use Rattle.std.proofs.lemmas.List.{get_or_append_left, get_or_default}
use Rattle.std.proofs.lemmas.List.Sums.{sum_by_push, sum_by-cons}
use Rattle.std.proofs.Math.Seq.{get_or-append_seam}
use Rattle.plane_core.specs.declared.edge.Edge.{Edge}
use Rattle.rtree_core.specs.contracts.node.EntryPartialEq.TheImpl.{eq-value}
use Rattle.rtree_core.specs.declared.node.Entry.{Entry}
use Rattle.rtree_core.specs.Collections.{HasSame}
use Rattle.rtree_core.specs.Trees.{has_number}
use Rattle.rtree_core.proofs.RemovalLemmas.{entry_same, entry_itself}
use Rattle.rtree_core.proofs.TreeLemmas.{not_that, at_most_one}
use Rattle.edge_index_core.specs.Entries.{IsEntryOf, AreEntriesOf, HasEntriesOf}

-- an entry for each of the first n edges
pub record AreFirst (es : List Edge) (n : ℕ) (entries : List Entry) : Type 0 where
  pub len : length entries ≡ n
  pub each : (k : ℕ) → k < n → (e : Edge) (x : Entry) → IsEntryOf k (get_or es k e) (get_or entries k x)
  pub distinct : (k : ℕ) → count_by (has_number k) entries ≤ 1
  pub fresh : (k : ℕ) → n ≤ k → count_by (has_number k) entries ≡ 0

pub none_first : (es : List Edge) (entries : List Entry) → entries ≡ [] → AreFirst es 0 entries
none_first es entries e = subst (AreFirst es 0) (sym e) record {
  len = refl;
  each = λ k lt d x. absurd (omega (arith, lt));
  distinct = λ k. omega arith;
  fresh = λ k le. refl;
}

-- an entry more
pub one_more : (es : List Edge) (n : ℕ) (entries : List Entry) (entry : Entry) (edge : Edge)
    → ((e : Edge) → IsEntryOf n (get_or es n e) entry) → AreFirst es n entries → AreFirst es (n + 1) (entries ++ entry ∷ [])
one_more es n entries entry edge is h = record {
  len = grown;
  each = below_more (λ k. (e : Edge) (x : Entry) → IsEntryOf k (get_or es k e) (get_or (entries ++ entry ∷ []) k x)) n
      (λ k lt e x. subst (IsEntryOf k (get_or es k e)) (sym (get_or_append_left entries (entry ∷ []) x k (omega (arith, lt, h.len)))) (h.each k lt e x))
      (λ e x. subst (IsEntryOf n (get_or es n e)) (sym (last x)) (is e));
  distinct = λ k. elim (cases_eq entry.number k) [
    | inl same ↦ omega (arith, pushed k, h.fresh k (omega (arith, same, number)), at_most_one entry k)
    | inr differs ↦ omega (arith, pushed k, h.distinct k, not_that entry k differs)
  ];
  fresh = λ k large. omega (arith, pushed k, h.fresh k (omega arith), not_that entry k (λ same. omega (arith, number)));
}
  where
    grown : length (entries ++ entry ∷ []) ≡ n + 1
    grown = length-append entries (entry ∷ []) ∙ omega (arith, h.len)

    last : (x : Entry) → get_or (entries ++ entry ∷ []) n x ≡ entry
    last x = subst (λ m. get_or (entries ++ entry ∷ []) m x ≡ entry) h.len (get_or-append_seam entries entry [] x)

    number : entry.number ≡ n
    number = (is edge).number_is

    pushed : (k : ℕ) → count_by (has_number k) (entries ++ entry ∷ []) ≡ count_by (has_number k) entries + cond {A = ℕ} (has_number k entry) 1 0
    pushed k = sum_by_push (λ x. cond {A = ℕ} (has_number k x) 1 0) entries entry

pub all_entries : (es : List Edge) (n : ℕ) (entries : List Entry) → n ≤ length es → length es ≤ n → AreFirst es n entries → AreEntriesOf es entries
all_entries es n entries low high h = record {
  len = omega (arith, h.len);
  each = λ k lt. h.each k (omega (arith, lt));
}

-- a list with the same items as another has the items of that
pub counted : (e : Entry) (xs : List Entry) (k : ℕ) → k < length xs → get_or xs k e ≡ e → 0 < count_by (eq-value.it e) xs
counted e [] k lt at = absurd (omega (arith, lt))
counted e (x ∷ xs) zero lt at =
    let one : cond {A = ℕ} (eq-value.it e x) 1 0 ≡ 1 = rw (at, entry_itself e) refl in
    omega (arith, one, sum_by-cons (λ y. cond {A = ℕ} (eq-value.it e y) 1 0) x xs)
counted e (x ∷ xs) (suc k) lt at =
    omega (arith, counted e xs k (omega (arith, lt)) at, sum_by-cons (λ y. cond {A = ℕ} (eq-value.it e y) 1 0) x xs)

pub held : (e : Entry) (xs : List Entry) → 0 < count_by (eq-value.it e) xs → Contains xs e
held e [] h = absurd (omega (arith, h))
held e (x ∷ xs) h = by (eq-value.it e x) refl (λ some. held e xs some)
  where
    by : (t : Bool) → eq-value.it e x ≡ t → (0 < count_by (eq-value.it e) xs → Contains xs e) → Contains (x ∷ xs) e
    by true t later = (0, omega arith, sym (entry_same e x t))
    by false t later =
        let none : cond {A = ℕ} (eq-value.it e x) 1 0 ≡ 0 = rw t refl in
        let found = later (omega (arith, h, none, sum_by-cons (λ y. cond {A = ℕ} (eq-value.it e y) 1 0) x xs)) in
        (suc found.0, omega (arith, found.1), found.2)

-- so a tree of the entries has one of each edge
pub tree_holds : (es : List Edge) (entries held_there : List Entry) → AreEntriesOf es entries → HasSame entries held_there → HasEntriesOf es held_there
tree_holds es [] there are same k lt d = absurd (omega (arith, lt, are.len))
tree_holds es (y ∷ ys) there are same k lt d =
    let x = get_or (y ∷ ys) k y in
    let within : k < length (y ∷ ys) = omega (arith, lt, are.len) in
    (x, are.each k lt d y, held x there (omega (arith, same (eq-value.it x), counted x (y ∷ ys) k within (get_or_default (y ∷ ys) k x y within))))
