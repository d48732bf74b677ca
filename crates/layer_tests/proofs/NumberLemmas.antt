-- Lists of entries whose numbers differ, in the order in which they come, and numbers that a tree lacks.
use Rattle.std.proofs.Common.{arith, ◌≡◌, ◌≢◌, ◌≤◌, ℕ, ◌+◌, Bool, true, false, cond, List, [], ◌∷◌, ◌++◌, refl, inl, inr}
use Rattle.std.specs.Prelude.{IsTrue, IsFalse, Option, count_by}
use Rattle.std.proofs.lemmas.Bool.{cases_eq}
use Rattle.std.proofs.lemmas.List.Sums.{sum_by-cons, sum_by_push}
use Rattle.rtree_core.specs.declared.node.Entry.{Entry}
use Rattle.rtree_core.specs.declared.node.Node.{Node}
use Rattle.rtree_core.specs.Collections.{Gains}
use Rattle.rtree_core.specs.Trees.{entries_in, has_number, IsFresh}
use Rattle.rtree_core.proofs.TreeLemmas.{not_that, at_most_one}

-- the numbers differ, and all are less than n
pub record AreBelow (n : ℕ) (es : List Entry) : Type 0 where
  pub distinct : (k : ℕ) → count_by (has_number k) es ≤ 1
  pub fresh : (k : ℕ) → n ≤ k → count_by (has_number k) es ≡ 0

pushed : (k : ℕ) (es : List Entry) (e : Entry) → count_by (has_number k) (es ++ e ∷ []) ≡ count_by (has_number k) es + cond {A = ℕ} (has_number k e) 1 0
pushed k es e = sum_by_push (λ x. cond {A = ℕ} (has_number k x) 1 0) es e

-- one more entry, whose number is n
pub one_more : (n : ℕ) (es : List Entry) (e : Entry) → e.number ≡ n → AreBelow n es → AreBelow (n + 1) (es ++ e ∷ [])
one_more n es e is h = record {
  distinct = λ k. elim (cases_eq e.number k) [
    | inl same ↦ omega (arith, pushed k es e, h.fresh k (omega arith), at_most_one e k)
    | inr differs ↦ omega (arith, pushed k es e, h.distinct k, not_that e k differs)
  ];
  fresh = λ k large. omega (arith, pushed k es e, h.fresh k (omega arith), not_that e k (λ same. omega arith));
}

-- a number that differs from that of the entry that came in stays fresh
pub fresh_after : (x : Entry) (old new : Option Node) (k : ℕ) → Gains x (entries_in old) (entries_in new) → x.number ≢ k → IsFresh k old → IsFresh k new
fresh_after x old new k gains other fresh =
    omega (arith, gains (has_number k), sum_by-cons (λ y. cond {A = ℕ} (has_number k y) 1 0) x (entries_in old), not_that x k other)

-- a fresh number stays fresh at a removal
pub fresh_still : (x : Entry) (old new : Option Node) (removed : Bool) (k : ℕ) →
    (IsTrue removed → Gains x (entries_in new) (entries_in old)) →
    (IsFalse removed → new ≡ old) →
    IsFresh k old →
    IsFresh k new
fresh_still x old new true k loses kept fresh =
    omega (arith, fresh, loses refl (has_number k), sum_by-cons (λ y. cond {A = ℕ} (has_number k y) 1 0) x (entries_in new))
fresh_still x old new false k loses kept fresh = rw (kept refl) fresh
