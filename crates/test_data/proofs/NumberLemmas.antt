-- Lists of entries whose numbers differ, in the order in which they come.
use Rattle.std.proofs.Common.{arith, ◌≡◌, ◌≤◌, ℕ, ◌+◌, cond, List, [], ◌∷◌, ◌++◌, inl, inr}
use Rattle.std.specs.Prelude.{count_by}
use Rattle.std.proofs.lemmas.Bool.{cases_eq}
use Rattle.std.proofs.lemmas.List.Sums.{sum_by_push}
use Rattle.rtree_core.specs.declared.node.Entry.{Entry}
use Rattle.rtree_core.specs.Trees.{has_number}
use Rattle.rtree_core.proofs.TreeLemmas.{not_that, at_most_one}

-- the numbers differ, and all are less than n
pub record AreBelow (n : ℕ) (es : List Entry) : Type 0 where
  pub distinct : (k : ℕ) → count_by (has_number k) es ≤ 1
  pub fresh : (k : ℕ) → n ≤ k → count_by (has_number k) es ≡ 0

pushed : (k : ℕ) (es : List Entry) (e : Entry) → count_by (has_number k) (es ++ e ∷ []) ≡ count_by (has_number k) es + cond {A = ℕ} (has_number k e) 1 0
pushed k es e = sum_by_push (λ x. cond {A = ℕ} (has_number k x) 1 0) es e

-- one more entry, whose number is n
pub one_more : (n : ℕ) (es : List Entry) (e : Entry) → e.number ≡ n → AreBelow n es → AreBelow (n + 1) (es ++ e ∷ [])
one_more n es e is h = record {
  distinct = λ k. elim (cases_eq e.number k) [
    | inl same ↦ omega (arith, pushed k es e, h.fresh k (omega arith), at_most_one e k)
    | inr differs ↦ omega (arith, pushed k es e, h.distinct k, not_that e k differs)
  ];
  fresh = λ k large. omega (arith, pushed k es e, h.fresh k (omega arith), not_that e k (λ same. omega arith));
}
