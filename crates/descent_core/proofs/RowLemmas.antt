-- A descent's pairs, once they are sorted, are the row of a task.
use Rattle.std.proofs.Common.{arith, ◌≡◌, ℕ, zero, suc, ◌+◌, ◌*◌, ◌<◌, ◌≤◌, false, cond, List, [], length, get_or, refl, sym, ap, ◌∙◌, ◌++◌, subst, add-one, inl, inr}
use Rattle.std.specs.Prelude.{◌⊎◌, ◌==◌, ◌&&◌, AllPairs, count_by}
use Rattle.std.specs.Ordering.{nat_cmp, is_lt}
use Rattle.std.specs.List.Sorted.{IsSorted, IsPermutation}
use Rattle.std.proofs.lemmas.Bool.{cases_eq}
use Rattle.std.proofs.lemmas.Bool.Decides.{nat_tests}
use Rattle.std.proofs.lemmas.Cmp.{ranked, by_ranked}
use Rattle.std.proofs.lemmas.List.Sums.{sum_by_more, sum_by-take-le}
use Rattle.std.proofs.lemmas.List.Sorted.{sum_by-IsPermutation, Contains-permutation, IsPermutation-sym}
use Rattle.pair_core.specs.Pairs.{pair_cmp}
use Rattle.relation_core.specs.declared.relation.Relation.{Relation}
use Rattle.rtree_core.specs.declared.node.Node.{Node}
use Rattle.rtree_core.specs.Nodes.{entries_of}
use Rattle.rtree_core.specs.Trees.{has_number}
use Rattle.descent_core.specs.Plans.{IsTask}
use Rattle.descent_core.specs.Rows.{Precedes, IsRow}
use Rattle.descent_core.specs.Shares.{is_pair}
use Rattle.descent_core.specs.Finds.{Finds, Adds}

precedes_trans : (p q r : ℕ × ℕ) → Precedes p q → Precedes q r → Precedes p r
precedes_trans p q r (inl h) (inl k) = inl (omega arith)
precedes_trans p q r (inl h) (inr k) = inl (omega (arith, k.0))
precedes_trans p q r (inr h) (inl k) = inl (omega (arith, h.0))
precedes_trans p q r (inr h) (inr k) = inr (omega (arith, h.0, k.0), omega (arith, h.1, k.1))

-- a pair that the next one is not less than is equal to it or precedes it
not_less : (p q : ℕ × ℕ) → is_lt (pair_cmp q p) ≡ false → ((p.0 ≡ q.0) × (p.1 ≡ q.1)) ⊎ Precedes p q
not_less p q h =
    by_ranked (q.0 < p.0) (q.0 ≡ p.0) (p.0 < q.0) (nat_cmp q.0 p.0) (ranked q.0 p.0 (nat_cmp q.0 p.0) refl)
    (λ less lt. absurd (let bad = rw less at h in cc))
    (λ tied same.
    let second = rw tied at h in
    by_ranked (q.1 < p.1) (q.1 ≡ p.1) (p.1 < q.1) (nat_cmp q.1 p.1) (ranked q.1 p.1 (nat_cmp q.1 p.1) refl)
    (λ less lt. absurd (let bad = rw less at second in cc))
    (λ tied_too same_too. inl (sym same, sym same_too))
    (λ greater lt. inr (inr (sym same, lt))))
    (λ greater lt. inr (inl lt))

itself : (p : ℕ × ℕ) → cond {A = ℕ} (is_pair p p) 1 0 ≡ 1
itself p = both (p.0) (p.1)
  where
    both : (a b : ℕ) → cond {A = ℕ} ((a == a) && (b == b)) 1 0 ≡ 1
    both a b = grind (arith, nat_tests)

alike : (p q : ℕ × ℕ) → p.0 ≡ q.0 → p.1 ≡ q.1 → cond {A = ℕ} (is_pair p q) 1 0 ≡ 1
alike p q a b =
    subst (λ (k : ℕ). cond {A = ℕ} ((k == p.0) && (q.1 == p.1)) 1 0 ≡ 1) a
    (subst (λ (k : ℕ). cond {A = ℕ} ((p.0 == p.0) && (k == p.1)) 1 0 ≡ 1) b (itself p))

-- a pair that comes twice is counted twice
twice : (ps : List (ℕ × ℕ)) (i : ℕ) (d : ℕ × ℕ) → i + 1 < length ps → (get_or ps i d).0 ≡ (get_or ps (i + 1) d).0 →
    (get_or ps i d).1 ≡ (get_or ps (i + 1) d).1 → 2 ≤ count_by (is_pair (get_or ps i d)) ps
twice ps i d lt first second =
    let f : ℕ × ℕ → ℕ = λ q. cond {A = ℕ} (is_pair (get_or ps i d) q) 1 0 in
    omega (
      arith,
      sum_by_more f ps i d (omega arith),
      sum_by_more f ps (i + 1) d lt,
      itself (get_or ps i d),
      alike (get_or ps i d) (get_or ps (i + 1) d) first second,
      sum_by-take-le f ps ((i + 1) + 1),
    )

module _ (ps : List (ℕ × ℕ)) (up : IsSorted pair_cmp ps) (once : (p : ℕ × ℕ) → count_by (is_pair p) ps ≤ 1) where
  next_precedes : (i : ℕ) (d : ℕ × ℕ) → i + 1 < length ps → Precedes (get_or ps i d) (get_or ps (i + 1) d)
  next_precedes i d lt =
      elim (not_less (get_or ps i d) (get_or ps (i + 1) d) (up i d (omega arith) lt)) [
        | inl same ↦ absurd (omega (arith, twice ps i d lt same.0 same.1, once (get_or ps i d)))
        | inr h ↦ h
      ]

  ascends : (i j : ℕ) (d : ℕ × ℕ) → i < j → j < length ps → Precedes (get_or ps i d) (get_or ps j d)
  ascends i zero d lt within = absurd (omega arith)
  ascends i (suc j) d lt within =
      let next : Precedes (get_or ps j d) (get_or ps (suc j) d) =
      subst (λ k. Precedes (get_or ps j d) (get_or ps k d)) (add-one j) (next_precedes j d (omega arith)) in
      elim (cases_eq i j) [
        | inl same ↦ subst (λ k. Precedes (get_or ps k d) (get_or ps (suc j) d)) (sym same) next
        | inr differs ↦ precedes_trans (get_or ps i d) (get_or ps j d) (get_or ps (suc j) d) (ascends i j d (omega arith) (omega arith)) next
      ]

  pub all_ascend : AllPairs Precedes ps
  all_ascend i j d lt within = ascends i j d lt within

pub at_most_product : (a b : ℕ) → a ≤ 1 → b ≤ 1 → a * b ≤ 1
at_most_product zero b h k = omega arith
at_most_product (suc zero) b h k = omega arith
at_most_product (suc (suc a)) b h k = absurd (omega arith)

-- the pairs found from nothing, sorted
pub sorted_row : (relation : Relation) (task : Node × Node) (old found sorted : List (ℕ × ℕ)) → IsTask task → old ≡ []
    → Adds relation (entries_of task.0) (entries_of task.1) old found → IsPermutation found sorted → IsSorted pair_cmp sorted → IsRow relation task sorted
sorted_row relation task old found sorted is none adds same up =
    let finds : Finds relation (entries_of task.0) (entries_of task.1) found =
    subst (Finds relation (entries_of task.0) (entries_of task.1)) (sym (adds.items ∙ ap (λ l. l ++ adds.found) none)) adds.finds in
    record {
      ascending = all_ascend sorted up
          (λ p. omega (
            arith,
            finds.once p,
            at_most_product (count_by (has_number p.0) (entries_of task.0)) (count_by (has_number p.1) (entries_of task.1)) (is.left_once p.0) (is.right_once p.1),
            sum_by-IsPermutation (λ q. cond {A = ℕ} (is_pair p q) 1 0) found sorted same,
          ));
      exact = λ pair. (
        (λ c. (finds.exact pair).0 (Contains-permutation sorted found pair (IsPermutation-sym found sorted same) c)),
        (λ s. Contains-permutation found sorted pair same ((finds.exact pair).1 s)),
      );
    }
