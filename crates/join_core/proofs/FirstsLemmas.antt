-- Which pairs of a join are the first of their left feature.
use Rattle.std.proofs.Common.{◌≡◌, ◌≢◌, ◌+◌, ◌-◌, ◌<◌, ◌≤◌, ◌&&◌, inl, inr, ℕ, Bool, true, false, not, List, AllPairs}
use Rattle.std.proofs.Common.{[], ◌∷◌, ◌++◌, ap, ap₂, append-nil, arith, take, eq-eqb, eqb, filter, get_or, le_antisymm, le_of_eq, length, lt-ltb, ltb, map, subst, sym, ◌∙◌}
use Rattle.std.proofs.lemmas.Bool.{and_from, and_parts, cases_eq, cases_lt, cond-false, cond-true, eqb-true, false_from_ne_true, ltb-true, ne_eqb, not_from_false}
use Rattle.std.proofs.lemmas.List.{get_or_default, get_or-map}
use Rattle.std.proofs.lemmas.List.Elements.{filter_more}
use Rattle.std.proofs.lemmas.List.Folds.{list_any_at, list_any_none}
use Rattle.descent_core.specs.Rows.{Precedes}
use Rattle.join_core.specs.Firsts.{has_earlier}

-- the first pair has the left number of the second, and a lesser right number
abbrev is_earlier : ℕ × ℕ → ℕ × ℕ → Bool
is_earlier pair p = eqb p.0 pair.0 && ltb p.1 pair.1

-- one pair more, which passes a test or doesn't
module _ (test : ℕ × ℕ → Bool) (pairs : List (ℕ × ℕ)) (i : ℕ) (d : ℕ × ℕ) (old : List (ℕ × ℕ)) (within : i < length pairs)
    (so_far : old ≡ filter test (take i pairs)) where
  pub kept_more : (pair : ℕ × ℕ) (new : List (ℕ × ℕ)) → test (get_or pairs i d) ≡ true → pair ≡ get_or pairs i d → new ≡ old ++ pair ∷ []
      → new ≡ filter test (take (i + 1) pairs)
  kept_more pair new passes at grown = grown ∙ ap₂ (λ ps p. ps ++ p ∷ []) so_far at
      ∙ sym (filter_more test pairs i d within ∙ ap (λ ps. filter test (take i pairs) ++ ps) (cond-true (test (get_or pairs i d)) (get_or pairs i d ∷ []) [] passes))

  pub dropped_more : test (get_or pairs i d) ≡ false → old ≡ filter test (take (i + 1) pairs)
  dropped_more fails = so_far
      ∙ sym (filter_more test pairs i d within ∙ ap (λ ps. filter test (take i pairs) ++ ps) (cond-false (test (get_or pairs i d)) (get_or pairs i d ∷ []) [] fails)
      ∙ append-nil (filter test (take i pairs)))

-- the pair of the match at an index
pub pair_at_place : {M : Type 0} (pair_of : M → ℕ × ℕ) (matches : List M) (i : ℕ) (item : M) (pair d : ℕ × ℕ) → i < length matches
    → item ≡ get_or matches i item → pair ≡ pair_of item → pair ≡ get_or (map pair_of matches) i d
pair_at_place pair_of matches i item pair d within at same = same ∙ ap pair_of at ∙ sym (get_or-map pair_of matches i item d within)

module _ (pairs : List (ℕ × ℕ)) (ordered : AllPairs Precedes pairs) (d : ℕ × ℕ) where
  abbrev pair_at : ℕ → ℕ × ℕ
  pair_at k = get_or pairs k d

  -- left numbers don't fall
  lefts_rise : (j k : ℕ) → j ≤ k → k < length pairs → (pair_at j).0 ≤ (pair_at k).0
  lefts_rise j k h within =
      elim (cases_lt j k) [
        | inl before ↦ elim (ordered j k d before within) [
          | inl lower ↦ omega arith
          | inr same ↦ omega (arith, same.0)
        ]
        | inr not_before ↦ let here : j ≡ k = omega arith in le_of_eq (ap (λ n. (pair_at n).0) here)
      ]

  -- a pair with the same left and a lesser right number stands before
  stands_before : (i k : ℕ) → k < length pairs → (pair_at k).0 ≡ (pair_at i).0 → (pair_at k).1 < (pair_at i).1 → k < i
  stands_before i k within same lower =
      elim (cases_lt k i) [
        | inl before ↦ before
        | inr not_before ↦ elim (cases_lt i k) [
          | inl later ↦ elim (ordered i k d later within) [
            | inl higher ↦ absurd (omega arith)
            | inr also ↦ absurd (omega (arith, also.1))
          ]
          | inr here ↦ let at : k ≡ i = omega arith in let rights = ap (λ n. (pair_at n).1) at in absurd (omega arith)
        ]
      ]

  -- no pair before it has its left number
  no_earlier : (i : ℕ) → ((k : ℕ) → k < i → (pair_at k).0 ≢ (pair_at i).0) → has_earlier pairs (pair_at i) ≡ false
  no_earlier i other = list_any_none (is_earlier (pair_at i)) pairs (λ k e within.
      false_from_ne_true (is_earlier (pair_at i) (get_or pairs k e)) (λ earlier.
      let here = subst (λ (p : ℕ × ℕ). is_earlier (pair_at i) p ≡ true) (get_or_default pairs k e d within) earlier in
      let parts = and_parts (eqb (pair_at k).0 (pair_at i).0) (ltb (pair_at k).1 (pair_at i).1) here in
      let same = eqb-true (pair_at k).0 (pair_at i).0 parts.0 in
      other k (stands_before i k within same (ltb-true (pair_at k).1 (pair_at i).1 parts.1)) same))

  -- the pair before it has its left number
  one_earlier : (i : ℕ) → 0 < i → i < length pairs → (pair_at (i - 1)).0 ≡ (pair_at i).0 → has_earlier pairs (pair_at i) ≡ true
  one_earlier i some within same = list_any_at (is_earlier (pair_at i)) pairs (i - 1) d (omega arith)
      (and_from (eqb (pair_at (i - 1)).0 (pair_at i).0) (ltb (pair_at (i - 1)).1 (pair_at i).1) (eq-eqb (pair_at (i - 1)).0 (pair_at i).0 same)
      (lt-ltb (pair_at (i - 1)).1 (pair_at i).1
      (elim (ordered (i - 1) i d (omega arith) within) [
        | inl lower ↦ absurd (omega arith)
        | inr both ↦ both.1
      ])))

  -- the first of all pairs
  pub first_of_all : (i : ℕ) → i ≡ 0 → true ≡ not (has_earlier pairs (pair_at i))
  first_of_all i at = sym (not_from_false (has_earlier pairs (pair_at i)) (no_earlier i (λ k before same. absurd (omega arith))))

  -- a pair behind another is the first of its left feature if that has another left number
  pub first_behind : (i before left : ℕ) → 0 < i → i < length pairs → before ≡ (pair_at (i - 1)).0 → left ≡ (pair_at i).0
      → (b : Bool) → b ≡ not (eqb before left) → b ≡ not (has_earlier pairs (pair_at i))
  first_behind i before left some within before_is left_is b test = test ∙ elim (cases_eq before left) [
    | inl same ↦ ap not (eq-eqb before left same ∙ sym (one_earlier i some within (sym before_is ∙ same ∙ left_is)))
    | inr other ↦ ap not (ne_eqb before left other ∙ sym (no_earlier i (λ k less same.
        other (before_is ∙ le_antisymm (lefts_rise (i - 1) i (omega arith) within)
        (subst (λ (n : ℕ). n ≤ (pair_at (i - 1)).0) same (lefts_rise k (i - 1) (omega arith) (omega arith))) ∙ sym left_is))))
  ]
