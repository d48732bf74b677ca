-- The refinement of the join list of a filter is the join list of its condition.
use Rattle.std.proofs.Common.{◌≡◌, ◌≢◌, ◌⊎◌, inl, inr, ℕ, ◌<◌, Bool, true, false, cond, nat_eq, nat_lt, List, All, Result, Ok, Err, IfOk, get_or, refl, ap, arith}
use Rattle.std.proofs.lemmas.Bool.Decides.{nat_tests}
use Rattle.std.proofs.lemmas.List.Elements.{All-nil, All-cons}
use Rattle.descent_core.specs.Rows.{Precedes}
use Rattle.filter_core.specs.Joins.{IsJoinList}
use Rattle.filter_core.proofs.NumberLemmas.{contains_at}
use Rattle.refine_core.specs.declared.refined.Refined.{Refined}
use Rattle.refine_core.specs.Refinements.{AreRefined, none, kept, left_out, HoldsEachOnce, IsInOrder, IsPairIn, pairs_of}
use Rattle.refine_core.proofs.RefinementLemmas.{all_pairs_refined, each_once}
use Rattle.near_core.specs.Lists.{HasAnswer}

-- the test of the order of pairs
abbrev before : ℕ × ℕ → ℕ × ℕ → Bool
before p q = cond (nat_lt p.0 q.0) true (cond (nat_eq p.0 q.0) (nat_lt p.1 q.1) false)

lower_tested : (a b : ℕ) → a < b → nat_lt a b ≡ true
lower_tested a b lower = grind (arith, nat_tests)

tested_lower : (a b : ℕ) → nat_lt a b ≡ true → a < b
tested_lower a b tested = grind (arith, nat_tests)

equal_tested : (a b : ℕ) → a ≡ b → nat_eq a b ≡ true
equal_tested a b same = grind (arith, nat_tests)

tested_equal : (a b : ℕ) → nat_eq a b ≡ true → a ≡ b
tested_equal a b tested = grind (arith, nat_tests)

second_tested : (a b c : Bool) → b ≡ true → c ≡ true → cond a true (cond b c false) ≡ true
second_tested true b c is_b is_c = refl
second_tested false true c is_b is_c = is_c
second_tested false false c is_b is_c = absurd cc

tested_either : (a b c : Bool) → cond a true (cond b c false) ≡ true → (a ≡ true) ⊎ ((b ≡ true) × (c ≡ true))
tested_either true b c is = inl refl
tested_either false true c is = inr (refl, is)
tested_either false false c is = absurd cc

precedes_tested : (p q : ℕ × ℕ) → Precedes p q → before p q ≡ true
precedes_tested p q (inl lower) = rw (lower_tested p.0 q.0 lower) refl
precedes_tested p q (inr beside) =
    second_tested (nat_lt p.0 q.0) (nat_eq p.0 q.0) (nat_lt p.1 q.1) (equal_tested p.0 q.0 beside.0) (lower_tested p.1 q.1 beside.1)

tested_precedes : (p q : ℕ × ℕ) → before p q ≡ true → Precedes p q
tested_precedes p q tested = elim (tested_either (nat_lt p.0 q.0) (nat_eq p.0 q.0) (nat_lt p.1 q.1) tested) [
  | inl lower ↦ inl (tested_lower p.0 q.0 lower)
  | inr beside ↦ inr (tested_equal p.0 q.0 beside.0, tested_lower p.1 q.1 beside.1)
]

-- a pair precedes no pair that is equal to it
precedes_differs : (p q : ℕ × ℕ) → Precedes p q → p ≢ q
precedes_differs p q (inl lower) = λ same. let is = ap (λ (r : ℕ × ℕ). r.0) same in omega (arith, lower, is)
precedes_differs p q (inr beside) = λ same. let lower = beside.1 in let is = ap (λ (r : ℕ × ℕ). r.1) same in omega (arith, lower, is)

-- a join list holds each pair once
module _ (near : ℕ → ℕ → Type 0) (pairs : List (ℕ × ℕ)) (list : IsJoinList (λ p. near p.0 p.1) pairs) where
  listed_once : HoldsEachOnce near pairs
  listed_once = record {
    exact = list.exact;
    once = λ i j d lower within. precedes_differs (get_or pairs i d) (get_or pairs j d) (list.in_order i j d lower within);
  }

  -- and in order
  listed_in_order : IsInOrder before pairs
  listed_in_order = λ i j d lower within. precedes_tested (get_or pairs i d) (get_or pairs j d) (list.in_order i j d lower within)

  -- and each of its pairs satisfies the condition
  pub each_listed : All (IsPairIn near) pairs
  each_listed = λ k d within. (list.exact (get_or pairs k d)).0 (contains_at pairs k d within)

-- a list that holds each pair once and in order is the join list
list_of_each_once : (stands : ℕ → ℕ → Type 0) (pairs : List (ℕ × ℕ)) → HoldsEachOnce stands pairs → IsInOrder before pairs → IsJoinList (λ p. stands p.0 p.1) pairs
list_of_each_once stands pairs each ordered = record {
  in_order = λ i j d lower within. tested_precedes (get_or pairs i d) (get_or pairs j d) (ordered i j d lower within);
  exact = each.exact;
}

module _ {A : Type 0} (stands : ℕ → ℕ → Type 0) (answers : ℕ → ℕ → A → Type 0) where
  -- each refined pair has an answer of its own
  refined_answers : {pairs : List (ℕ × ℕ)} {refined : List (Refined A)} → AreRefined stands answers pairs refined
      → All (λ (r : Refined A). answers r.pair.0 r.pair.1 r.answer) refined
  refined_answers none = All-nil (λ (r : Refined A). answers r.pair.0 r.pair.1 r.answer)
  refined_answers (kept {pair} {answer} {pairs} {refined} is right are) =
      All-cons (λ (r : Refined A). answers r.pair.0 r.pair.1 r.answer) (record { pair = pair; answer = answer }) refined right (refined_answers are)
  refined_answers (left_out isnt are) = refined_answers are

  -- the refinement of a join list is a join list
  pub refined_join_list : (near : ℕ → ℕ → Type 0) (pairs : List (ℕ × ℕ)) (refined : List (Refined A)) → ((i j : ℕ) → stands i j → near i j)
      → AreRefined stands answers pairs refined → IsJoinList (IsPairIn near) pairs → IsJoinList (IsPairIn stands) (pairs_of refined)
  refined_join_list near pairs refined is_near are list =
      list_of_each_once stands (pairs_of refined) (each_once stands answers near pairs refined is_near are (listed_once near pairs list))
      (all_pairs_refined stands answers (λ p q. before p q ≡ true) are (listed_in_order near pairs list))

module _ {A T E : Type 0} (near stands : ℕ → ℕ → Type 0) (items : T → List (Refined A)) (pairs : List (ℕ × ℕ)) where
  -- what a refinement of a join list returns is a join list
  pub refined_list : (out : Result T E) → IsJoinList (IsPairIn near) pairs
      → (HoldsEachOnce near pairs → IfOk out (λ r. HoldsEachOnce stands (pairs_of (items r))))
      → ((test : ℕ × ℕ → ℕ × ℕ → Bool) → IsInOrder test pairs → IfOk out (λ r. IsInOrder test (pairs_of (items r))))
      → IfOk out (λ r. IsJoinList (IsPairIn stands) (pairs_of (items r)))
  refined_list (Err e) list each_once in_order = tt
  refined_list (Ok r) list each_once in_order =
      list_of_each_once stands (pairs_of (items r)) (each_once (listed_once near pairs list)) (in_order before (listed_in_order near pairs list))

  -- each pair with a correct answer
  pub correct_answers : (answers : ℕ → ℕ → A → Type 0) (out : Result T E) → IfOk out (λ r. AreRefined stands answers pairs (items r))
      → IfOk out (λ r. All (HasAnswer answers) (items r))
  correct_answers answers (Err e) refined = tt
  correct_answers answers (Ok r) refined = refined_answers stands answers refined
