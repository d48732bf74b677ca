-- The refinement of concatenated lists, and the facts on a list's pairs that its refinement
-- preserves.
use Rattle.std.proofs.Common.{◌≡◌, ◌≢◌, ◌⊎◌, inl, inr, ℕ, zero, suc, ◌+◌, ◌<◌, List, [], ◌∷◌, ◌++◌, Option, Some, None}
use Rattle.std.proofs.Common.{All, Contains, length, get_or, take, refl, sym, subst, arith}
use Rattle.std.specs.List.{AllPairs}
use Rattle.std.proofs.lemmas.List.{take_more}
use Rattle.std.proofs.lemmas.List.Elements.{All-nil, All-cons, All-head, All-tail}
use Rattle.std.proofs.lemmas.List.Kept.{AllPairs-cons}
use Rattle.refine_core.specs.declared.refined.Refined.{Refined}
use Rattle.refine_core.specs.Refinements.{AreRefined, none, kept, left_out, IsDecision, HoldsEachOnce, pairs_of, refined_as}

module _ {X : Type 0} where
  contains_here : (x : X) (xs : List X) → Contains (x ∷ xs) x
  contains_here x xs = (0, omega arith, refl)

  contains_later : (y : X) (xs : List X) (x : X) → Contains xs x → Contains (y ∷ xs) x
  contains_later y xs x c = (suc c.0, omega (arith, c.1), c.2)

  contains_cases : (y : X) (xs : List X) (x : X) → Contains (y ∷ xs) x → (y ≡ x) ⊎ Contains xs x
  contains_cases y xs x (zero, l, is) = inl is
  contains_cases y xs x (suc k, l, is) = inr (k, omega (arith, l), is)

  contains_none : (x : X) → Contains [] x → ⊥
  contains_none x c = absurd (omega (arith, c.1))

  all_pairs_head : (R : X → X → Type 0) (x : X) (xs : List X) → AllPairs R (x ∷ xs) → All (R x) xs
  all_pairs_head R x xs all = λ k d l. all 0 (suc k) d (omega arith) (omega (arith, l))

  all_pairs_tail : (R : X → X → Type 0) (x : X) (xs : List X) → AllPairs R (x ∷ xs) → AllPairs R xs
  all_pairs_tail R x xs all = λ i j d m l. all (suc i) (suc j) d (omega (arith, m)) (omega (arith, l))

module _ {A : Type 0} (stands : ℕ → ℕ → Type 0) (answers : ℕ → ℕ → A → Type 0) where
  pub refined_append : {ps qs : List (ℕ × ℕ)} {s t : List (Refined A)} → AreRefined stands answers ps s → AreRefined stands answers qs t
      → AreRefined stands answers (ps ++ qs) (s ++ t)
  refined_append none b = b
  refined_append (kept h k a) b = kept h k (refined_append a b)
  refined_append (left_out h a) b = left_out h (refined_append a b)

  one_refined : (pair : ℕ × ℕ) (found : Option A) → IsDecision stands answers pair found → AreRefined stands answers (pair ∷ []) (refined_as pair found)
  one_refined pair (Some answer) is = kept is.0 is.1 none
  one_refined pair None is = left_out is none

  -- one pair more
  pub pair_more : (pairs : List (ℕ × ℕ)) (i : ℕ) (d : ℕ × ℕ) (old new : List (Refined A)) (found : Option A) → i < length pairs
      → AreRefined stands answers (take i pairs) old → new ≡ old ++ refined_as (get_or pairs i d) found
      → IsDecision stands answers (get_or pairs i d) found → AreRefined stands answers (take (i + 1) pairs) new
  pair_more pairs i d old new found l so_far grown is =
      subst (λ ps. AreRefined stands answers ps new) (sym (take_more pairs i d l))
      (subst (AreRefined stands answers (take i pairs ++ get_or pairs i d ∷ [])) (sym grown)
      (refined_append so_far (one_refined (get_or pairs i d) found is)))

  -- a fact of all pairs is a fact of those that satisfy the condition
  all_refined : (P : ℕ × ℕ → Type 0) {ps : List (ℕ × ℕ)} {s : List (Refined A)} → AreRefined stands answers ps s → All P ps → All P (pairs_of s)
  all_refined P none all = All-nil P
  all_refined P (kept {pair} {answer} {pairs} {refined} h k a) all =
      All-cons P pair (pairs_of refined) (All-head P pair pairs all) (all_refined P a (All-tail P pair pairs all))
  all_refined P (left_out {pair} {pairs} {refined} h a) all = all_refined P a (All-tail P pair pairs all)

  -- and so is a fact of each two pairs
  pub all_pairs_refined : (R : ℕ × ℕ → ℕ × ℕ → Type 0) {ps : List (ℕ × ℕ)} {s : List (Refined A)} → AreRefined stands answers ps s
      → AllPairs R ps → AllPairs R (pairs_of s)
  all_pairs_refined R none all = all
  all_pairs_refined R (kept {pair} {answer} {pairs} {refined} h k a) all =
      AllPairs-cons R pair (pairs_of refined) (all_refined (R pair) a (all_pairs_head R pair pairs all))
      (all_pairs_refined R a (all_pairs_tail R pair pairs all))
  all_pairs_refined R (left_out {pair} {pairs} {refined} h a) all = all_pairs_refined R a (all_pairs_tail R pair pairs all)

  standing_kept : {ps : List (ℕ × ℕ)} {s : List (Refined A)} (p : ℕ × ℕ) → AreRefined stands answers ps s → Contains ps p → stands p.0 p.1
      → Contains (pairs_of s) p
  standing_kept p none c is = absurd (contains_none p c)
  standing_kept p (kept {pair} {answer} {pairs} {refined} h k a) c is =
      elim (contains_cases pair pairs p c) [
        | inl same ↦ subst (Contains (pair ∷ pairs_of refined)) same (contains_here pair (pairs_of refined))
        | inr later ↦ contains_later pair (pairs_of refined) p (standing_kept p a later is)
      ]
  standing_kept p (left_out {pair} {pairs} {refined} h a) c is =
      elim (contains_cases pair pairs p c) [
        | inl same ↦ absurd (h (subst (λ (q : ℕ × ℕ). stands q.0 q.1) (sym same) is))
        | inr later ↦ standing_kept p a later is
      ]

  kept_stands : {ps : List (ℕ × ℕ)} {s : List (Refined A)} (p : ℕ × ℕ) → AreRefined stands answers ps s → Contains (pairs_of s) p → stands p.0 p.1
  kept_stands p none c = absurd (contains_none p c)
  kept_stands p (kept {pair} {answer} {pairs} {refined} h k a) c =
      elim (contains_cases pair (pairs_of refined) p c) [
        | inl same ↦ subst (λ (q : ℕ × ℕ). stands q.0 q.1) same h
        | inr later ↦ kept_stands p a later
      ]
  kept_stands p (left_out h a) c = kept_stands p a c

  -- each near pair once gives each pair that satisfies the condition once, if all such pairs are
  -- near
  pub each_once : (near : ℕ → ℕ → Type 0) (ps : List (ℕ × ℕ)) (s : List (Refined A)) → ((left right : ℕ) → stands left right → near left right)
      → AreRefined stands answers ps s → HoldsEachOnce near ps → HoldsEachOnce stands (pairs_of s)
  each_once near ps s is_near a all = record {
    exact = λ p. (kept_stands p a, λ is. standing_kept p a ((all.exact p).1 (is_near p.0 p.1 is)) is);
    once = all_pairs_refined (λ p q. p ≢ q) a all.once;
  }
