-- The numbers of a layer's features, in the entries of its tree.
use Rattle.std.proofs.Common.{arith, ◌≡◌, ◌≢◌, ℕ, suc, ◌<◌, ◌≤◌, Bool, true, false, cond, List, [], ◌∷◌, map, All}
use Rattle.std.proofs.Common.{AllPairs, refl, inl, inr}
use Rattle.std.specs.Prelude.{count_by, nat_eq}
use Rattle.std.proofs.lemmas.Bool.{cases_eq}
use Rattle.std.proofs.lemmas.Bool.Decides.{nat_tests}
use Rattle.std.proofs.lemmas.List.Elements.{All-head, All-tail}
use Rattle.std.proofs.lemmas.List.Sums.{sum_by-cons}
use Rattle.geom_core.specs.declared.shape.Shape.{Shape}
use Rattle.rtree_core.specs.Trees.{has_number}
use Rattle.layer_core.specs.Layers.{Feature}
use Rattle.layer_core.specs.LayerTrees.{indexed}

module _ {X : Type 0} (R : X → X → Type 0) (x : X) (xs : List X) (pairs : AllPairs R (x ∷ xs)) where
  pub first_before : All (R x) xs
  first_before = λ k d within. pairs 0 (suc k) d (omega arith) (omega arith)

  pub later_pairs : AllPairs R xs
  later_pairs = λ i j d before within. pairs (suc i) (suc j) d (omega arith) (omega arith)

above_not : (a k : ℕ) → k < a → cond {A = ℕ} (nat_eq a k) 1 0 ≡ 0
above_not a k h = grind (arith, nat_tests)

at_most_one : (b : Bool) → cond {A = ℕ} b 1 0 ≤ 1
at_most_one true = omega arith
at_most_one false = omega arith

module _ {G : Type 0} (box_of : G → Shape) where
  module _ (k : ℕ) where
    none_above : (fs : List (Feature G)) → All (λ f. k < f.number) fs → count_by (has_number k) (map (indexed box_of) fs) ≡ 0
    none_above [] h = refl
    none_above (f ∷ fs) h =
        omega (
          arith,
          above_not f.number k (All-head (λ f. k < f.number) f fs h),
          none_above fs (All-tail (λ f. k < f.number) f fs h),
          sum_by-cons (λ e. cond {A = ℕ} (has_number k e) 1 0) (indexed box_of f) (map (indexed box_of) fs),
        )

    -- rising numbers differ
    pub rising-distinct : (fs : List (Feature G)) → AllPairs (λ f g. f.number < g.number) fs → count_by (has_number k) (map (indexed box_of) fs) ≤ 1
    rising-distinct [] h = omega arith
    rising-distinct (f ∷ fs) h = elim (cases_eq f.number k) [
      | inl same ↦
          let none = none_above fs (rw (← same) (first_before (λ f g. f.number < g.number) f fs h)) in
          omega (
            arith,
            none,
            at_most_one (has_number k (indexed box_of f)),
            sum_by-cons (λ e. cond {A = ℕ} (has_number k e) 1 0) (indexed box_of f) (map (indexed box_of) fs),
          )
      | inr differs ↦ omega (
        arith,
        rising-distinct fs (later_pairs (λ f g. f.number < g.number) f fs h),
        differs_not f.number k differs,
        sum_by-cons (λ e. cond {A = ℕ} (has_number k e) 1 0) (indexed box_of f) (map (indexed box_of) fs),
      )
    ]
      where
        differs_not : (a k : ℕ) → a ≢ k → cond {A = ℕ} (nat_eq a k) 1 0 ≡ 0
        differs_not a k h = grind (arith, nat_tests, h)
