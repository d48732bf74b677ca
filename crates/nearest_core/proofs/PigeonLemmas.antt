-- Lists of numbers, no two of which are equal.
use Rattle.std.proofs.Common.{◌≡◌, ℕ, ◌+◌, ◌<◌, ◌≤◌, Bool, cond, nat_eq, List, [], ◌∷◌, All, Contains, length, refl, arith, eq-eqb}
use Rattle.std.specs.Prelude.{count_by, sum_by}
use Rattle.std.proofs.lemmas.List.Elements.{All-head, All-tail}
use Rattle.std.proofs.lemmas.List.Sums.{sum_by-cons}
use Rattle.nearest_core.proofs.CountLemmas.{count_some}
use Rattle.nearest_core.specs.Nearest.{AreDistinct}

sum_both : {X : Type 0} (f g : X → ℕ) (xs : List X) → sum_by (λ x. f x + g x) xs ≡ sum_by f xs + sum_by g xs
sum_both f g [] = refl
sum_both f g (x ∷ xs) =
    omega (arith, sum_by-cons (λ y. f y + g y) x xs, sum_by-cons f x xs, sum_by-cons g x xs, sum_both f g xs)

pub sum_same : {X : Type 0} (f g : X → ℕ) → ((x : X) → f x ≡ g x) → (xs : List X) → sum_by f xs ≡ sum_by g xs
sum_same f g same [] = refl
sum_same f g same (x ∷ xs) = omega (arith, sum_by-cons f x xs, sum_by-cons g x xs, same x, sum_same f g same xs)

sum_few : {X : Type 0} (f : X → ℕ) → ((x : X) → f x ≤ 1) → (xs : List X) → sum_by f xs ≤ length xs
sum_few f few [] = omega arith
sum_few f few (x ∷ xs) = omega (arith, sum_by-cons f x xs, few x, sum_few f few xs)

count_cons : {X : Type 0} (p : X → Bool) (x : X) (xs : List X) → count_by p (x ∷ xs) ≡ cond {A = ℕ} (p x) 1 0 + count_by p xs
count_cons p x xs = sum_by-cons (λ y. cond {A = ℕ} (p y) 1 0) x xs

-- each number of the one list is counted in the other
counted_once : (xs ys : List ℕ) → All (Contains ys) xs → length xs ≤ sum_by (λ y. count_by (nat_eq y) xs) ys
counted_once [] ys held = omega arith
counted_once (x ∷ xs) ys held =
    let here : 0 < sum_by (λ y. cond {A = ℕ} (nat_eq y x) 1 0) ys = count_some (λ y. nat_eq y x) ys x (All-head (Contains ys) x xs held) (eq-eqb x x refl) in
    omega (
      arith,
      here,
      counted_once xs ys (All-tail (Contains ys) x xs held),
      sum_same (λ y. count_by (nat_eq y) (x ∷ xs)) (λ y. cond {A = ℕ} (nat_eq y x) 1 0 + count_by (nat_eq y) xs) (λ y. count_cons (nat_eq y) x xs) ys,
      sum_both (λ y. cond {A = ℕ} (nat_eq y x) 1 0) (λ y. count_by (nat_eq y) xs) ys,
    )

-- distinct numbers that are among others are at most as many
pub no_more : (xs ys : List ℕ) → AreDistinct xs → All (Contains ys) xs → length xs ≤ length ys
no_more xs ys distinct held =
    let once = counted_once xs ys held in
    let few = sum_few (λ y. count_by (nat_eq y) xs) distinct ys in
    omega (arith, once, few)
