-- Counts of the items of a list that pass a test, and which items a list holds.
use Rattle.std.proofs.Common.{◌≡◌, ℕ, ◌+◌, ◌<◌, ◌≤◌, Bool, true, false, cond, List, [], ◌∷◌, All, Contains, map, length, take, get_or, refl, sym, subst, arith}
use Rattle.std.specs.Prelude.{count_by, sum_by}
use Rattle.std.specs.List.{flat_map}
use Rattle.std.proofs.lemmas.Grind.{common_steps}
use Rattle.std.proofs.lemmas.List.{take-take}
use Rattle.std.proofs.lemmas.List.Elements.{All-head, All-tail, Contains-append_right}
use Rattle.std.proofs.lemmas.List.Sums.{sum_by-cons, sum_by-append, sum_by_more, sum_by_more_le, sum_by-take-le, get_or-le-sum_by}

pub contains_here : {X : Type 0} (x : X) (xs : List X) → Contains (x ∷ xs) x
contains_here x xs = (0, grind (arith, common_steps), refl)

pub contains_later : {X : Type 0} (x : X) (xs : List X) (y : X) → Contains xs y → Contains (x ∷ xs) y
contains_later x xs y h = Contains-append_right (x ∷ []) xs y h

-- no item passes
pub count_none : {X : Type 0} (p : X → Bool) (xs : List X) → All (λ x. p x ≡ false) xs → count_by p xs ≡ 0
count_none p [] h = refl
count_none p (x ∷ xs) h =
    let no : cond {A = ℕ} (p x) 1 0 ≡ 0 = rw (All-head (λ y. p y ≡ false) x xs h) refl in
    omega (arith, no, sum_by-cons (λ y. cond {A = ℕ} (p y) 1 0) x xs, count_none p xs (All-tail (λ y. p y ≡ false) x xs h))

-- each item passes
pub count_every : {X : Type 0} (p : X → Bool) (xs : List X) → All (λ x. p x ≡ true) xs → count_by p xs ≡ length xs
count_every p [] h = refl
count_every p (x ∷ xs) h =
    let yes : cond {A = ℕ} (p x) 1 0 ≡ 1 = rw (All-head (λ y. p y ≡ true) x xs h) refl in
    omega (arith, yes, sum_by-cons (λ y. cond {A = ℕ} (p y) 1 0) x xs, count_every p xs (All-tail (λ y. p y ≡ true) x xs h))

-- an item passes
pub count_some : {X : Type 0} (p : X → Bool) (xs : List X) (x : X) → Contains xs x → p x ≡ true → 0 < count_by p xs
count_some p xs x c e =
    let yes : cond {A = ℕ} (p (get_or xs c.0 x)) 1 0 ≡ 1 = rw (c.2, e) refl in
    omega (arith, yes, get_or-le-sum_by (λ y. cond {A = ℕ} (p y) 1 0) xs c.0 x c.1)

-- only this item passes, and one does
pub contains_counted : {X : Type 0} (p : X → Bool) (x : X) → ((y : X) → p y ≡ true → x ≡ y) → (xs : List X) → 0 < count_by p xs
    → Contains xs x
contains_counted p x only [] h = absurd (omega arith)
contains_counted {X} p x only (y ∷ ys) h = by (p y) refl (λ some. contains_counted p x only ys some)
  where
    by : (t : Bool) → p y ≡ t → (0 < count_by p ys → Contains ys x) → Contains (y ∷ ys) x
    by true t later = subst (λ (z : X). Contains (y ∷ ys) z) (sym (only y t)) (contains_here y ys)
    by false t later =
        let no : cond {A = ℕ} (p y) 1 0 ≡ 0 = rw t refl in
        contains_later y ys x (later (omega (arith, h, no, sum_by-cons (λ z. cond {A = ℕ} (p z) 1 0) y ys)))

-- two items pass
pub count_two : {X : Type 0} (p : X → Bool) (xs : List X) (i j : ℕ) (d : X) → i < j → j < length xs
    → p (get_or xs i d) ≡ true → p (get_or xs j d) ≡ true → 2 ≤ count_by p xs
count_two {X} p xs i j d less within first second =
    let f : X → ℕ = λ y. cond {A = ℕ} (p y) 1 0 in
    let one : f (get_or xs i d) ≡ 1 = rw first refl in
    let other : f (get_or xs j d) ≡ 1 = rw second refl in
    let front : sum_by f (take (i + 1) xs) ≤ sum_by f (take j xs) =
    subst (λ (ys : List X). sum_by f ys ≤ sum_by f (take j xs)) (take-take (i + 1) j xs (omega (arith, less))) (sum_by-take-le f (take j xs) (i + 1)) in
    omega (arith, one, other, front, sum_by_more f xs i d (omega (arith, less, within)), sum_by_more_le f xs j d within)

-- the count of concatenated lists
pub count_flat : {X Y : Type 0} (p : Y → Bool) (f : X → List Y) (xs : List X) → count_by p (flat_map f xs) ≡ sum_by (λ x. count_by p (f x)) xs
count_flat p f [] = refl
count_flat p f (x ∷ xs) =
    omega (arith, sum_by-append (λ y. cond {A = ℕ} (p y) 1 0) (f x) (flat_map f xs), count_flat p f xs, sum_by-cons (λ y. count_by p (f y)) x xs)

pub count_map : {X Y : Type 0} (p : Y → Bool) (f : X → Y) (xs : List X) → count_by p (map f xs) ≡ count_by (λ x. p (f x)) xs
count_map p f [] = refl
count_map p f (x ∷ xs) =
    omega (arith, sum_by-cons (λ y. cond {A = ℕ} (p y) 1 0) (f x) (map f xs), count_map p f xs, sum_by-cons (λ y. cond {A = ℕ} (p (f y)) 1 0) x xs)

-- a sum of terms that are all zero
pub sum_none : {X : Type 0} (f : X → ℕ) (xs : List X) → All (λ x. f x ≡ 0) xs → sum_by f xs ≡ 0
sum_none f [] h = refl
sum_none f (x ∷ xs) h =
    omega (arith, sum_by-cons f x xs, All-head (λ y. f y ≡ 0) x xs h, sum_none f xs (All-tail (λ y. f y ≡ 0) x xs h))
