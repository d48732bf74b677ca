-- How a draw of one holder changes a tally, and the consequences for each holder.
use Rattle.std.proofs.Common.{◌≡◌, ℕ, zero, suc, ◌+◌, ◌<◌, ◌≤◌, min, Bool, true, cond, eqb, List, [], ◌∷◌, ◌++◌, length, get_or, set, sum_by, count_by}
use Rattle.std.proofs.Common.{flat_map, All, Any, refl, sym, ap, ◌∙◌, arith, length-append}
use Rattle.std.proofs.lemmas.Bool.Decides.{nat_tests}
use Rattle.std.proofs.lemmas.List.Sums.{sum_by-cons, sum_by-append, sum_by_push, get_or-le-sum_by}
use mathlib.Core.Option.{some, some-injective, some-ne-none}
use lib.ListN.{get_elem?}
use Rattle.deliver_core.specs.Draws.{times, once_below, Tally}

-- a sum after one holder changed
pub sum_at : {X : Type 0} (f : X → ℕ) (xs : List X) (i : ℕ) (v w : X) → get_elem? xs i ≡ some v → sum_by f (set xs i w) + f v ≡ sum_by f xs + f w
sum_at f [] i v w at = absurd (some-ne-none v (sym at))
sum_at f (x ∷ xs) zero v w at =
    let is : f x ≡ f v = ap f (some-injective x v at) in
    omega (arith, sum_by-cons f w xs, sum_by-cons f x xs)
sum_at f (x ∷ xs) (suc i) v w at =
    let rest = sum_at f xs i v w at in
    omega (arith, sum_by-cons f x (set xs i w), sum_by-cons f x xs)

-- a holder's part of a sum
pub part_le : {X : Type 0} (f : X → ℕ) (xs : List X) (i : ℕ) (v : X) → get_elem? xs i ≡ some v → f v ≤ sum_by f xs
part_le f [] i v at = absurd (some-ne-none v (sym at))
part_le f (x ∷ xs) zero v at =
    let is : f x ≡ f v = ap f (some-injective x v at) in
    omega (arith, sum_by-cons f x xs)
part_le f (x ∷ xs) (suc i) v at =
    let rest = part_le f xs i v at in
    omega (arith, sum_by-cons f x xs)

pub times-append : (x : ℕ) (xs ys : List ℕ) → times x (xs ++ ys) ≡ times x xs + times x ys
times-append x xs ys = sum_by-append (λ y. cond (eqb y x) 1 0) xs ys

pub times_push : (x : ℕ) (xs : List ℕ) (y : ℕ) → times x (xs ++ y ∷ []) ≡ times x xs + cond (eqb y x) 1 0
times_push x xs y = sum_by_push (λ z. cond (eqb z x) 1 0) xs y

-- an item of a list occurs in it at least once
pub times_some : (xs : List ℕ) (k d : ℕ) → k < length xs → 1 ≤ times (get_or xs k d) xs
times_some [] k d h = absurd (omega arith)
times_some (x ∷ xs) zero d h = let s = sum_by-cons (λ y. cond (eqb y x) 1 0) x xs in grind (arith, nat_tests)
times_some (x ∷ xs) (suc k) d h =
    let rest = times_some xs k d (omega arith) in
    omega (arith, sum_by-cons (λ y. cond (eqb y (get_or xs k d)) 1 0) x xs)

pub once_below_more : (n x : ℕ) → once_below (n + 1) x ≡ once_below n x + cond (eqb n x) 1 0
once_below_more n x = grind (arith, nat_tests)

pub below_from_once : (n x : ℕ) → 1 ≤ once_below n x → x < n
below_from_once n x h = grind (arith, nat_tests)

-- the occurrences in several lists together
pub times-flat_map : {X : Type 0} (x : ℕ) (drawn : X → List ℕ) (xs : List X) → times x (flat_map drawn xs) ≡ sum_by (λ h. times x (drawn h)) xs
times-flat_map x drawn [] = refl
times-flat_map x drawn (h ∷ hs) =
    let rest = times-flat_map x drawn hs in
    omega (arith, times-append x (drawn h) (flat_map drawn hs), sum_by-cons (λ g. times x (drawn g)) h hs)

-- if some holder is done, the count of these is greater than 0
pub some_done : {X : Type 0} (done : X → Bool) (xs : List X) → Any (λ h. done h ≡ true) xs → 0 < count_by done xs
some_done done xs (k, x, inside, is, yes_done) =
    let one : cond {A = ℕ} (done (get_or xs k x)) 1 0 ≡ 1 = ap (λ h. cond {A = ℕ} (done h) 1 0) is ∙ ap (λ (b : Bool). cond {A = ℕ} b 1 0) yes_done in
    let le = get_or-le-sum_by (λ h. cond {A = ℕ} (done h) 1 0) xs k x inside in
    omega arith

module _ {X : Type 0} (drawn : X → List ℕ) (over : X → ℕ) (tasks word : ℕ) (xs : List X) (t : Tally drawn over tasks word xs) where
  -- a holder draws the word
  pub tally_draws : (i : ℕ) (v w : X) → get_elem? xs i ≡ some v → word < tasks → drawn w ≡ drawn v ++ word ∷ [] → over w ≡ over v
      → Tally drawn over tasks (word + 1) (set xs i w)
  tally_draws i v w at below more same = record {
    numbers = λ x.
        let s = sum_at (λ h. times x (drawn h)) xs i v w at in
        let now : times x (drawn w) ≡ times x (drawn v) + cond (eqb word x) 1 0 = ap (times x) more ∙ times_push x (drawn v) word in
        let was = t.numbers x in
        let m : min word tasks ≡ word = omega arith in
        let m' : min (word + 1) tasks ≡ word + 1 = omega arith in
        let was' : sum_by (λ h. times x (drawn h)) xs ≡ once_below word x = was ∙ ap (λ n. once_below n x) m in
        let want : once_below (min (word + 1) tasks) x ≡ once_below word x + cond (eqb word x) 1 0 = ap (λ n. once_below n x) m' ∙ once_below_more word x in
        omega arith;
    lengths =
        let s = sum_at (λ h. length (drawn h)) xs i v w at in
        let now : length (drawn w) ≡ length (drawn v) + 1 = ap length more ∙ length-append (drawn v) (word ∷ []) in
        let was = t.lengths in
        omega arith;
    word_is = let s = sum_at over xs i v w at in let was = t.word_is in omega arith;
  }

  -- a holder meets the end of the numbers
  pub tally_ends : (i : ℕ) (v w : X) → get_elem? xs i ≡ some v → tasks ≤ word → drawn w ≡ drawn v → over w ≡ over v + 1
      → Tally drawn over tasks (word + 1) (set xs i w)
  tally_ends i v w at past same more = record {
    numbers = λ x.
        let s = sum_at (λ h. times x (drawn h)) xs i v w at in
        let now : times x (drawn w) ≡ times x (drawn v) = ap (times x) same in
        let m : min word tasks ≡ min (word + 1) tasks = omega arith in
        let was : sum_by (λ h. times x (drawn h)) xs ≡ once_below (min (word + 1) tasks) x = t.numbers x ∙ ap (λ n. once_below n x) m in
        omega arith;
    lengths =
        let s = sum_at (λ h. length (drawn h)) xs i v w at in
        let now : length (drawn w) ≡ length (drawn v) = ap length same in
        let was = t.lengths in
        omega arith;
    word_is = let s = sum_at over xs i v w at in let was = t.word_is in omega arith;
  }

  -- holders who have drawn the same together
  pub tally_same : (ys : List X)
      → ((x : ℕ) → sum_by (λ h. times x (drawn h)) ys ≡ sum_by (λ h. times x (drawn h)) xs)
      → sum_by (λ h. length (drawn h)) ys ≡ sum_by (λ h. length (drawn h)) xs
      → sum_by over ys ≡ sum_by over xs
      → Tally drawn over tasks word ys
  tally_same ys numbers lengths overs = record {
    numbers = λ x. numbers x ∙ t.numbers x;
    lengths = lengths ∙ t.lengths;
    word_is = t.word_is ∙ ap (λ n. min word tasks + n) (sym overs);
  }

  -- the draws of a holder are less than the word
  pub tally_below : (i : ℕ) (v : X) → get_elem? xs i ≡ some v → All (λ k. k < word) (drawn v)
  tally_below i v at k d h =
      let x : ℕ = get_or (drawn v) k d in
      let one : 1 ≤ times x (drawn v) = times_some (drawn v) k d h in
      let part : times x (drawn v) ≤ sum_by (λ h. times x (drawn h)) xs = part_le (λ h. times x (drawn h)) xs i v at in
      let is = t.numbers x in
      let below : x < min word tasks = below_from_once (min word tasks) x (omega arith) in
      omega arith

  pub tally_length : (i : ℕ) (v : X) → get_elem? xs i ≡ some v → length (drawn v) ≤ word
  tally_length i v at =
      let part = part_le (λ h. length (drawn h)) xs i v at in
      let is = t.lengths in
      omega arith
