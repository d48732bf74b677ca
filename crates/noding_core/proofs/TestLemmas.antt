-- Tests, and their meaning.
use Rattle.std.proofs.Common.{◌≡◌, ap, ◌∙◌, sym, refl, true, false, arith}
use Rattle.std.specs.Prelude.{ℤ, ◌≤ℤ◌, ◌<ℤ◌, Bool, ◌&&◌, ◌||◌, not, int_lt, int_le}
use Rattle.std.proofs.lemmas.Int.{ints, by_lt_z}

-- by the result of a test
pub by_test : {C : Type 0} (b : Bool) → (b ≡ true → C) → (b ≡ false → C) → C
by_test true f g = f refl
by_test false f g = g refl

pub clash : {C : Type 0} (b : Bool) → b ≡ true → b ≡ false → C
clash b h k = absurd (plain b h k)
  where
    plain : (b : Bool) → b ≡ true → b ≡ false → ⊥
    plain b h k = grind (arith, ints)

-- comparisons of whole numbers
pub le_true : (m n : ℤ) → m ≤ℤ n → int_le m n ≡ true
le_true m n h = grind (arith, ints)

pub le_false : (m n : ℤ) → n <ℤ m → int_le m n ≡ false
le_false m n h = grind (arith, ints)

pub lt_true : (m n : ℤ) → m <ℤ n → int_lt m n ≡ true
lt_true m n h = grind (arith, ints)

pub lt_false : (m n : ℤ) → n ≤ℤ m → int_lt m n ≡ false
lt_false m n h = grind (arith, ints)

pub true_le : (m n : ℤ) → int_le m n ≡ true → m ≤ℤ n
true_le m n h = grind (arith, ints)

pub false_le : (m n : ℤ) → int_le m n ≡ false → n <ℤ m
false_le m n h = grind (arith, ints)

pub lt_not : (m n : ℤ) → int_lt m n ≡ not (int_le n m)
lt_not m n = by_lt_z m n (λ h. lt_true m n h ∙ sym (ap not (le_false n m h))) (λ h. lt_false m n h ∙ sym (ap not (le_true n m h)))

-- conjunctions and disjunctions
pub and_false : (t : Bool) → (t && false) ≡ false
and_false true = refl
and_false false = refl

pub or_false : (t : Bool) → (t || false) ≡ t
or_false true = refl
or_false false = refl

pub guarded : (t u v : Bool) → (t ≡ true → u ≡ v) → (t && u) ≡ (t && v)
guarded true u v h = h refl
guarded false u v h = refl

pub first_holds : (t u : Bool) → (t && u) ≡ true → t ≡ true
first_holds true u h = refl
first_holds false u h = h

pub second_holds : (t u : Bool) → (t && u) ≡ true → u ≡ true
second_holds true u h = h
second_holds false u h = cc

pub not_true : (t : Bool) → not t ≡ true → t ≡ false
not_true true h = sym h
not_true false h = refl
