-- The greater of two numbers is at least the lesser of two others.
use Rattle.std.proofs.Common.{◌≡◌, true, false, arith}
use Rattle.std.specs.Prelude.{ℤ, ◌≤ℤ◌, ◌<ℤ◌, Bool, int_le}
use Rattle.std.specs.Int.{int_min, int_max}
use Rattle.std.proofs.lemmas.Int.{ints, clamps, by_lt_z}
use Rattle.plane_core.specs.Boxes.{does_reach}

pub reach_true : (a b c d : ℤ) → int_min c d ≤ℤ int_max a b → does_reach a b c d ≡ true
reach_true a b c d h = by_lt_z b a
    (λ ba. by_lt_z d c (λ dc. last_first a b c d (omega (arith, ints, clamps))) (λ cd. first_first a b c d (omega (arith, ints, clamps))))
    (λ ab. by_lt_z d c (λ dc. last_last a b c d (omega (arith, ints, clamps))) (λ cd. first_last a b c d (omega (arith, ints, clamps))))
  where
    first_first : (a b c d : ℤ) → c ≤ℤ a → does_reach a b c d ≡ true
    first_first a b c d h = grind (arith, ints)

    first_last : (a b c d : ℤ) → c ≤ℤ b → does_reach a b c d ≡ true
    first_last a b c d h = grind (arith, ints)

    last_first : (a b c d : ℤ) → d ≤ℤ a → does_reach a b c d ≡ true
    last_first a b c d h = grind (arith, ints)

    last_last : (a b c d : ℤ) → d ≤ℤ b → does_reach a b c d ≡ true
    last_last a b c d h = grind (arith, ints)

pub reach_false : (a b c d : ℤ) → int_max a b <ℤ int_min c d → does_reach a b c d ≡ false
reach_false a b c d h =
    plain a b c d (omega (arith, ints, clamps)) (omega (arith, ints, clamps)) (omega (arith, ints, clamps)) (omega (arith, ints, clamps))
  where
    plain : (a b c d : ℤ) → a <ℤ c → b <ℤ c → a <ℤ d → b <ℤ d → does_reach a b c d ≡ false
    plain a b c d ac bc ad bd = grind (arith, ints)

pub reach : (a b c d : ℤ) → int_le (int_min c d) (int_max a b) ≡ does_reach a b c d
reach a b c d = by_lt_z (int_max a b) (int_min c d)
    (λ off. agree _ _ false (not_le _ _ off) (reach_false a b c d off))
    (λ on. agree _ _ true (is_le _ _ on) (reach_true a b c d on))
  where
    is_le : (m n : ℤ) → m ≤ℤ n → int_le m n ≡ true
    is_le m n h = grind (arith, ints)

    not_le : (m n : ℤ) → n <ℤ m → int_le m n ≡ false
    not_le m n h = grind (arith, ints)

    agree : (s t u : Bool) → s ≡ u → t ≡ u → s ≡ t
    agree s t u h k = cc
