-- The order of two numbers, by their difference.
use Rattle.std.proofs.Common.{◌≡◌, ◌⊎◌, inl, inr, arith, ap, refl, sym, ◌∙◌}
use Rattle.std.specs.Prelude.{ℤ, pos, ◌*ℤ◌, ◌-ℤ◌, ◌<ℤ◌, ◌≤ℤ◌}
use Rattle.std.specs.Ordering.{int_cmp, ordering_then}
use Rattle.std.specs.declared.cmp.Ordering.{Ordering}
use Rattle.std.specs.declared.cmp.Ordering.TheVariants.{Less, Equal, Greater}
use Rattle.std.proofs.lemmas.Int.{ints, by_lt_z}
use Rattle.plane_core.proofs.Ring.{zero-times}
use Rattle.plane_core.proofs.ScaleLemmas.{less_scaled}

pub cmp_difference : (m n : ℤ) → int_cmp m n ≡ int_cmp (m -ℤ n) (pos 0)
cmp_difference m n = grind (arith, ints)

pub cmp_less : (m n : ℤ) → m <ℤ n → int_cmp m n ≡ Less
cmp_less m n h = grind (arith, ints)

pub cmp_greater : (m n : ℤ) → n <ℤ m → int_cmp m n ≡ Greater
cmp_greater m n h = grind (arith, ints)

pub cmp_equal : (m n : ℤ) → m ≡ n → int_cmp m n ≡ Equal
cmp_equal m n h = grind (arith, ints)

-- each pair of numbers is in one of three orders
pub by_order : {P : Type 0} (m n : ℤ) → (m <ℤ n → P) → (m ≡ n → P) → (n <ℤ m → P) → P
by_order m n less equal greater = by_lt_z m n less (λ h. by_lt_z n m greater (λ g. equal (same m n h g)))
  where
    same : (m n : ℤ) → n ≤ℤ m → m ≤ℤ n → m ≡ n
    same m n h g = omega (arith, ints)

less_by : (x z m n : ℤ) → x -ℤ z ≡ m -ℤ n → m <ℤ n → x <ℤ z
less_by x z m n e h = omega (arith, ints)

same_by : (x z m n : ℤ) → x -ℤ z ≡ m -ℤ n → m ≡ n → x ≡ z
same_by x z m n e h = omega (arith, ints)

greater_by : (x z m n : ℤ) → x -ℤ z ≡ m -ℤ n → n <ℤ m → z <ℤ x
greater_by x z m n e h = omega (arith, ints)

-- numbers that differ by a positive multiple of what two others differ by are in their order
pub cmp_scaled : (x z a b k : ℤ) → pos 0 <ℤ k → x -ℤ z ≡ k *ℤ a -ℤ k *ℤ b → int_cmp x z ≡ int_cmp a b
cmp_scaled x z a b k h e = by_order a b
    (λ g. cmp_less _ _ (less_by x z _ _ e (less_scaled k a b h g)) ∙ sym (cmp_less a b g))
    (λ g. cmp_equal _ _ (same_by x z _ _ e (ap (λ (n : ℤ). k *ℤ n) g)) ∙ sym (cmp_equal a b g))
    (λ g. cmp_greater _ _ (greater_by x z _ _ e (less_scaled k b a h g)) ∙ sym (cmp_greater a b g))

-- the first of two numbers that isn't 0 is positive, and there is one
abbrev pub IsAhead : ℤ → ℤ → Type 0
IsAhead k l = (pos 0 <ℤ k) ⊎ ((k ≡ pos 0) × (pos 0 <ℤ l))

-- the order along x, and then along y, where both differ by multiples
pub then_scaled : (x z u v a b k l : ℤ) → IsAhead k l
    → x -ℤ z ≡ k *ℤ a -ℤ k *ℤ b → u -ℤ v ≡ l *ℤ a -ℤ l *ℤ b
    → ordering_then (int_cmp x z) (int_cmp u v) ≡ int_cmp a b
then_scaled x z u v a b k l h e f = elim h [
  | inl g ↦ ap (λ (o : Ordering). ordering_then o (int_cmp u v)) (cmp_scaled x z a b k g e) ∙ across g
  | inr g ↦ ap (λ (o : Ordering). ordering_then o (int_cmp u v)) (cmp_equal x z (level g.0)) ∙ cmp_scaled u v a b l g.1 f
]
  where
    level : k ≡ pos 0 → x ≡ z
    level g = plain x z (k *ℤ a) (k *ℤ b) e (ap (λ (n : ℤ). n *ℤ a) g ∙ zero-times a) (ap (λ (n : ℤ). n *ℤ b) g ∙ zero-times b)
      where
        plain : (x z m n : ℤ) → x -ℤ z ≡ m -ℤ n → m ≡ pos 0 → n ≡ pos 0 → x ≡ z
        plain x z m n e i j = omega (arith, ints)

    across : pos 0 <ℤ k → ordering_then (int_cmp a b) (int_cmp u v) ≡ int_cmp a b
    across g = by_order a b
        (λ i. rw (cmp_less a b i) refl)
        (λ i. rw (cmp_equal a b i) (cmp_equal u v (same_by u v _ _ f (ap (λ (n : ℤ). l *ℤ n) i))))
        (λ i. rw (cmp_greater a b i) refl)

-- numbers that differ by multiples of 0 are equal
pub then_level : (x z u v a b k l : ℤ) → k ≡ pos 0 → l ≡ pos 0
    → x -ℤ z ≡ k *ℤ a -ℤ k *ℤ b → u -ℤ v ≡ l *ℤ a -ℤ l *ℤ b
    → ordering_then (int_cmp x z) (int_cmp u v) ≡ Equal
then_level x z u v a b k l hk hl e f = rw (cmp_equal x z (level x z a b k hk e)) (cmp_equal u v (level u v a b l hl f))
  where
    level : (x z a b k : ℤ) → k ≡ pos 0 → x -ℤ z ≡ k *ℤ a -ℤ k *ℤ b → x ≡ z
    level x z a b k h e = plain x z (k *ℤ a) (k *ℤ b) e (ap (λ (n : ℤ). n *ℤ a) h ∙ zero-times a) (ap (λ (n : ℤ). n *ℤ b) h ∙ zero-times b)
      where
        plain : (x z m n : ℤ) → x -ℤ z ≡ m -ℤ n → m ≡ pos 0 → n ≡ pos 0 → x ≡ z
        plain x z m n e i j = omega (arith, ints)
