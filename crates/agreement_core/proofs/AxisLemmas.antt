-- A point lies to the ends of an interval as its cell lies to their grid lines.
use Rattle.std.proofs.Common.{◌≡◌, ◌<◌, arith, ap, ◌∙◌, inl, inr}
use Rattle.std.specs.Prelude.{ℤ, ℕ, pos, ◌*ℤ◌, ◌+ℤ◌, ◌-ℤ◌, ◌≤ℤ◌, ◌<ℤ◌, ◌⊎◌, int_lt, int_le}
use Rattle.std.specs.Ordering.{int_eq}
use Rattle.std.proofs.lemmas.Int.{ints, by_lt_z}
use Rattle.geom_core.specs.Cells.{line}
use Rattle.plane_core.proofs.Ring.{monomials}
use Rattle.plane_core.proofs.ScaleLemmas.{less_scaled, no_less_scaled}
use Rattle.agreement_core.specs.Agreement.{LiesAt, OnLine, InGap}

-- before an integer, at it, or after it: the number z / w, and its cell u
pub data Lies (z : ℤ) (w : ℕ) (u c : ℤ) : Type 0 where
  Before : z <ℤ (pos w *ℤ c) → u <ℤ line c → Lies z w u c
  At : z ≡ pos w *ℤ c → u ≡ line c → Lies z w u c
  Behind : (pos w *ℤ c) <ℤ z → line c <ℤ u → Lies z w u c

wide : (w : ℕ) → 0 < w → pos 0 <ℤ pos w
wide w h = omega (arith, ints, h)

three_ways : (a b : ℤ) → (a <ℤ b) ⊎ ((a ≡ b) ⊎ (b <ℤ a))
three_ways a b = grind (arith, ints)

line_less : (k c : ℤ) → k <ℤ c → line k <ℤ line c
line_less k c h = omega (arith, ints, h)

gap_less : (k c : ℤ) → k <ℤ c → (line k +ℤ pos 1) <ℤ line c
gap_less k c h = omega (arith, ints, h)

gap_more : (k c : ℤ) → c ≤ℤ k → line c <ℤ (line k +ℤ pos 1)
gap_more k c h = omega (arith, ints, h)

pub lies : (z : ℤ) (w : ℕ) (u c : ℤ) → 0 < w → LiesAt z w u → Lies z w u c
lies z w u c h (OnLine k e f) =
    elim (three_ways k c) as (λ _. Lies z w u c) [
      | inl less ↦ Before (rw f (less_scaled (pos w) k c (wide w h) less)) (rw e (line_less k c less))
      | inr (inl same) ↦ At (f ∙ ap (λ (n : ℤ). pos w *ℤ n) same) (e ∙ ap line same)
      | inr (inr more) ↦ Behind (rw f (less_scaled (pos w) c k (wide w h) more)) (rw e (line_less c k more))
    ]
lies z w u c h (InGap k e f g) =
    by_lt_z k c
    (λ less. Before (short (no_less_scaled (pos w) (k +ℤ pos 1) c (wide w h) (omega (arith, ints, less)))) (rw e (gap_less k c less)))
    (λ no. Behind (past (no_less_scaled (pos w) c k (wide w h) no)) (rw e (gap_more k c no)))
  where
    short : (pos w *ℤ (k +ℤ pos 1)) ≤ℤ (pos w *ℤ c) → z <ℤ (pos w *ℤ c)
    short l =
        let n : pos w *ℤ (k +ℤ pos 1) ≡ pos w *ℤ k +ℤ pos w = simp monomials (omega (arith, ints)) in
        omega (arith, ints, n, l, g)

    past : (pos w *ℤ c) ≤ℤ (pos w *ℤ k) → (pos w *ℤ c) <ℤ z
    past l = omega (arith, ints, l, f)

-- so each comparison has the same result for both
pub le_before : (z : ℤ) (w : ℕ) (u c : ℤ) → Lies z w u c → int_le z (pos w *ℤ c) ≡ int_le u (line c)
le_before z w u c (Before h k) = grind (arith, ints)
le_before z w u c (At h k) = grind (arith, ints)
le_before z w u c (Behind h k) = grind (arith, ints)

pub le_behind : (z : ℤ) (w : ℕ) (u c : ℤ) → Lies z w u c → int_le (pos w *ℤ c) z ≡ int_le (line c) u
le_behind z w u c (Before h k) = grind (arith, ints)
le_behind z w u c (At h k) = grind (arith, ints)
le_behind z w u c (Behind h k) = grind (arith, ints)

pub lt_before : (z : ℤ) (w : ℕ) (u c : ℤ) → Lies z w u c → int_lt z (pos w *ℤ c) ≡ int_lt u (line c)
lt_before z w u c (Before h k) = grind (arith, ints)
lt_before z w u c (At h k) = grind (arith, ints)
lt_before z w u c (Behind h k) = grind (arith, ints)

pub same_at : (z : ℤ) (w : ℕ) (u c : ℤ) → Lies z w u c → int_eq z (pos w *ℤ c) ≡ int_eq u (line c)
same_at z w u c (Before h k) = grind (arith, ints)
same_at z w u c (At h k) = grind (arith, ints)
same_at z w u c (Behind h k) = grind (arith, ints)

-- a positive or negative multiple of the way to the line
pub lt_times : (z : ℤ) (w : ℕ) (u c r : ℤ) → pos 0 <ℤ r → Lies z w u c → int_lt (pos 0) (r *ℤ (z -ℤ pos w *ℤ c)) ≡ int_lt (line c) u
lt_times z w u c r h (Before a b) = let l : (r *ℤ (z -ℤ pos w *ℤ c)) <ℤ (r *ℤ pos 0) = less_scaled r (z -ℤ pos w *ℤ c) (pos 0) h (omega (arith, ints, a)) in grind (arith, ints, l)
lt_times z w u c r h (At a b) = let l : r *ℤ (z -ℤ pos w *ℤ c) ≡ pos 0 = rw a (simp monomials (omega (arith, ints))) in grind (arith, ints, l)
lt_times z w u c r h (Behind a b) = let l : (r *ℤ pos 0) <ℤ (r *ℤ (z -ℤ pos w *ℤ c)) = less_scaled r (pos 0) (z -ℤ pos w *ℤ c) h (omega (arith, ints, a)) in grind (arith, ints, l)

pub same_times : (z : ℤ) (w : ℕ) (u c r : ℤ) → pos 0 <ℤ r → Lies z w u c → int_eq (r *ℤ (z -ℤ pos w *ℤ c)) (pos 0) ≡ int_eq u (line c)
same_times z w u c r h (Before a b) = let l : (r *ℤ (z -ℤ pos w *ℤ c)) <ℤ (r *ℤ pos 0) = less_scaled r (z -ℤ pos w *ℤ c) (pos 0) h (omega (arith, ints, a)) in grind (arith, ints, l)
same_times z w u c r h (At a b) = let l : r *ℤ (z -ℤ pos w *ℤ c) ≡ pos 0 = rw a (simp monomials (omega (arith, ints))) in grind (arith, ints, l)
same_times z w u c r h (Behind a b) = let l : (r *ℤ pos 0) <ℤ (r *ℤ (z -ℤ pos w *ℤ c)) = less_scaled r (pos 0) (z -ℤ pos w *ℤ c) h (omega (arith, ints, a)) in grind (arith, ints, l)
