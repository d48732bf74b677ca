-- Near a point, towards another that differs along an axis, all points are in gaps of that axis.
use Rattle.std.proofs.Common.{◌≡◌, ◌<◌, ◌≤◌, ◌*◌, ◌+◌, arith, refl, ap, ◌∙◌, sym, inl, inr, zero, suc, subst}
use Rattle.std.specs.Prelude.{ℤ, ℕ, pos, negsuc, ◌*ℤ◌, ◌+ℤ◌, ◌-ℤ◌, ◌<ℤ◌, ◌⊎◌, nat_abs}
use Rattle.std.proofs.lemmas.Int.{ints}
use Rattle.std.proofs.Math.Nat.{le-mul_of_pos_right}
use Rattle.geom_core.specs.Cells.{line}
use Rattle.plane_core.proofs.Ring.{monomials}
use Rattle.agreement_core.specs.Agreement.{LiesAt, OnLine, InGap}

-- the number lies in some gap
pub record HasGap (z : ℤ) (w : ℕ) : Type 0 where
  pub gap : ℤ
  pub lies : LiesAt z w (line gap +ℤ pos 1)

-- so do n parts of one number and one of another, for all large n
pub record NearGap (a : ℤ) (w : ℕ) (b : ℤ) (v : ℕ) : Type 0 where
  pub enough : ℕ
  pub near : (n : ℕ) → enough ≤ n → HasGap (pos n *ℤ a +ℤ b) (n * w + v)

-- how far b / v is beyond k
abbrev over : ℤ → ℕ → ℤ → ℤ
over b v k = b -ℤ pos v *ℤ k

right_after : (b k : ℤ) (w v n : ℕ) → pos 0 <ℤ over b v k
    → (pos (n * w + v) *ℤ k) <ℤ (pos n *ℤ (pos w *ℤ k) +ℤ b)
right_after b k w v n h = simp monomials (omega (arith, ints, h))

right_before : (b k : ℤ) (w v n : ℕ) → 0 < w → nat_abs (over b v k) ≤ n → 0 < v
    → (pos n *ℤ (pos w *ℤ k) +ℤ b) <ℤ (pos (n * w + v) *ℤ k +ℤ pos (n * w + v))
right_before b k w v n h l m =
    let e : (pos n *ℤ (pos w *ℤ k) +ℤ b) ≡ (pos (n * w + v) *ℤ k +ℤ over b v k) = simp monomials (omega (arith, ints)) in
    let g : n ≤ n * w = le-mul_of_pos_right n h in
    rw e (omega (arith, ints, l, g, m))

left_after : (b k : ℤ) (w v n : ℕ) → 0 < w → nat_abs (over b v k) ≤ n → 0 < v
    → (pos (n * w + v) *ℤ (k -ℤ pos 1)) <ℤ (pos n *ℤ (pos w *ℤ k) +ℤ b)
left_after b k w v n h l m =
    let e : (pos n *ℤ (pos w *ℤ k) +ℤ b) ≡ (pos (n * w + v) *ℤ (k -ℤ pos 1) +ℤ (over b v k +ℤ pos (n * w + v))) = simp monomials (omega (arith, ints)) in
    let g : n ≤ n * w = le-mul_of_pos_right n h in
    rw e (omega (arith, ints, l, g, m))

left_before : (b k : ℤ) (w v n : ℕ) → over b v k <ℤ pos 0
    → (pos n *ℤ (pos w *ℤ k) +ℤ b) <ℤ (pos (n * w + v) *ℤ (k -ℤ pos 1) +ℤ pos (n * w + v))
left_before b k w v n h =
    let e : (pos n *ℤ (pos w *ℤ k) +ℤ b) ≡ (pos (n * w + v) *ℤ (k -ℤ pos 1) +ℤ (over b v k +ℤ pos (n * w + v))) = simp monomials (omega (arith, ints)) in
    rw e (omega (arith, ints, h))

-- from a line, on the side of the other number
from_line : (b k : ℤ) (w v : ℕ) → 0 < w → 0 < v → ¬ (pos w *ℤ k *ℤ pos v ≡ b *ℤ pos w) → NearGap (pos w *ℤ k) w b v
from_line b k w v h m apart =
    elim (sides (over b v k)) as (λ _. NearGap (pos w *ℤ k) w b v) [
      | inl same ↦ absurd (apart (level same))
      | inr (inl after) ↦ record {
        enough = nat_abs (over b v k);
        near = λ n l. record { gap = k; lies = InGap k refl (right_after b k w v n after) (right_before b k w v n h l m) };
      }
      | inr (inr before) ↦ record {
        enough = nat_abs (over b v k);
        near = λ n l. record {
          gap = k -ℤ pos 1;
          lies = InGap (k -ℤ pos 1) refl (left_after b k w v n h l m) (left_before b k w v n before);
        };
      }
    ]
  where
    sides : (z : ℤ) → (z ≡ pos 0) ⊎ ((pos 0 <ℤ z) ⊎ (z <ℤ pos 0))
    sides z = grind (arith, ints)

    level : over b v k ≡ pos 0 → pos w *ℤ k *ℤ pos v ≡ b *ℤ pos w
    level e = let f : b ≡ pos v *ℤ k = omega (arith, ints, e) in rw f (simp monomials (omega (arith, ints)))

gap_after : (a b k : ℤ) (w v n : ℕ) → (pos w *ℤ k) <ℤ a → nat_abs (over b v k) < n
    → (pos (n * w + v) *ℤ k) <ℤ (pos n *ℤ a +ℤ b)
gap_after a b k w v n h l =
    let more : ℤ = a -ℤ pos w *ℤ k in
    let e : (pos n *ℤ a +ℤ b) ≡ (pos (n * w + v) *ℤ k +ℤ (pos n *ℤ (a -ℤ pos w *ℤ k) +ℤ over b v k)) = simp monomials (omega (arith, ints)) in
    rw e (past n (a -ℤ pos w *ℤ k) (over b v k) (pos (n * w + v) *ℤ k) (omega (arith, ints, h)) l)
  where
    past : (n : ℕ) (d c z : ℤ) → pos 0 <ℤ d → nat_abs c < n → z <ℤ (z +ℤ (pos n *ℤ d +ℤ c))
    past n (pos (suc d)) c z h l = omega (arith, ints, l)
    past n (pos zero) c z h l = omega (arith, ints, h)
    past n (negsuc d) c z h l = omega (arith, ints, h)

gap_before : (a b k : ℤ) (w v n : ℕ) → a <ℤ (pos w *ℤ k +ℤ pos w) → nat_abs (over b v k -ℤ pos v) < n
    → (pos n *ℤ a +ℤ b) <ℤ (pos (n * w + v) *ℤ k +ℤ pos (n * w + v))
gap_before a b k w v n h l =
    let e : (pos n *ℤ a +ℤ b) ≡ ((pos (n * w + v) *ℤ k +ℤ pos (n * w + v)) -ℤ (pos n *ℤ (pos w *ℤ k +ℤ pos w -ℤ a) -ℤ (over b v k -ℤ pos v)))
    = simp monomials (omega (arith, ints)) in
    rw e (short n (pos w *ℤ k +ℤ pos w -ℤ a) (over b v k -ℤ pos v) (pos (n * w + v) *ℤ k +ℤ pos (n * w + v)) (omega (arith, ints, h)) l)
  where
    short : (n : ℕ) (d c z : ℤ) → pos 0 <ℤ d → nat_abs c < n → (z -ℤ (pos n *ℤ d -ℤ c)) <ℤ z
    short n (pos (suc d)) c z h l = omega (arith, ints, l)
    short n (pos zero) c z h l = omega (arith, ints, h)
    short n (negsuc d) c z h l = omega (arith, ints, h)

from_gap : (a b k : ℤ) (w v : ℕ) → (pos w *ℤ k) <ℤ a → a <ℤ (pos w *ℤ k +ℤ pos w) → NearGap a w b v
from_gap a b k w v h l = record {
  enough = nat_abs (over b v k) + nat_abs (over b v k -ℤ pos v) + 1;
  near = λ n m. record {
    gap = k;
    lies = InGap k refl (gap_after a b k w v n h (omega (arith, m))) (gap_before a b k w v n l (omega (arith, m)));
  };
}

-- two numbers that differ: a / w is the first
pub near_gap : (a b u : ℤ) (w v : ℕ) → 0 < w → 0 < v → ¬ (a *ℤ pos v ≡ b *ℤ pos w) → LiesAt a w u → NearGap a w b v
near_gap a b u w v h m apart (OnLine k e f) =
    subst (λ z. NearGap z w b v) (sym f) (from_line b k w v h m (λ g. apart (ap (λ (z : ℤ). z *ℤ pos v) f ∙ g)))
near_gap a b u w v h m apart (InGap k e f g) = from_gap a b k w v f g
