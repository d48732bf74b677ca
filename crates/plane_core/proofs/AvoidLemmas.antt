-- A segment has a point that is none of given places, and a triangle that isn't flat one that is on
-- none of given lines.
use Rattle.std.proofs.Common.{◌≡◌, ◌<◌, ◌*◌, ◌+◌, arith, ap, ◌∙◌, sym}
use Rattle.std.specs.Prelude.{ℤ, ℕ, pos, ◌*ℤ◌, ◌-ℤ◌, ◌+ℤ◌}
use Rattle.std.proofs.lemmas.Int.{ints}
use Rattle.plane_core.specs.Points.{Point, mix, turn, IsSamePlace}
use Rattle.plane_core.proofs.Ring.{monomials}
use Rattle.plane_core.proofs.FormLemmas.{Form, value, value-mix_3, IsLine, line_not_zero, by_zero, no_zero_divisor}
use Rattle.plane_core.proofs.LargeLemmas.{Large, large_weaker, line_large, curve_large}

-- a point within a triangle, and off each line for large n
abbrev pub inner : Point → Point → Point → ℕ → Point
inner p q r n = mix 1 (mix 1 p n q) (n * n) r

pub value-inner : (l : Form) (p q r : Point) (n : ℕ) → value l (inner p q r n) ≡ value l p +ℤ pos n *ℤ (value l q +ℤ pos n *ℤ value l r)
value-inner l p q r n = value-mix_3 l p q r 1 n (n * n) ∙ plain (value l p) (value l q) (value l r) (pos n) (pos (n * n)) (omega (arith, ints))
  where
    plain : (a b c n m : ℤ) → m ≡ n *ℤ n → pos 1 *ℤ (pos 1 *ℤ a +ℤ n *ℤ b) +ℤ m *ℤ c ≡ a +ℤ n *ℤ (b +ℤ n *ℤ c)
    plain a b c n m h = rw h (simp monomials (omega (arith, ints)))

pub triangle_off : (l : Form) (p q r : Point) → IsLine l → ¬ (turn p q r ≡ pos 0) → Large (λ n. ¬ (value l (inner p q r n) ≡ pos 0))
triangle_off l p q r line apart =
    large_weaker (λ n. ¬ (value l p +ℤ pos n *ℤ (value l q +ℤ pos n *ℤ value l r) ≡ pos 0)) (λ n. ¬ (value l (inner p q r n) ≡ pos 0))
    (λ n h e. h (sym (value-inner l p q r n) ∙ e))
    (curve_large (value l p) (value l q) (value l r) (line_not_zero l p q r line apart))

-- a point of a segment, and none of given places for large n
abbrev pub between : Point → Point → ℕ → Point
between p q n = mix 1 p n q

-- how two points differ in x, and in y
abbrev apart_x : Point → Point → ℤ
apart_x p r = p.x *ℤ pos r.w -ℤ r.x *ℤ pos p.w

abbrev apart_y : Point → Point → ℤ
apart_y p r = p.y *ℤ pos r.w -ℤ r.y *ℤ pos p.w

no_difference : (m n : ℤ) → m ≡ n → m -ℤ n ≡ pos 0
no_difference m n h = omega (arith, ints)

difference_none : (m n : ℤ) → m -ℤ n ≡ pos 0 → m ≡ n
difference_none m n h = omega (arith, ints)

mixed : (x y z w u v n m : ℤ) → m ≡ w +ℤ n *ℤ u → (pos 1 *ℤ x +ℤ n *ℤ y) *ℤ v -ℤ z *ℤ m ≡ (x *ℤ v -ℤ z *ℤ w) +ℤ n *ℤ (y *ℤ v -ℤ z *ℤ u)
mixed x y z w u v n m h = rw h (simp monomials (omega (arith, ints)))

weight : (n w u : ℕ) → pos (1 * w + n * u) ≡ pos w +ℤ pos n *ℤ pos u
weight n w u = omega (arith, ints)

-- over plain numbers: two points that are one place with a third are one place
pub across : (x y z w u v : ℤ) → ¬ (v ≡ pos 0) → x *ℤ v ≡ z *ℤ w → y *ℤ v ≡ z *ℤ u → x *ℤ u ≡ y *ℤ w
across x y z w u v wide e f = by_zero (x *ℤ u -ℤ y *ℤ w) (λ off. absurd (no_zero_divisor v (x *ℤ u -ℤ y *ℤ w) wide off product)) (difference_none (x *ℤ u) (y *ℤ w))
  where
    first : v *ℤ (x *ℤ u -ℤ y *ℤ w) ≡ (x *ℤ v) *ℤ u -ℤ (y *ℤ v) *ℤ w
    first = simp monomials (omega (arith, ints))

    second : (z *ℤ w) *ℤ u -ℤ (z *ℤ u) *ℤ w ≡ pos 0
    second = simp monomials (omega (arith, ints))

    product : v *ℤ (x *ℤ u -ℤ y *ℤ w) ≡ pos 0
    product = first ∙ ap (λ (k : ℤ). k *ℤ u -ℤ (y *ℤ v) *ℤ w) e ∙ ap (λ (k : ℤ). (z *ℤ w) *ℤ u -ℤ k *ℤ w) f ∙ second

pub same_place_trans : (p q r : Point) → 0 < r.w → IsSamePlace p r → IsSamePlace q r → IsSamePlace p q
same_place_trans p q r wide h k = (across p.x q.x r.x (pos p.w) (pos q.w) (pos r.w) (off r.w wide) h.0 k.0, across p.y q.y r.y (pos p.w) (pos q.w) (pos r.w) (off r.w wide) h.1 k.1)
  where
    off : (n : ℕ) → 0 < n → ¬ (pos n ≡ pos 0)
    off n h e = omega (arith, ints)

pub segment_avoids : (p q r : Point) → 0 < r.w → ¬ (IsSamePlace p q) → Large (λ n. ¬ (IsSamePlace (between p q n) r))
segment_avoids p q r wide apart =
    by_zero (apart_x q r) (λ off. across_x (λ e f. off e))
    (λ level_q. by_zero (apart_x p r) (λ off. across_x (λ e f. off f))
    (λ level_p. by_zero (apart_y q r) (λ off. across_y (λ e f. off e))
    (λ low_q. by_zero (apart_y p r) (λ off. across_y (λ e f. off f))
    (λ low_p. absurd (apart (same_place_trans p q r wide (difference_none _ _ level_p, difference_none _ _ low_p) (difference_none _ _ level_q, difference_none _ _ low_q)))))))
  where
    across_x : (apart_x q r ≡ pos 0 → apart_x p r ≡ pos 0 → ⊥) → Large (λ n. ¬ (IsSamePlace (between p q n) r))
    across_x h = large_weaker (λ n. ¬ (apart_x p r +ℤ pos n *ℤ apart_x q r ≡ pos 0)) (λ n. ¬ (IsSamePlace (between p q n) r))
        (λ n off same. off (sym (mixed p.x q.x r.x (pos p.w) (pos q.w) (pos r.w) (pos n) _ (weight n p.w q.w)) ∙ no_difference _ _ same.0))
        (line_large (apart_x p r) (apart_x q r) h)

    across_y : (apart_y q r ≡ pos 0 → apart_y p r ≡ pos 0 → ⊥) → Large (λ n. ¬ (IsSamePlace (between p q n) r))
    across_y h = large_weaker (λ n. ¬ (apart_y p r +ℤ pos n *ℤ apart_y q r ≡ pos 0)) (λ n. ¬ (IsSamePlace (between p q n) r))
        (λ n off same. off (sym (mixed p.y q.y r.y (pos p.w) (pos q.w) (pos r.w) (pos n) _ (weight n p.w q.w)) ∙ no_difference _ _ same.1))
        (line_large (apart_y p r) (apart_y q r) h)
