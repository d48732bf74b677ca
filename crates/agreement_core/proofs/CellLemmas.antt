-- Each point lies in a cell, and each cell has points, segments and triangles of its dimension.
use Rattle.std.proofs.Common.{◌≡◌, ◌<◌, ◌≤◌, ◌*◌, ◌+◌, ◌/◌, ◌%◌, arith, refl, ◌∙◌, sym, zero, suc, subst, mod-lt}
use Rattle.std.specs.Prelude.{ℤ, ℕ, pos, negsuc, neg_ℤ, ◌*ℤ◌, ◌+ℤ◌, ◌<ℤ◌}
use Rattle.std.proofs.lemmas.Int.{ints}
use Rattle.std.proofs.lemmas.Nat.{div-add-mod'}
use Rattle.geom_core.specs.Cells.{line}
use Rattle.plane_core.specs.Points.{Point, mix}
use Rattle.plane_core.proofs.Ring.{times-neg, monomials}
use Rattle.agreement_core.specs.Agreement.{LiesAt, OnLine, InGap, IsInCell}

-- the number lies somewhere
abbrev pub HasCell : ℤ → ℕ → Type 0
HasCell z w = (u : ℤ) × LiesAt z w u

plus_on : (w q n : ℕ) → n ≡ q * w → pos n ≡ pos w *ℤ pos q
plus_on w q n e = omega (arith, ints, e)

plus_after : (w q r n : ℕ) → n ≡ q * w + r → 0 < r → (pos w *ℤ pos q) <ℤ pos n
plus_after w q r n e h = omega (arith, ints, e, h)

plus_before : (w q r n : ℕ) → n ≡ q * w + r → r < w → pos n <ℤ (pos w *ℤ pos q +ℤ pos w)
plus_before w q r n e h = omega (arith, ints, e, h)

minus_on : (w q n : ℕ) → n + 1 ≡ q * w → negsuc n ≡ pos w *ℤ neg_ℤ (pos q)
minus_on w q n e = rw (times-neg (pos w) (pos q)) (omega (arith, ints, e))

minus_after : (w q r n : ℕ) → n + 1 ≡ q * w + r → r < w → (pos w *ℤ neg_ℤ (pos (q + 1))) <ℤ negsuc n
minus_after w q r n e h = rw (times-neg (pos w) (pos (q + 1))) (omega (arith, ints, e, h))

minus_before : (w q r n : ℕ) → n + 1 ≡ q * w + r → 0 < r → negsuc n <ℤ (pos w *ℤ neg_ℤ (pos (q + 1)) +ℤ pos w)
minus_before w q r n e h = rw (times-neg (pos w) (pos (q + 1))) (omega (arith, ints, e, h))

plus_cell : (w q r n : ℕ) → n ≡ q * w + r → r < w → HasCell (pos n) w
plus_cell w q zero n e h = (line (pos q), OnLine (pos q) refl (plus_on w q n (omega (arith, e))))
plus_cell w q (suc r) n e h = (line (pos q) +ℤ pos 1, InGap (pos q) refl (plus_after w q (suc r) n e (omega arith)) (plus_before w q (suc r) n e h))

minus_cell : (w q r n : ℕ) → n + 1 ≡ q * w + r → r < w → HasCell (negsuc n) w
minus_cell w q zero n e h = (line (neg_ℤ (pos q)), OnLine (neg_ℤ (pos q)) refl (minus_on w q n (omega (arith, e))))
minus_cell w q (suc r) n e h =
    (line (neg_ℤ (pos (q + 1))) +ℤ pos 1, InGap (neg_ℤ (pos (q + 1))) refl (minus_after w q (suc r) n e h) (minus_before w q (suc r) n e (omega arith)))

pub has_cell : (z : ℤ) (w : ℕ) → 0 < w → HasCell z w
has_cell (pos n) w h = plus_cell w (n / w) (n % w) n (sym (div-add-mod' n w)) (mod-lt n h)
has_cell (negsuc n) w h = minus_cell w ((n + 1) / w) ((n + 1) % w) n (sym (div-add-mod' (n + 1) w)) (mod-lt (n + 1) h)

-- a whole number and its double
abbrev pub double : ℤ → ℤ
double u = u +ℤ u

-- the number u / 2 lies at u
on_half : (u k : ℤ) → u ≡ pos 2 *ℤ k → line k ≡ u
on_half u k e = omega (arith, ints, e)

in_half : (u k : ℤ) → (pos 2 *ℤ k) <ℤ u → u <ℤ (pos 2 *ℤ k +ℤ pos 2) → line k +ℤ pos 1 ≡ u
in_half u k a b = omega (arith, ints, a, b)

half_is : (u v : ℤ) → LiesAt u 2 v → v ≡ u
half_is u v (OnLine k e z) = e ∙ on_half u k z
half_is u v (InGap k e a b) = e ∙ in_half u k a b

pub half_cell : (u : ℤ) → LiesAt u 2 u
half_cell u = let c = has_cell u 2 (omega arith) in subst (λ v. LiesAt u 2 v) (half_is u c.0 c.1) c.1

-- ---- what lies all over a gap: four times the half, and up to twice as much beyond

gap_after : (k : ℤ) (s t : ℕ) → 0 < s → (pos (4 * s) *ℤ k) <ℤ (pos s *ℤ (pos 2 *ℤ (line k +ℤ pos 1)) +ℤ pos t)
gap_after k s t h = simp monomials (omega (arith, ints, h))

gap_before : (k : ℤ) (s t : ℕ) → 0 < s → t ≤ s
    → (pos s *ℤ (pos 2 *ℤ (line k +ℤ pos 1)) +ℤ pos t) <ℤ (pos (4 * s) *ℤ k +ℤ pos (4 * s))
gap_before k s t h l = simp monomials (omega (arith, ints, h, l))

pub in_gap_still : (u : ℤ) (s t : ℕ) → 0 < s → t ≤ s → (k : ℤ) → u ≡ line k +ℤ pos 1
    → LiesAt (pos s *ℤ (pos 2 *ℤ u) +ℤ pos t) (4 * s) u
in_gap_still u s t h l k e = InGap k e (rw e (gap_after k s t h)) (rw e (gap_before k s t h l))

line_still : (k : ℤ) (s : ℕ) → pos s *ℤ (pos 2 *ℤ line k) ≡ pos (4 * s) *ℤ k
line_still k s = simp monomials (omega (arith, ints))

pub on_line_still : (u : ℤ) (s : ℕ) → (k : ℤ) → u ≡ line k → LiesAt (pos s *ℤ (pos 2 *ℤ u)) (4 * s) u
on_line_still u s k e = OnLine k e (rw e (line_still k s))

-- ---- what a cell has: a point, a segment, a triangle

-- the point in the middle of a cell, and those a quarter beyond
abbrev pub centre : ℤ → ℤ → Point
centre u v = record { x = u; y = v; w = 2 }

abbrev pub quarters : ℤ → ℤ → ℕ → ℕ → Point
quarters u v a b = record { x = pos 2 *ℤ u +ℤ pos a; y = pos 2 *ℤ v +ℤ pos b; w = 4 }

pub cell_point : (u v : ℤ) → IsInCell (centre u v) u v
cell_point u v = record { wide = omega arith; along_x = half_cell u; along_y = half_cell v }

pub moved : (z y : ℤ) (w v : ℕ) (u : ℤ) → z ≡ y → w ≡ v → LiesAt z w u → LiesAt y v u
moved z y w v u e f l = subst (λ n. LiesAt y n u) f (subst (λ n. LiesAt n w u) e l)

segment_gap : (u : ℤ) (s t : ℕ) → pos (s + t) *ℤ (pos 2 *ℤ u) +ℤ pos t ≡ pos s *ℤ (pos 2 *ℤ u +ℤ pos 0) +ℤ pos t *ℤ (pos 2 *ℤ u +ℤ pos 1)
segment_gap u s t = simp monomials (omega (arith, ints))

segment_line : (u : ℤ) (s t : ℕ) → pos (s + t) *ℤ (pos 2 *ℤ u) ≡ pos s *ℤ (pos 2 *ℤ u +ℤ pos 0) +ℤ pos t *ℤ (pos 2 *ℤ u +ℤ pos 0)
segment_line u s t = simp monomials (omega (arith, ints))

triangle_first : (u : ℤ) (s t n : ℕ) → pos (s + t + n) *ℤ (pos 2 *ℤ u) +ℤ pos t
    ≡ pos 1 *ℤ (pos s *ℤ (pos 2 *ℤ u +ℤ pos 0) +ℤ pos t *ℤ (pos 2 *ℤ u +ℤ pos 1)) +ℤ pos n *ℤ (pos 2 *ℤ u +ℤ pos 0)
triangle_first u s t n = simp monomials (omega (arith, ints))

triangle_second : (u : ℤ) (s t n : ℕ) → pos (s + t + n) *ℤ (pos 2 *ℤ u) +ℤ pos n
    ≡ pos 1 *ℤ (pos s *ℤ (pos 2 *ℤ u +ℤ pos 0) +ℤ pos t *ℤ (pos 2 *ℤ u +ℤ pos 0)) +ℤ pos n *ℤ (pos 2 *ℤ u +ℤ pos 1)
triangle_second u s t n = simp monomials (omega (arith, ints))

segment_width : (s t : ℕ) → 4 * (s + t) ≡ s * 4 + t * 4
segment_width s t = omega arith

triangle_width : (s t n : ℕ) → 4 * (s + t + n) ≡ 1 * (s * 4 + t * 4) + n * 4
triangle_width s t n = omega arith

pub segment_along_x : (u v k m : ℤ) → u ≡ line k +ℤ pos 1 → v ≡ line m → (s t : ℕ) → 0 < s + t
    → IsInCell (mix s (quarters u v 0 0) t (quarters u v 1 0)) u v
segment_along_x u v k m e f s t h = record {
  wide = omega arith;
  along_x = moved _ _ _ _ u (segment_gap u s t) (segment_width s t) (in_gap_still u (s + t) t h (omega arith) k e);
  along_y = moved _ _ _ _ v (segment_line v s t) (segment_width s t) (on_line_still v (s + t) m f);
}

pub segment_along_y : (u v k m : ℤ) → u ≡ line k → v ≡ line m +ℤ pos 1 → (s t : ℕ) → 0 < s + t
    → IsInCell (mix s (quarters u v 0 0) t (quarters u v 0 1)) u v
segment_along_y u v k m e f s t h = record {
  wide = omega arith;
  along_x = moved _ _ _ _ u (segment_line u s t) (segment_width s t) (on_line_still u (s + t) k e);
  along_y = moved _ _ _ _ v (segment_gap v s t) (segment_width s t) (in_gap_still v (s + t) t h (omega arith) m f);
}

pub triangle_of_gaps : (u v k m : ℤ) → u ≡ line k +ℤ pos 1 → v ≡ line m +ℤ pos 1 → (s t n : ℕ) → 0 < s + t + n
    → IsInCell (mix 1 (mix s (quarters u v 0 0) t (quarters u v 1 0)) n (quarters u v 0 1)) u v
triangle_of_gaps u v k m e f s t n h = record {
  wide = omega arith;
  along_x = moved _ _ _ _ u (triangle_first u s t n) (triangle_width s t n) (in_gap_still u (s + t + n) t h (omega arith) k e);
  along_y = moved _ _ _ _ v (triangle_second v s t n) (triangle_width s t n) (in_gap_still v (s + t + n) n h (omega arith) m f);
}
