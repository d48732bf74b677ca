-- What is far from a point of the way between two points is far from where the way begins.
use Rattle.std.proofs.Common.{◌≡◌, ◌*◌, ◌+◌, ◌<◌, ℕ, arith, ap, ◌∙◌}
use Rattle.std.specs.Prelude.{ℤ, pos, ◌+ℤ◌, ◌-ℤ◌, ◌*ℤ◌, ◌≤ℤ◌, ◌<ℤ◌}
use Rattle.std.proofs.lemmas.Int.{ints, by_lt_z}
use Rattle.plane_core.specs.Points.{Point}
use Rattle.plane_core.proofs.Ring.{monomials}
use Rattle.plane_core.proofs.Signs.{times_not_negative, times_positive, wide_z}
use Rattle.distance_core.proofs.RingLemmas.{le_trans_z, le_cancelled, times_le, square_not_negative, square_le}
use Rattle.distance_core.proofs.FrameLemmas.{off, off_x, off_y}
use Rattle.distance_core.proofs.FarLemmas.{scale, IsFar}
use Rattle.noding_core.proofs.WayLemmas.{IsOnWay, on_way_wide}

off-way : (p q z : Point) (way : IsOnWay p q z) → off z q ≡ (pos way.s *ℤ pos way.s) *ℤ off p q
off-way p q z way = ap (λ (x : Point). off x q) way.is ∙ plain (pos way.s) (pos way.t) p.x p.y (pos p.w) q.x q.y (pos q.w) _ (weight way.s p.w way.t q.w)
  where
    weight : (s w t v : ℕ) → pos (s * w + t * v) ≡ pos s *ℤ pos w +ℤ pos t *ℤ pos v
    weight s w t v = omega (arith, ints)

    plain : (s t x y w a b v m : ℤ) → m ≡ s *ℤ w +ℤ t *ℤ v
        → ((s *ℤ x +ℤ t *ℤ a) *ℤ v -ℤ a *ℤ m) *ℤ ((s *ℤ x +ℤ t *ℤ a) *ℤ v -ℤ a *ℤ m) +ℤ ((s *ℤ y +ℤ t *ℤ b) *ℤ v -ℤ b *ℤ m) *ℤ ((s *ℤ y +ℤ t *ℤ b) *ℤ v -ℤ b *ℤ m)
        ≡ (s *ℤ s) *ℤ ((x *ℤ v -ℤ a *ℤ w) *ℤ (x *ℤ v -ℤ a *ℤ w) +ℤ (y *ℤ v -ℤ b *ℤ w) *ℤ (y *ℤ v -ℤ b *ℤ w))
    plain s t x y w a b v m e = ap (λ (k : ℤ). ((s *ℤ x +ℤ t *ℤ a) *ℤ v -ℤ a *ℤ k) *ℤ ((s *ℤ x +ℤ t *ℤ a) *ℤ v -ℤ a *ℤ k) +ℤ ((s *ℤ y +ℤ t *ℤ b) *ℤ v -ℤ b *ℤ k) *ℤ ((s *ℤ y +ℤ t *ℤ b) *ℤ v -ℤ b *ℤ k)) e
        ∙ ap (λ (k : ℤ). k *ℤ k +ℤ ((s *ℤ y +ℤ t *ℤ b) *ℤ v -ℤ b *ℤ (s *ℤ w +ℤ t *ℤ v)) *ℤ ((s *ℤ y +ℤ t *ℤ b) *ℤ v -ℤ b *ℤ (s *ℤ w +ℤ t *ℤ v))) (one s t x w a v)
        ∙ ap (λ (k : ℤ). (s *ℤ (x *ℤ v -ℤ a *ℤ w)) *ℤ (s *ℤ (x *ℤ v -ℤ a *ℤ w)) +ℤ k *ℤ k) (one s t y w b v)
        ∙ squares s (x *ℤ v -ℤ a *ℤ w) (y *ℤ v -ℤ b *ℤ w)
      where
        one : (s t x w a v : ℤ) → (s *ℤ x +ℤ t *ℤ a) *ℤ v -ℤ a *ℤ (s *ℤ w +ℤ t *ℤ v) ≡ s *ℤ (x *ℤ v -ℤ a *ℤ w)
        one s t x w a v = simp monomials (omega (arith, ints))

        squares : (s x y : ℤ) → (s *ℤ x) *ℤ (s *ℤ x) +ℤ (s *ℤ y) *ℤ (s *ℤ y) ≡ (s *ℤ s) *ℤ (x *ℤ x +ℤ y *ℤ y)
        squares s x y = simp monomials (omega (arith, ints))

eq_le : (m n : ℤ) → m ≡ n → m ≤ℤ n
eq_le m n h = omega (arith, ints)

not_negative : (n : ℕ) → pos 0 ≤ℤ pos n
not_negative n = omega (arith, ints)

pub far_way : (n d : ℕ) (p q z : Point) → 0 < p.w → 0 < q.w → IsOnWay p q z → IsFar (pos n) (pos d) z q → IsFar (pos n) (pos d) p q
far_way n d p q z wide_p wide_q way h = by_lt_z (pos 0) (pos way.s)
    (λ some. record {
      far = le_cancelled (pos way.s *ℤ pos way.s) _ _ (times_positive (pos way.s) (pos way.s) some some)
          (le_trans_z _ _ _ (le_trans_z _ _ _ (eq_le _ _ (first (pos way.s) (pos n) (pos p.w) (pos q.w)))
          (times_le (pos n) _ _ (not_negative n) (square_le ((pos way.s *ℤ pos p.w) *ℤ pos q.w) (pos z.w *ℤ pos q.w) (times_not_negative _ _ (times_not_negative _ _ (not_negative way.s) (not_negative p.w)) (not_negative q.w)) wider)))
          (le_trans_z _ _ _ h.far (eq_le _ _ (ap (λ (k : ℤ). pos d *ℤ k) (off-way p q z way) ∙ second (pos d) (pos way.s) (off p q)))));
    })
    (λ none. record { far = le_trans_z _ _ _ (nothing n (scale p q) (no_number n way.s (pos z.w *ℤ pos q.w) (pos d) (off z q) (off p q) none (off-way p q z way) (times_positive (pos z.w) (pos q.w) (wide_z z.w wide_point) (wide_z q.w wide_q)) h.far)) (times_not_negative (pos d) (off p q) (not_negative d) (sum _ _ (square_not_negative (off_x p q)) (square_not_negative (off_y p q)))) })
  where
    wide_point : 0 < z.w
    wide_point = on_way_wide p q z wide_p wide_q way

    sum : (m n : ℤ) → pos 0 ≤ℤ m → pos 0 ≤ℤ n → pos 0 ≤ℤ (m +ℤ n)
    sum m n h k = omega (arith, ints)

    width : (w : ℕ) → w ≡ way.s * p.w + way.t * q.w → (pos way.s *ℤ pos p.w) ≤ℤ pos w
    width w e = plain way.s p.w way.t q.w w e
      where
        plain : (s a t b w : ℕ) → w ≡ s * a + t * b → (pos s *ℤ pos a) ≤ℤ pos w
        plain s a t b w e = omega (arith, ints, e)

    wider : ((pos way.s *ℤ pos p.w) *ℤ pos q.w) ≤ℤ (pos z.w *ℤ pos q.w)
    wider = le_trans_z _ _ _ (eq_le _ _ (turned (pos way.s *ℤ pos p.w) (pos q.w))) (le_trans_z _ _ _ (times_le (pos q.w) _ _ (not_negative q.w) (width z.w (ap (λ (x : Point). x.w) way.is))) (eq_le _ _ (turned (pos q.w) (pos z.w))))
      where
        turned : (m n : ℤ) → m *ℤ n ≡ n *ℤ m
        turned m n = simp monomials

    first : (s n w v : ℤ) → (s *ℤ s) *ℤ (n *ℤ ((w *ℤ v) *ℤ (w *ℤ v))) ≡ n *ℤ (((s *ℤ w) *ℤ v) *ℤ ((s *ℤ w) *ℤ v))
    first s n w v = simp monomials

    second : (d s o : ℤ) → d *ℤ ((s *ℤ s) *ℤ o) ≡ (s *ℤ s) *ℤ (d *ℤ o)
    second d s o = simp monomials

    no_number : (n s : ℕ) (k d o u : ℤ) → pos s ≤ℤ pos 0 → o ≡ (pos s *ℤ pos s) *ℤ u → pos 0 <ℤ k → (pos n *ℤ (k *ℤ k)) ≤ℤ (d *ℤ o) → pos n ≤ℤ pos 0
    no_number n s k d o u hs ho hk h = le_cancelled (k *ℤ k) _ _ (times_positive k k hk hk)
        (le_trans_z _ _ _ (eq_le _ _ (turned (k *ℤ k) (pos n))) (le_trans_z _ _ _ h (eq_le _ _ (ap (λ (m : ℤ). d *ℤ m) ho ∙ empty d (pos s) u (k *ℤ k) (zero s hs)))))
      where
        turned : (m n : ℤ) → m *ℤ n ≡ n *ℤ m
        turned m n = simp monomials

        zero : (s : ℕ) → pos s ≤ℤ pos 0 → pos s ≡ pos 0
        zero s h = omega (arith, ints)

        empty : (d s u k : ℤ) → s ≡ pos 0 → d *ℤ ((s *ℤ s) *ℤ u) ≡ k *ℤ pos 0
        empty d s u k h = rw h (simp monomials (omega (arith, ints)))

    nothing : (n : ℕ) (k : ℤ) → pos n ≤ℤ pos 0 → (pos n *ℤ k) ≤ℤ pos 0
    nothing n k h = eq_le _ _ (ap (λ (m : ℤ). m *ℤ k) (zero n h) ∙ none k)
      where
        zero : (n : ℕ) → pos n ≤ℤ pos 0 → pos n ≡ pos 0
        zero n h = omega (arith, ints)

        none : (k : ℤ) → pos 0 *ℤ k ≡ pos 0
        none k = simp monomials
