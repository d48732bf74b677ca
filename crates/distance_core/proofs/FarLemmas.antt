-- Points that are at least a squared distance n / d apart, over the integers.
use Rattle.std.proofs.Common.{◌≡◌, ◌<◌, ℕ, arith, ap, ◌∙◌, true, refl, subst}
use Rattle.std.specs.Prelude.{ℤ, pos, ◌+ℤ◌, ◌-ℤ◌, ◌*ℤ◌, neg_ℤ, ◌≤ℤ◌, ◌<ℤ◌, int_le, Bool, ◌&&◌, ◌||◌}
use Rattle.std.specs.Ordering.{int_eq}
use Rattle.std.proofs.lemmas.Int.{ints, by_lt_z}
use Rattle.plane_core.specs.declared.vertex.Vertex.{Vertex}
use Rattle.plane_core.specs.declared.edge.Edge.{Edge}
use Rattle.plane_core.specs.Points.{Point, at, side, run, rise, is_on, is_at}
use Rattle.plane_core.proofs.Ring.{monomials}
use Rattle.plane_core.proofs.Signs.{times_not_negative, times_positive}
use Rattle.plane_core.proofs.CrossingLemmas.{along_x_of, along_y_of}
use Rattle.distance_core.specs.Frames.{along, reach}
use Rattle.distance_core.proofs.RingLemmas.{le_trans_z, le_cancelled, times_le, square_not_negative, square_le}
use Rattle.distance_core.proofs.FrameLemmas.{off, along_off, framed, IsAlong, flip, reach-flip, along-flip, along_flipped, within_cases}

-- the product of the denominators, squared
abbrev pub scale : Point → Point → ℤ
scale p q = (pos p.w *ℤ pos q.w) *ℤ (pos p.w *ℤ pos q.w)

pub record IsFar (n d : ℤ) (p q : Point) : Type 0 where
  pub far : (n *ℤ scale p q) ≤ℤ (d *ℤ off p q)

-- the same from both sides
pub off-turned : (p q : Point) → off p q ≡ off q p
off-turned p q = plain p.x p.y (pos p.w) q.x q.y (pos q.w)
  where
    plain : (x y w z u v : ℤ) → (x *ℤ v -ℤ z *ℤ w) *ℤ (x *ℤ v -ℤ z *ℤ w) +ℤ (y *ℤ v -ℤ u *ℤ w) *ℤ (y *ℤ v -ℤ u *ℤ w)
        ≡ (z *ℤ w -ℤ x *ℤ v) *ℤ (z *ℤ w -ℤ x *ℤ v) +ℤ (u *ℤ w -ℤ y *ℤ v) *ℤ (u *ℤ w -ℤ y *ℤ v)
    plain x y w z u v = simp monomials (omega (arith, ints))

pub scale-turned : (p q : Point) → scale p q ≡ scale q p
scale-turned p q = plain (pos p.w) (pos q.w)
  where
    plain : (w v : ℤ) → (w *ℤ v) *ℤ (w *ℤ v) ≡ (v *ℤ w) *ℤ (v *ℤ w)
    plain w v = simp monomials (omega (arith, ints))

pub far_turned : (n d : ℤ) (p q : Point) → IsFar n d p q → IsFar n d q p
far_turned n d p q h = record { far = rw (scale-turned q p, off-turned q p) h.far }

-- a lesser fraction is at most as far
pub far_less : (n d m e : ℤ) (p q : Point) → pos 0 <ℤ e → pos 0 ≤ℤ d → (n *ℤ e) ≤ℤ (m *ℤ d) → IsFar m e p q → IsFar n d p q
far_less n d m e p q he hd less h = record {
  far = le_cancelled e _ _ he
      (plain (n *ℤ e) (m *ℤ d) n d m e (scale p q) (off p q) refl refl less (square_not_negative (pos p.w *ℤ pos q.w)) hd h.far);
}
  where
    plain : (a b n d m e s o : ℤ) → a ≡ n *ℤ e → b ≡ m *ℤ d → a ≤ℤ b → pos 0 ≤ℤ s → pos 0 ≤ℤ d → (m *ℤ s) ≤ℤ (e *ℤ o) → (e *ℤ (n *ℤ s)) ≤ℤ (e *ℤ (d *ℤ o))
    plain a b n d m e s o ea eb h hs hd k =
        le_trans_z _ _ _ (le_trans_z _ _ _ (eq_le _ _ (first e n s a ea)) (times_le s a b hs h))
        (le_trans_z _ _ _ (eq_le _ _ (second s m d b eb)) (le_trans_z _ _ _ (times_le d _ _ hd k) (eq_le _ _ (third d e o))))
      where
        eq_le : (m n : ℤ) → m ≡ n → m ≤ℤ n
        eq_le m n h = omega (arith, ints)

        first : (e n s a : ℤ) → a ≡ n *ℤ e → e *ℤ (n *ℤ s) ≡ s *ℤ a
        first e n s a h = rw h (simp monomials)

        second : (s m d b : ℤ) → b ≡ m *ℤ d → s *ℤ b ≡ d *ℤ (m *ℤ s)
        second s m d b h = rw h (simp monomials)

        third : (d e o : ℤ) → d *ℤ (e *ℤ o) ≡ e *ℤ (d *ℤ o)
        third d e o = simp monomials

-- a point that is a vertex
pub record IsPlace (v : Vertex) (p : Point) : Type 0 where
  pub x : p.x ≡ pos p.w *ℤ v.x
  pub y : p.y ≡ pos p.w *ℤ v.y

pub place_of : (v : Vertex) (p : Point) → is_at v p ≡ true → IsPlace v p
place_of v p h = record { x = first p.x (pos p.w *ℤ v.x) _ h; y = second p.y (pos p.w *ℤ v.y) (int_eq p.x (pos p.w *ℤ v.x)) h }
  where
    first : (a b : ℤ) (t : Bool) → (int_eq a b && t) ≡ true → a ≡ b
    first a b t h = grind (arith, ints)

    second : (a b : ℤ) (t : Bool) → (t && int_eq a b) ≡ true → a ≡ b
    second a b t h = grind (arith, ints)

off-place : (v : Vertex) (p q : Point) → IsPlace v p → off p q ≡ (pos p.w *ℤ pos p.w) *ℤ off (at v) q
off-place v p q is = plain p.x p.y (pos p.w) v.x v.y q.x q.y (pos q.w) is.x is.y
  where
    plain : (x y w a b z u v : ℤ) → x ≡ w *ℤ a → y ≡ w *ℤ b →
        (x *ℤ v -ℤ z *ℤ w) *ℤ (x *ℤ v -ℤ z *ℤ w) +ℤ (y *ℤ v -ℤ u *ℤ w) *ℤ (y *ℤ v -ℤ u *ℤ w)
        ≡ (w *ℤ w) *ℤ ((a *ℤ v -ℤ z *ℤ pos 1) *ℤ (a *ℤ v -ℤ z *ℤ pos 1) +ℤ (b *ℤ v -ℤ u *ℤ pos 1) *ℤ (b *ℤ v -ℤ u *ℤ pos 1))
    plain x y w a b z u v h k = rw (h, k) (simp monomials (omega (arith, ints)))

-- what is so of a vertex is so of each triple that stands for it
pub far_place : (n d : ℤ) (v : Vertex) (p q : Point) → IsPlace v p → IsFar n d (at v) q → IsFar n d p q
far_place n d v p q is h = record {
  far = rw (off-place v p q is)
      (plain n d (pos p.w) (pos q.w) (off (at v) q) (times_le (pos p.w *ℤ pos p.w) _ _ (square_not_negative (pos p.w)) h.far));
}
  where
    plain : (n d w v o : ℤ) → ((w *ℤ w) *ℤ (n *ℤ ((pos 1 *ℤ v) *ℤ (pos 1 *ℤ v)))) ≤ℤ ((w *ℤ w) *ℤ (d *ℤ o)) → (n *ℤ ((w *ℤ v) *ℤ (w *ℤ v))) ≤ℤ (d *ℤ ((w *ℤ w) *ℤ o))
    plain n d w v o h = le_trans_z _ _ _ (eq_le _ _ (first n w v)) (le_trans_z _ _ _ h (eq_le _ _ (second d w o)))
      where
        eq_le : (m n : ℤ) → m ≡ n → m ≤ℤ n
        eq_le m n h = omega (arith, ints)

        first : (n w v : ℤ) → n *ℤ ((w *ℤ v) *ℤ (w *ℤ v)) ≡ (w *ℤ w) *ℤ (n *ℤ ((pos 1 *ℤ v) *ℤ (pos 1 *ℤ v)))
        first n w v = simp monomials

        second : (d w o : ℤ) → (w *ℤ w) *ℤ (d *ℤ o) ≡ d *ℤ ((w *ℤ w) *ℤ o)
        second d w o = simp monomials

-- an edge's first end in its frame
pub along-start : (e : Edge) → along e (at e.a) ≡ pos 0
along-start e = plain (run e) (rise e) e.a.x e.a.y
  where
    plain : (r d a b : ℤ) → r *ℤ (a -ℤ pos 1 *ℤ a) +ℤ d *ℤ (b -ℤ pos 1 *ℤ b) ≡ pos 0
    plain r d a b = simp monomials (omega (arith, ints))

pub side-start : (e : Edge) → side e (at e.a) ≡ pos 0
side-start e = plain (run e) (rise e) e.a.x e.a.y
  where
    plain : (r d a b : ℤ) → r *ℤ (b -ℤ pos 1 *ℤ b) -ℤ d *ℤ (a -ℤ pos 1 *ℤ a) ≡ pos 0
    plain r d a b = simp monomials (omega (arith, ints))

pub framed_start : (e : Edge) (p : Point) → reach e *ℤ off p (at e.a) ≡ along e p *ℤ along e p +ℤ side e p *ℤ side e p
framed_start e p = framed e p (at e.a) ∙ plain (along e p) (side e p) (pos p.w) _ _ (along-start e) (side-start e)
  where
    plain : (m n w a b : ℤ) → a ≡ pos 0 → b ≡ pos 0 → (pos 1 *ℤ m -ℤ w *ℤ a) *ℤ (pos 1 *ℤ m -ℤ w *ℤ a) +ℤ (pos 1 *ℤ n -ℤ w *ℤ b) *ℤ (pos 1 *ℤ n -ℤ w *ℤ b) ≡ m *ℤ m +ℤ n *ℤ n
    plain m n w a b h k = rw (h, k) (simp monomials (omega (arith, ints)))

-- a point of an edge seen from any point
pub framed_on : (e : Edge) (p q : Point) → IsAlong e q → reach e *ℤ off p q ≡ along_off e p q *ℤ along_off e p q +ℤ (pos q.w *ℤ side e p) *ℤ (pos q.w *ℤ side e p)
framed_on e p q is = framed e p q ∙ ap (λ (z : ℤ). along_off e p q *ℤ along_off e p q +ℤ z *ℤ z) (plain (pos q.w *ℤ side e p) (pos p.w) (side e q) is.level)
  where
    plain : (m w s : ℤ) → s ≡ pos 0 → m -ℤ w *ℤ s ≡ m
    plain m w s h = rw h (simp monomials (omega (arith, ints)))

-- it is no nearer than the line of the edge
pub no_nearer : (e : Edge) (p q : Point) → IsAlong e q → ((pos q.w *ℤ side e p) *ℤ (pos q.w *ℤ side e p)) ≤ℤ (reach e *ℤ off p q)
no_nearer e p q is = plain _ _ _ (framed_on e p q is) (square_not_negative (along_off e p q))
  where
    plain : (m n z : ℤ) → z ≡ m +ℤ n → pos 0 ≤ℤ m → n ≤ℤ z
    plain m n z h k = omega (arith, ints)

-- before its start, the first end is the nearest
pub before_start : (e : Edge) (p q : Point) → 0 < q.w → pos 0 <ℤ reach e → IsAlong e q → along e p ≤ℤ pos 0 → ((pos q.w *ℤ pos q.w) *ℤ off p (at e.a)) ≤ℤ off p q
before_start e p q wide long is before =
    le_cancelled (reach e) _ _ long
    (plain (reach e) (pos q.w) (pos p.w) (along e p) (along e q) (side e p) (off p (at e.a)) (off p q) (not_negative q.w) (not_negative p.w) before is.from (framed_start e p) (framed_on e p q is))
  where
    not_negative : (n : ℕ) → pos 0 ≤ℤ pos n
    not_negative n = omega (arith, ints)

    plain : (l v w a b s o z : ℤ) → pos 0 ≤ℤ v → pos 0 ≤ℤ w → a ≤ℤ pos 0 → pos 0 ≤ℤ b → l *ℤ o ≡ a *ℤ a +ℤ s *ℤ s
        → l *ℤ z ≡ (v *ℤ a -ℤ w *ℤ b) *ℤ (v *ℤ a -ℤ w *ℤ b) +ℤ (v *ℤ s) *ℤ (v *ℤ s) → (l *ℤ ((v *ℤ v) *ℤ o)) ≤ℤ (l *ℤ z)
    plain l v w a b s o z hv hw ha hb eo ez =
        last _ _ _ _ _ (first l v o ∙ ap (λ (k : ℤ). (v *ℤ v) *ℤ k) eo ∙ second v a s) (ez ∙ ap (λ (k : ℤ). k +ℤ (v *ℤ s) *ℤ (v *ℤ s)) (turned (v *ℤ a) (w *ℤ b)))
        (square_le (neg_ℤ (v *ℤ a)) (w *ℤ b -ℤ v *ℤ a) low more)
      where
        first : (l v o : ℤ) → l *ℤ ((v *ℤ v) *ℤ o) ≡ (v *ℤ v) *ℤ (l *ℤ o)
        first l v o = simp monomials

        second : (v a s : ℤ) → (v *ℤ v) *ℤ (a *ℤ a +ℤ s *ℤ s) ≡ neg_ℤ (v *ℤ a) *ℤ neg_ℤ (v *ℤ a) +ℤ (v *ℤ s) *ℤ (v *ℤ s)
        second v a s = simp monomials (omega (arith, ints))

        turned : (m n : ℤ) → (m -ℤ n) *ℤ (m -ℤ n) ≡ (n -ℤ m) *ℤ (n -ℤ m)
        turned m n = simp monomials (omega (arith, ints))

        times_neg : (v a : ℤ) → v *ℤ neg_ℤ a ≡ neg_ℤ (v *ℤ a)
        times_neg v a = simp monomials

        up : (a : ℤ) → a ≤ℤ pos 0 → pos 0 ≤ℤ neg_ℤ a
        up a h = omega (arith, ints)

        low : pos 0 ≤ℤ neg_ℤ (v *ℤ a)
        low = subst (λ (k : ℤ). pos 0 ≤ℤ k) (times_neg v a) (times_not_negative v (neg_ℤ a) hv (up a ha))

        rise : (m n : ℤ) → pos 0 ≤ℤ n → neg_ℤ m ≤ℤ (n -ℤ m)
        rise m n h = omega (arith, ints)

        more : neg_ℤ (v *ℤ a) ≤ℤ (w *ℤ b -ℤ v *ℤ a)
        more = rise (v *ℤ a) (w *ℤ b) (times_not_negative w b hw hb)

        last : (x y m n s : ℤ) → x ≡ m +ℤ s → y ≡ n +ℤ s → m ≤ℤ n → x ≤ℤ y
        last x y m n s h k l = omega (arith, ints)

-- so what is far from the first end is far from the edge
pub far_before : (n d : ℤ) (e : Edge) (p q : Point) → 0 < q.w → pos 0 ≤ℤ d → pos 0 <ℤ reach e → IsAlong e q → along e p ≤ℤ pos 0 → IsFar n d p (at e.a) → IsFar n d p q
far_before n d e p q wide hd long is before h = record {
  far = plain n d (pos p.w) (pos q.w) (off p (at e.a)) (off p q) hd h.far (before_start e p q wide long is before);
}
  where
    plain : (n d w v o z : ℤ) → pos 0 ≤ℤ d → (n *ℤ ((w *ℤ pos 1) *ℤ (w *ℤ pos 1))) ≤ℤ (d *ℤ o) → ((v *ℤ v) *ℤ o) ≤ℤ z → (n *ℤ ((w *ℤ v) *ℤ (w *ℤ v))) ≤ℤ (d *ℤ z)
    plain n d w v o z hd h k = le_trans_z _ _ _ (eq_le _ _ (first n w v)) (le_trans_z _ _ _ (times_le (v *ℤ v) _ _ (square_not_negative v) h) (le_trans_z _ _ _ (eq_le _ _ (second d v o)) (times_le d _ _ hd k)))
      where
        eq_le : (m n : ℤ) → m ≡ n → m ≤ℤ n
        eq_le m n h = omega (arith, ints)

        first : (n w v : ℤ) → n *ℤ ((w *ℤ v) *ℤ (w *ℤ v)) ≡ (v *ℤ v) *ℤ (n *ℤ ((w *ℤ pos 1) *ℤ (w *ℤ pos 1)))
        first n w v = simp monomials

        second : (d v o : ℤ) → (v *ℤ v) *ℤ (d *ℤ o) ≡ d *ℤ ((v *ℤ v) *ℤ o)
        second d v o = simp monomials

-- beyond its end
pub far_beyond : (n d : ℤ) (e : Edge) (p q : Point) → 0 < q.w → pos 0 ≤ℤ d → pos 0 <ℤ reach e → IsAlong e q → (pos p.w *ℤ reach e) ≤ℤ along e p → IsFar n d p (at e.b) → IsFar n d p q
far_beyond n d e p q wide hd long is beyond h =
    far_before n d (flip e) p q wide hd (rw (reach-flip e) long) (along_flipped e q is) (rw (along-flip e p) (plain (along e p) _ beyond)) h
  where
    plain : (m n : ℤ) → n ≤ℤ m → (n -ℤ m) ≤ℤ pos 0
    plain m n h = omega (arith, ints)

-- an edge without a length is its first end
pub no_length : (r d : ℤ) → r *ℤ r +ℤ d *ℤ d ≡ pos 0 → r ≡ pos 0
no_length r d h = by_lt_z r (pos 0)
    (λ down. absurd (both (r *ℤ r) (d *ℤ d) h (subst (λ (k : ℤ). pos 0 <ℤ k) (even r) (times_positive (neg_ℤ r) (neg_ℤ r) (opposite r down) (opposite r down))) (square_not_negative d)))
    (λ k. by_lt_z (pos 0) r (λ up. absurd (both (r *ℤ r) (d *ℤ d) h (times_positive r r up up) (square_not_negative d))) (λ l. same r k l))
  where
    both : (m n : ℤ) → m +ℤ n ≡ pos 0 → pos 0 <ℤ m → pos 0 ≤ℤ n → ⊥
    both m n h k l = omega (arith, ints)

    opposite : (r : ℤ) → r <ℤ pos 0 → pos 0 <ℤ neg_ℤ r
    opposite r h = omega (arith, ints)

    even : (r : ℤ) → neg_ℤ r *ℤ neg_ℤ r ≡ r *ℤ r
    even r = simp monomials (omega (arith, ints))

    same : (r : ℤ) → pos 0 ≤ℤ r → r ≤ℤ pos 0 → r ≡ pos 0
    same r h k = omega (arith, ints)

pub place_of_flat : (e : Edge) (p : Point) → reach e ≡ pos 0 → is_on e p ≡ true → IsPlace e.a p
place_of_flat e p flat on = record {
  x = plain (pos p.w) e.a.x e.b.x p.x (no_length (run e) (rise e) flat) (along_x_of e p on);
  y = plain (pos p.w) e.a.y e.b.y p.y (no_length (rise e) (run e) (turned (run e *ℤ run e) (rise e *ℤ rise e) flat)) (along_y_of e p on);
}
  where
    turned : (m n : ℤ) → m +ℤ n ≡ pos 0 → n +ℤ m ≡ pos 0
    turned m n h = omega (arith, ints)

    equal : (a b : ℤ) → b -ℤ a ≡ pos 0 → b ≡ a
    equal a b h = omega (arith, ints)

    squeezed : (m z : ℤ) → m ≤ℤ z → z ≤ℤ m → z ≡ m
    squeezed m z h k = omega (arith, ints)

    plain : (w a b z : ℤ) → b -ℤ a ≡ pos 0 → (int_le (w *ℤ a) z && int_le z (w *ℤ b) || int_le (w *ℤ b) z && int_le z (w *ℤ a)) ≡ true → z ≡ w *ℤ a
    plain w a b z h k = within_cases (w *ℤ a) (w *ℤ a) z (subst (λ (m : ℤ). (int_le (w *ℤ a) z && int_le z (w *ℤ m) || int_le (w *ℤ m) z && int_le z (w *ℤ a)) ≡ true) (equal a b h) k) (squeezed (w *ℤ a) z) (squeezed (w *ℤ a) z)
