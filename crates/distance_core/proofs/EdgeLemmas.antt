-- Edges that share no point are no nearer than their ends.
use Rattle.std.proofs.Common.{◌≡◌, ◌*◌, ◌+◌, ◌<◌, ◌≤◌, ℕ, arith, ap, ◌∙◌, sym, true, refl}
use Rattle.std.proofs.lemmas.Nat.{mul-le}
use Rattle.std.specs.Prelude.{ℤ, pos, negsuc, ◌+ℤ◌, ◌-ℤ◌, ◌*ℤ◌, neg_ℤ, ◌≤ℤ◌, ◌<ℤ◌, nat_abs}
use Rattle.std.proofs.lemmas.Int.{ints}
use Rattle.plane_core.specs.declared.edge.Edge.{Edge}
use Rattle.plane_core.specs.Points.{Point, at, side, run, rise, is_on, mix}
use Rattle.plane_core.specs.Meetings.{divided}
use Rattle.plane_core.proofs.Ring.{monomials}
use Rattle.plane_core.proofs.Signs.{times_not_negative, times_positive, weak, wide_z}
use Rattle.plane_core.proofs.HeldLemmas.{abs_positive}
use Rattle.plane_core.proofs.CrossingLemmas.{divided_on}
use Rattle.distance_core.specs.Frames.{along, reach}
use Rattle.distance_core.proofs.RingLemmas.{le_from, le_trans_z, le_cancelled, times_le, square_not_negative}
use Rattle.distance_core.proofs.FrameLemmas.{off, IsAlong, along_of, on_of, along-mix, side-mix, mix_on}
use Rattle.distance_core.proofs.FarLemmas.{IsFar, framed_start, framed_on, no_nearer}

eq_le : (m n : ℤ) → m ≡ n → m ≤ℤ n
eq_le m n h = omega (arith, ints)

-- a point is at least a squared distance n / d from the line of an edge
pub record IsBeside (n d : ℤ) (t : Edge) (p : Point) : Type 0 where
  pub far : ((n *ℤ (pos p.w *ℤ pos p.w)) *ℤ reach t) ≤ℤ (d *ℤ (side t p *ℤ side t p))

pub far_beside : (n d : ℤ) (t : Edge) (p q : Point) → pos 0 ≤ℤ d → pos 0 <ℤ reach t → IsAlong t q → IsBeside n d t p → IsFar n d p q
far_beside n d t p q hd long is h = record {
  far = le_cancelled (reach t) _ _ long (plain (reach t) n d (pos p.w) (pos q.w) (side t p) (off p q) hd h.far (no_nearer t p q is));
}
  where
    plain : (l n d w v s o : ℤ) → pos 0 ≤ℤ d → ((n *ℤ (w *ℤ w)) *ℤ l) ≤ℤ (d *ℤ (s *ℤ s)) → ((v *ℤ s) *ℤ (v *ℤ s)) ≤ℤ (l *ℤ o) → (l *ℤ (n *ℤ ((w *ℤ v) *ℤ (w *ℤ v)))) ≤ℤ (l *ℤ (d *ℤ o))
    plain l n d w v s o hd h k =
        le_trans_z _ _ _ (eq_le _ _ (first l n w v)) (le_trans_z _ _ _ (times_le (v *ℤ v) _ _ (square_not_negative v) h)
        (le_trans_z _ _ _ (eq_le _ _ (second v d s)) (le_trans_z _ _ _ (times_le d _ _ hd k) (eq_le _ _ (third d l o)))))
      where
        first : (l n w v : ℤ) → l *ℤ (n *ℤ ((w *ℤ v) *ℤ (w *ℤ v))) ≡ (v *ℤ v) *ℤ ((n *ℤ (w *ℤ w)) *ℤ l)
        first l n w v = simp monomials

        second : (v d s : ℤ) → (v *ℤ v) *ℤ (d *ℤ (s *ℤ s)) ≡ d *ℤ ((v *ℤ s) *ℤ (v *ℤ s))
        second v d s = simp monomials

        third : (d l o : ℤ) → d *ℤ (l *ℤ o) ≡ l *ℤ (d *ℤ o)
        third d l o = simp monomials

-- a point whose side, over its denominator, is at most m / w on either side
pub record IsLow (m w : ℤ) (t : Edge) (z : Point) : Type 0 where
  pub left : neg_ℤ (m *ℤ pos z.w) ≤ℤ (w *ℤ side t z)
  pub right : (w *ℤ side t z) ≤ℤ (m *ℤ pos z.w)

weight : (s w t v : ℕ) → pos (s * w + t * v) ≡ pos s *ℤ pos w +ℤ pos t *ℤ pos v
weight s w t v = omega (arith, ints)

low_mix : (m w : ℤ) (e : Edge) (s : ℕ) (p : Point) (t : ℕ) (q : Point) → IsLow m w e p → IsLow m w e q → IsLow m w e (mix s p t q)
low_mix m w e s p t q h k = record {
  left = rw (side-mix e s p t q, weight s p.w t q.w) (left_plain m w (pos s) (pos t) (side e p) (side e q) (pos p.w) (pos q.w) (not_negative s) (not_negative t) h.left k.left);
  right = rw (side-mix e s p t q, weight s p.w t q.w) (right_plain m w (pos s) (pos t) (side e p) (side e q) (pos p.w) (pos q.w) (not_negative s) (not_negative t) h.right k.right);
}
  where
    not_negative : (n : ℕ) → pos 0 ≤ℤ pos n
    not_negative n = omega (arith, ints)

    sum : (a b c d : ℤ) → a ≤ℤ b → c ≤ℤ d → (a +ℤ c) ≤ℤ (b +ℤ d)
    sum a b c d h k = omega (arith, ints)

    left_plain : (m w s t a b v u : ℤ) → pos 0 ≤ℤ s → pos 0 ≤ℤ t → neg_ℤ (m *ℤ v) ≤ℤ (w *ℤ a) → neg_ℤ (m *ℤ u) ≤ℤ (w *ℤ b) → neg_ℤ (m *ℤ (s *ℤ v +ℤ t *ℤ u)) ≤ℤ (w *ℤ (s *ℤ a +ℤ t *ℤ b))
    left_plain m w s t a b v u hs ht h k = le_trans_z _ _ _ (eq_le _ _ (one m s v t u)) (le_trans_z _ _ _ (sum _ _ _ _ (times_le s _ _ hs h) (times_le t _ _ ht k)) (eq_le _ _ (two w s a t b)))
      where
        one : (m s v t u : ℤ) → neg_ℤ (m *ℤ (s *ℤ v +ℤ t *ℤ u)) ≡ s *ℤ neg_ℤ (m *ℤ v) +ℤ t *ℤ neg_ℤ (m *ℤ u)
        one m s v t u = simp monomials (omega (arith, ints))

        two : (w s a t b : ℤ) → s *ℤ (w *ℤ a) +ℤ t *ℤ (w *ℤ b) ≡ w *ℤ (s *ℤ a +ℤ t *ℤ b)
        two w s a t b = simp monomials (omega (arith, ints))

    right_plain : (m w s t a b v u : ℤ) → pos 0 ≤ℤ s → pos 0 ≤ℤ t → (w *ℤ a) ≤ℤ (m *ℤ v) → (w *ℤ b) ≤ℤ (m *ℤ u) → (w *ℤ (s *ℤ a +ℤ t *ℤ b)) ≤ℤ (m *ℤ (s *ℤ v +ℤ t *ℤ u))
    right_plain m w s t a b v u hs ht h k = le_trans_z _ _ _ (eq_le _ _ (two w s a t b)) (le_trans_z _ _ _ (sum _ _ _ _ (times_le s _ _ hs h) (times_le t _ _ ht k)) (eq_le _ _ (joined m s v t u)))
      where
        two : (w s a t b : ℤ) → w *ℤ (s *ℤ a +ℤ t *ℤ b) ≡ s *ℤ (w *ℤ a) +ℤ t *ℤ (w *ℤ b)
        two w s a t b = simp monomials (omega (arith, ints))

        joined : (w s a t b : ℤ) → s *ℤ (w *ℤ a) +ℤ t *ℤ (w *ℤ b) ≡ w *ℤ (s *ℤ a +ℤ t *ℤ b)
        joined w s a t b = simp monomials (omega (arith, ints))

-- a point is as low as itself
low_self : (t : Edge) (p : Point) → IsLow (pos (nat_abs (side t p))) (pos p.w) t p
low_self t p = record { left = left_plain (pos p.w) (side t p) (wide p.w); right = right_plain (pos p.w) (side t p) (wide p.w) }
  where
    wide : (n : ℕ) → pos 0 ≤ℤ pos n
    wide n = omega (arith, ints)

    above : (s : ℤ) → s ≤ℤ pos (nat_abs s)
    above s = omega (arith, ints)

    below : (s : ℤ) → neg_ℤ (pos (nat_abs s)) ≤ℤ s
    below s = omega (arith, ints)

    right_plain : (w s : ℤ) → pos 0 ≤ℤ w → (w *ℤ s) ≤ℤ (pos (nat_abs s) *ℤ w)
    right_plain w s hw = le_trans_z _ _ _ (times_le w _ _ hw (above s)) (eq_le _ _ (turned w (pos (nat_abs s))))
      where
        turned : (w m : ℤ) → w *ℤ m ≡ m *ℤ w
        turned w m = simp monomials

    left_plain : (w s : ℤ) → pos 0 ≤ℤ w → neg_ℤ (pos (nat_abs s) *ℤ w) ≤ℤ (w *ℤ s)
    left_plain w s hw = le_trans_z _ _ _ (eq_le _ _ (turned w (pos (nat_abs s)))) (times_le w _ _ hw (below s))
      where
        turned : (w m : ℤ) → neg_ℤ (m *ℤ w) ≡ w *ℤ neg_ℤ m
        turned w m = simp monomials

-- a point is as far from the line as one that is as low
pub beside_low : (n d : ℤ) (t : Edge) (p z : Point) → pos 0 ≤ℤ d → 0 < z.w → IsLow (pos (nat_abs (side t p))) (pos p.w) t z → IsBeside n d t z → IsBeside n d t p
beside_low n d t p z hd wide low h = record {
  far = le_cancelled (pos z.w *ℤ pos z.w) _ _ (times_positive (pos z.w) (pos z.w) (wide_z z.w wide) (wide_z z.w wide))
      (plain n d (reach t) (pos p.w) (pos z.w) (side t p) (side t z) (pos (nat_abs (side t p))) hd (even (side t p)) h.far low.left low.right);
}
  where
    even : (s : ℤ) → pos (nat_abs s) *ℤ pos (nat_abs s) ≡ s *ℤ s
    even (pos n) = refl
    even (negsuc n) = refl

    squares : (a b : ℤ) → neg_ℤ b ≤ℤ a → a ≤ℤ b → (a *ℤ a) ≤ℤ (b *ℤ b)
    squares a b h k = le_from ((b -ℤ a) *ℤ (b +ℤ a)) _ _ (simp monomials (omega (arith, ints))) (times_not_negative (b -ℤ a) (b +ℤ a) (up a b k) (down a b h))
      where
        up : (a b : ℤ) → a ≤ℤ b → pos 0 ≤ℤ (b -ℤ a)
        up a b h = omega (arith, ints)

        down : (a b : ℤ) → neg_ℤ b ≤ℤ a → pos 0 ≤ℤ (b +ℤ a)
        down a b h = omega (arith, ints)

    plain : (n d l w v s z m : ℤ) → pos 0 ≤ℤ d → m *ℤ m ≡ s *ℤ s → ((n *ℤ (v *ℤ v)) *ℤ l) ≤ℤ (d *ℤ (z *ℤ z)) → neg_ℤ (m *ℤ v) ≤ℤ (w *ℤ z) → (w *ℤ z) ≤ℤ (m *ℤ v)
        → ((v *ℤ v) *ℤ ((n *ℤ (w *ℤ w)) *ℤ l)) ≤ℤ ((v *ℤ v) *ℤ (d *ℤ (s *ℤ s)))
    plain n d l w v s z m hd e h low high =
        le_trans_z _ _ _ (eq_le _ _ (first n v w l)) (le_trans_z _ _ _ (times_le (w *ℤ w) _ _ (square_not_negative w) h)
        (le_trans_z _ _ _ (eq_le _ _ (second w d z)) (le_trans_z _ _ _ (times_le d _ _ hd (squares (w *ℤ z) (m *ℤ v) low high)) (eq_le _ _ (third d m v ∙ ap (λ (k : ℤ). (v *ℤ v) *ℤ (d *ℤ k)) e)))))
      where
        first : (n v w l : ℤ) → (v *ℤ v) *ℤ ((n *ℤ (w *ℤ w)) *ℤ l) ≡ (w *ℤ w) *ℤ ((n *ℤ (v *ℤ v)) *ℤ l)
        first n v w l = simp monomials

        second : (w d z : ℤ) → (w *ℤ w) *ℤ (d *ℤ (z *ℤ z)) ≡ d *ℤ ((w *ℤ z) *ℤ (w *ℤ z))
        second w d z = simp monomials

        third : (d m v : ℤ) → d *ℤ ((m *ℤ v) *ℤ (m *ℤ v)) ≡ (v *ℤ v) *ℤ (d *ℤ (m *ℤ m))
        third d m v = simp monomials

-- a point straight beside the first end of an edge
beside_start : (n d : ℤ) (t : Edge) (z : Point) → pos 0 ≤ℤ reach t → along t z ≡ pos 0 → IsFar n d z (at t.a) → IsBeside n d t z
beside_start n d t z long level h = record { far = plain n d (reach t) (pos z.w) (along t z) (side t z) (off z (at t.a)) long level (framed_start t z) h.far }
  where
    plain : (n d l w a s o : ℤ) → pos 0 ≤ℤ l → a ≡ pos 0 → l *ℤ o ≡ a *ℤ a +ℤ s *ℤ s → (n *ℤ ((w *ℤ pos 1) *ℤ (w *ℤ pos 1))) ≤ℤ (d *ℤ o) → ((n *ℤ (w *ℤ w)) *ℤ l) ≤ℤ (d *ℤ (s *ℤ s))
    plain n d l w a s o hl level e h = le_trans_z _ _ _ (eq_le _ _ (first n w l)) (le_trans_z _ _ _ (times_le l _ _ hl h) (eq_le _ _ (second l d o ∙ ap (λ (k : ℤ). d *ℤ k) (e ∙ third a s level))))
      where
        first : (n w l : ℤ) → (n *ℤ (w *ℤ w)) *ℤ l ≡ l *ℤ (n *ℤ ((w *ℤ pos 1) *ℤ (w *ℤ pos 1)))
        first n w l = simp monomials

        second : (l d o : ℤ) → l *ℤ (d *ℤ o) ≡ d *ℤ (l *ℤ o)
        second l d o = simp monomials

        third : (a s : ℤ) → a ≡ pos 0 → a *ℤ a +ℤ s *ℤ s ≡ s *ℤ s
        third a s h = rw h (simp monomials (omega (arith, ints)))

-- the foot of a point over an edge
abbrev pub foot : Edge → Point → Point
foot t p = divided t (along t p) (reach t)

-- over plain numbers: the foot of a point at the part a of l
foot_along : (r d ax ay bx by a l m : ℤ) → m ≡ l → r ≡ bx -ℤ ax → d ≡ by -ℤ ay → l ≡ r *ℤ r +ℤ d *ℤ d
    → r *ℤ ((l *ℤ ax -ℤ a *ℤ (ax -ℤ bx)) -ℤ m *ℤ ax) +ℤ d *ℤ ((l *ℤ ay -ℤ a *ℤ (ay -ℤ by)) -ℤ m *ℤ ay) ≡ a *ℤ l
foot_along r d ax ay bx by a l m em er ed el = rw em (one r d ax ay bx by a l ∙ ap (λ (k : ℤ). a *ℤ (r *ℤ k +ℤ d *ℤ (by -ℤ ay))) (sym er) ∙ ap (λ (k : ℤ). a *ℤ (r *ℤ r +ℤ d *ℤ k)) (sym ed) ∙ ap (λ (k : ℤ). a *ℤ k) (sym el))
  where
    one : (r d ax ay bx by a l : ℤ) → r *ℤ ((l *ℤ ax -ℤ a *ℤ (ax -ℤ bx)) -ℤ l *ℤ ax) +ℤ d *ℤ ((l *ℤ ay -ℤ a *ℤ (ay -ℤ by)) -ℤ l *ℤ ay)
        ≡ a *ℤ (r *ℤ (bx -ℤ ax) +ℤ d *ℤ (by -ℤ ay))
    one r d ax ay bx by a l = simp monomials (omega (arith, ints))

pub along-foot : (t : Edge) (p : Point) → pos 0 <ℤ reach t → along t (foot t p) ≡ along t p *ℤ reach t
along-foot t p long = foot_along (run t) (rise t) t.a.x t.a.y t.b.x t.b.y (along t p) (reach t) (pos (nat_abs (reach t))) (abs_positive (reach t) long) refl refl refl

foot_wide : (l : ℤ) → pos 0 <ℤ l → 0 < nat_abs l
foot_wide l h = omega (arith, ints)

pub wide_foot : (t : Edge) (p : Point) → pos 0 <ℤ reach t → 0 < (foot t p).w
wide_foot t p long = foot_wide (reach t) long

pub foot_on : (t : Edge) (p : Point) → pos 0 <ℤ reach t → pos 0 ≤ℤ along t p → along t p ≤ℤ reach t → is_on t (foot t p) ≡ true
foot_on t p long low high = divided_on t (along t p) (reach t) low high long

-- how far it is
pub off-foot : (t : Edge) (p : Point) → p.w ≡ 1 → pos 0 <ℤ reach t → pos 0 ≤ℤ along t p → along t p ≤ℤ reach t
    → off p (foot t p) ≡ reach t *ℤ (side t p *ℤ side t p)
off-foot t p one long low high =
    cancelled (reach t) _ _ long
    (framed_on t p (foot t p) (along_of t (foot t p) (wide_foot t p long) (foot_on t p long low high))
    ∙ plain (reach t) (along t p) (side t p) (pos p.w) (pos (nat_abs (reach t))) (along t (foot t p)) (width p.w one) (abs_positive (reach t) long) (along-foot t p long))
  where
    width : (w : ℕ) → w ≡ 1 → pos w ≡ pos 1
    width w h = ap pos h

    cancelled : (k a b : ℤ) → pos 0 <ℤ k → k *ℤ a ≡ k *ℤ b → a ≡ b
    cancelled k a b hk h = both a b (le_cancelled k a b hk (eq_le _ _ h)) (le_cancelled k b a hk (eq_le _ _ (sym h)))
      where
        both : (a b : ℤ) → a ≤ℤ b → b ≤ℤ a → a ≡ b
        both a b h k = omega (arith, ints)

    plain : (l a s w v b : ℤ) → w ≡ pos 1 → v ≡ l → b ≡ a *ℤ l → (v *ℤ a -ℤ w *ℤ b) *ℤ (v *ℤ a -ℤ w *ℤ b) +ℤ (v *ℤ s) *ℤ (v *ℤ s) ≡ l *ℤ (l *ℤ (s *ℤ s))
    plain l a s w v b hw hv hb = rw (hw, hv, hb) (ap (λ (k : ℤ). k *ℤ k +ℤ (l *ℤ s) *ℤ (l *ℤ s)) (none l a) ∙ last l s)
      where
        none : (l a : ℤ) → l *ℤ a -ℤ pos 1 *ℤ (a *ℤ l) ≡ pos 0
        none l a = simp monomials (omega (arith, ints))

        last : (l s : ℤ) → pos 0 *ℤ pos 0 +ℤ (l *ℤ s) *ℤ (l *ℤ s) ≡ l *ℤ (l *ℤ (s *ℤ s))
        last l s = simp monomials (omega (arith, ints))

-- a vertex over an edge is as far from its line as from its foot
pub beside_over : (n d : ℤ) (t : Edge) (p : Point) → p.w ≡ 1 → pos 0 <ℤ reach t → pos 0 ≤ℤ along t p → along t p ≤ℤ reach t
    → IsFar n d p (foot t p) → IsBeside n d t p
beside_over n d t p one long low high h = record {
  far = le_cancelled (reach t) _ _ long (plain n d (reach t) (side t p) (pos p.w) (pos (nat_abs (reach t))) (off p (foot t p)) (ap pos one) (abs_positive (reach t) long) (off-foot t p one long low high) h.far);
}
  where
    plain : (n d l s w v o : ℤ) → w ≡ pos 1 → v ≡ l → o ≡ l *ℤ (s *ℤ s) → (n *ℤ ((w *ℤ v) *ℤ (w *ℤ v))) ≤ℤ (d *ℤ o)
        → (l *ℤ ((n *ℤ (w *ℤ w)) *ℤ l)) ≤ℤ (l *ℤ (d *ℤ (s *ℤ s)))
    plain n d l s w v o hw hv ho h = le_trans_z _ _ _ (eq_le _ _ (first n l w v hw hv)) (le_trans_z _ _ _ h (eq_le _ _ (second d l s o ho)))
      where
        first : (n l w v : ℤ) → w ≡ pos 1 → v ≡ l → l *ℤ ((n *ℤ (w *ℤ w)) *ℤ l) ≡ n *ℤ ((w *ℤ v) *ℤ (w *ℤ v))
        first n l w v hw hv = rw (hw, hv) (simp monomials)

        second : (d l s o : ℤ) → o ≡ l *ℤ (s *ℤ s) → d *ℤ o ≡ l *ℤ (d *ℤ (s *ℤ s))
        second d l s o h = rw h (simp monomials)

-- between a point over an edge and one before its start is a point beside the start
module _ (n d : ℤ) (s t : Edge) (hd : pos 0 ≤ℤ d) (long_s : pos 0 <ℤ reach s) (long_t : pos 0 <ℤ reach t)
    (from_start : (p : Point) → 0 < p.w → is_on s p ≡ true → IsFar n d p (at t.a)) where
  pub toward_start : (p z : Point) → 0 < p.w → 0 < z.w → IsAlong s p → IsAlong s z → pos 0 <ℤ along t p → along t z ≤ℤ pos 0
      → IsLow (pos (nat_abs (side t p))) (pos p.w) t z → IsBeside n d t p
  toward_start p z wide_p wide_z is also over before low =
      beside_low n d t p (mix (nat_abs (along t z)) p (nat_abs (along t p)) z) hd wide
      (low_mix _ _ t (nat_abs (along t z)) p (nat_abs (along t p)) z (low_self t p) low)
      (beside_start n d t _ (weak _ _ long_t) level (from_start _ wide (on_of s _ long_s (mix_on s (nat_abs (along t z)) p (nat_abs (along t p)) z long_s is also))))
    where
      wide : 0 < nat_abs (along t z) * p.w + nat_abs (along t p) * z.w
      wide = plain (nat_abs (along t z) * p.w) (nat_abs (along t p)) z.w (foot_wide (along t p) over) wide_z
        where
          plain : (m a w : ℕ) → 0 < a → 0 < w → 0 < m + a * w
          plain m a w h k = let one : 1 * 1 ≤ a * w = mul-le 1 1 a w (omega arith) (omega arith) in omega (arith, one)

      level : along t (mix (nat_abs (along t z)) p (nat_abs (along t p)) z) ≡ pos 0
      level = along-mix t (nat_abs (along t z)) p (nat_abs (along t p)) z ∙ plain (along t p) (along t z) _ _ (abs_positive (along t p) over) (turned (along t z) before)
        where
          turned : (a : ℤ) → a ≤ℤ pos 0 → pos (nat_abs a) ≡ neg_ℤ a
          turned a h = omega (arith, ints)

          plain : (a b m k : ℤ) → m ≡ a → k ≡ neg_ℤ b → k *ℤ a +ℤ m *ℤ b ≡ pos 0
          plain a b m k h l = rw (h, l) (simp monomials (omega (arith, ints)))
