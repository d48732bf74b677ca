-- Two edges that share no point are no nearer than an end of one of them and the other.
use Rattle.std.proofs.Common.{◌≡◌, ◌≢◌, ◌*◌, ◌+◌, ◌<◌, ℕ, arith, ap, ◌∙◌, sym, true, refl, subst}
use Rattle.std.specs.Prelude.{ℤ, pos, ◌+ℤ◌, ◌-ℤ◌, ◌*ℤ◌, neg_ℤ, ◌≤ℤ◌, ◌<ℤ◌, nat_abs}
use Rattle.std.proofs.lemmas.Int.{ints, by_lt_z}
use Rattle.plane_core.specs.declared.edge.Edge.{Edge}
use Rattle.plane_core.specs.declared.vertex.Vertex.{Vertex}
use Rattle.plane_core.specs.Points.{Point, at, side, run, rise, turn_of, is_on, mix}
use Rattle.plane_core.specs.Meetings.{HaveNoMeeting}
use Rattle.plane_core.proofs.CrossingLemmas.{side_last}
use Rattle.plane_core.proofs.Ring.{monomials}
use Rattle.plane_core.proofs.Signs.{times_not_negative, times_positive, weak}
use Rattle.distance_core.specs.Frames.{along, reach}
use Rattle.distance_core.proofs.RingLemmas.{le_trans_z, times_le, square_not_negative}
use Rattle.distance_core.proofs.FrameLemmas.{IsAlong, along_of, on_of, side-mix, mix_on, flip, reach-flip, side-flip, along-flip, along_flipped, back_x, back_y}
use Rattle.distance_core.proofs.FarLemmas.{IsFar, far_turned, far_place, along-start, side-start, far_before, far_beyond, place_of_flat}
use Rattle.distance_core.proofs.EdgeLemmas.{IsBeside, far_beside, IsLow, beside_low, beside_over, toward_start, foot, foot_on, wide_foot}

-- the ends of an edge are along it
pub start_along : (e : Edge) → pos 0 ≤ℤ reach e → IsAlong e (at e.a)
start_along e long = record { level = side-start e; from = plain _ (along-start e); to = other _ _ (along-start e) long }
  where
    plain : (a : ℤ) → a ≡ pos 0 → pos 0 ≤ℤ a
    plain a h = omega (arith, ints)

    other : (a l : ℤ) → a ≡ pos 0 → pos 0 ≤ℤ l → a ≤ℤ (pos 1 *ℤ l)
    other a l h k = omega (arith, ints)

pub end_along : (e : Edge) → pos 0 ≤ℤ reach e → IsAlong e (at e.b)
end_along e long = along_flipped (flip e) (at e.b) (start_along (flip e) (rw (reach-flip e) long))

-- the side of a point of one edge to another is between those of the ends
pub side_between : (s t : Edge) (p : Point) → side s p ≡ pos 0
    → reach s *ℤ side t p ≡ (pos p.w *ℤ reach s -ℤ along s p) *ℤ side t (at s.a) +ℤ along s p *ℤ side t (at s.b)
side_between s t p level =
    first (run t) (rise t) t.a.x t.a.y p.x p.y (pos p.w) s.a.x s.a.y (reach s)
    ∙ ap (λ (k : ℤ). (run t *ℤ k -ℤ rise t *ℤ (reach s *ℤ (p.x -ℤ pos p.w *ℤ s.a.x))) +ℤ (pos p.w *ℤ reach s) *ℤ side t (at s.a)) (back_y s p ∙ no_more (rise s *ℤ along s p) (run s) (side s p) level)
    ∙ ap (λ (k : ℤ). (run t *ℤ (rise s *ℤ along s p) -ℤ rise t *ℤ k) +ℤ (pos p.w *ℤ reach s) *ℤ side t (at s.a)) (back_x s p ∙ no_less (run s *ℤ along s p) (rise s) (side s p) level)
    ∙ last (run t) (rise t) t.a.x t.a.y (along s p) (pos p.w *ℤ reach s) s.a.x s.a.y s.b.x s.b.y
  where
    no_more : (m r s : ℤ) → s ≡ pos 0 → m +ℤ r *ℤ s ≡ m
    no_more m r s h = rw h (simp monomials (omega (arith, ints)))

    no_less : (m r s : ℤ) → s ≡ pos 0 → m -ℤ r *ℤ s ≡ m
    no_less m r s h = rw h (simp monomials (omega (arith, ints)))

    first : (r d h k x y w a b l : ℤ) → l *ℤ (r *ℤ (y -ℤ w *ℤ k) -ℤ d *ℤ (x -ℤ w *ℤ h))
        ≡ (r *ℤ (l *ℤ (y -ℤ w *ℤ b)) -ℤ d *ℤ (l *ℤ (x -ℤ w *ℤ a))) +ℤ (w *ℤ l) *ℤ (r *ℤ (b -ℤ pos 1 *ℤ k) -ℤ d *ℤ (a -ℤ pos 1 *ℤ h))
    first r d h k x y w a b l = simp monomials (omega (arith, ints))

    last : (r d h k t m a b c e : ℤ) → (r *ℤ ((e -ℤ b) *ℤ t) -ℤ d *ℤ ((c -ℤ a) *ℤ t)) +ℤ m *ℤ (r *ℤ (b -ℤ pos 1 *ℤ k) -ℤ d *ℤ (a -ℤ pos 1 *ℤ h))
        ≡ (m -ℤ t) *ℤ (r *ℤ (b -ℤ pos 1 *ℤ k) -ℤ d *ℤ (a -ℤ pos 1 *ℤ h)) +ℤ t *ℤ (r *ℤ (e -ℤ pos 1 *ℤ k) -ℤ d *ℤ (c -ℤ pos 1 *ℤ h))
    last r d h k t m a b c e = simp monomials (omega (arith, ints))

-- how high an end is: as low as a point, or above it on the left, or on the right
by_low : {C : Type 0} (m w : ℤ) (t : Edge) (v : Vertex) → (IsLow m w t (at v) → C) → ((w *ℤ side t (at v)) <ℤ neg_ℤ m → C) → (m <ℤ (w *ℤ side t (at v)) → C) → C
by_low m w t v low right left =
    by_lt_z (w *ℤ side t (at v)) (neg_ℤ m) right
    (λ h. by_lt_z m (w *ℤ side t (at v)) left (λ k. low (record { left = first m _ h; right = second m _ k })))
  where
    first : (m s : ℤ) → neg_ℤ m ≤ℤ s → neg_ℤ (m *ℤ pos 1) ≤ℤ s
    first m s h = omega (arith, ints)

    second : (m s : ℤ) → s ≤ℤ m → s ≤ℤ (m *ℤ pos 1)
    second m s h = omega (arith, ints)

-- numbers that are both greater than a third have a greater mean
mean_greater : (m s t a b : ℤ) → pos 0 ≤ℤ s → pos 0 ≤ℤ t → pos 0 <ℤ (s +ℤ t) → m <ℤ a → m <ℤ b → ((s +ℤ t) *ℤ m) <ℤ (s *ℤ a +ℤ t *ℤ b)
mean_greater m s t a b hs ht h ha hb = lt_from (s *ℤ (a -ℤ m -ℤ pos 1) +ℤ t *ℤ (b -ℤ m -ℤ pos 1)) _ _ (s +ℤ t) ring
    (sum _ _ (times_not_negative s _ hs (more m a ha)) (times_not_negative t _ ht (more m b hb))) h
  where
    ring : s *ℤ (a -ℤ m -ℤ pos 1) +ℤ t *ℤ (b -ℤ m -ℤ pos 1) ≡ (s *ℤ a +ℤ t *ℤ b) -ℤ (s +ℤ t) *ℤ m -ℤ (s +ℤ t)
    ring = simp monomials (omega (arith, ints))

    more : (m a : ℤ) → m <ℤ a → pos 0 ≤ℤ (a -ℤ m -ℤ pos 1)
    more m a h = omega (arith, ints)

    sum : (m n : ℤ) → pos 0 ≤ℤ m → pos 0 ≤ℤ n → pos 0 ≤ℤ (m +ℤ n)
    sum m n h k = omega (arith, ints)

    lt_from : (z m n k : ℤ) → z ≡ n -ℤ m -ℤ k → pos 0 ≤ℤ z → pos 0 <ℤ k → m <ℤ n
    lt_from z m n k e h l = omega (arith, ints)

-- so a point of an edge isn't lower than both ends, on one side
not_both : (l w a c m u v : ℤ) → pos 0 <ℤ l → pos 0 <ℤ w → l *ℤ c ≡ (w *ℤ l -ℤ a) *ℤ u +ℤ a *ℤ v → pos 0 ≤ℤ a → a ≤ℤ (w *ℤ l)
    → c ≤ℤ m → m <ℤ (w *ℤ u) → m <ℤ (w *ℤ v) → ⊥
not_both l w a c m u v hl hw e low high top hu hv =
    clash _ _ (mean_greater m (w *ℤ l -ℤ a) a (w *ℤ u) (w *ℤ v) (rest a (w *ℤ l) high) low (whole a (w *ℤ l) (times_positive w l hw hl)) hu hv)
    (le_trans_z _ _ _ (eq_le _ _ (sym (ring w (w *ℤ l -ℤ a) a u v) ∙ ap (λ (k : ℤ). w *ℤ k) (sym e) ∙ turned w l c)) (le_trans_z _ _ _ (times_le (w *ℤ l) c m (weak _ _ (times_positive w l hw hl)) top) (eq_le _ _ (same a (w *ℤ l) m))))
  where
    eq_le : (m n : ℤ) → m ≡ n → m ≤ℤ n
    eq_le m n h = omega (arith, ints)

    rest : (a k : ℤ) → a ≤ℤ k → pos 0 ≤ℤ (k -ℤ a)
    rest a k h = omega (arith, ints)

    whole : (a k : ℤ) → pos 0 <ℤ k → pos 0 <ℤ ((k -ℤ a) +ℤ a)
    whole a k h = omega (arith, ints)

    ring : (w s t u v : ℤ) → w *ℤ (s *ℤ u +ℤ t *ℤ v) ≡ s *ℤ (w *ℤ u) +ℤ t *ℤ (w *ℤ v)
    ring w s t u v = simp monomials (omega (arith, ints))

    turned : (w l c : ℤ) → w *ℤ (l *ℤ c) ≡ (w *ℤ l) *ℤ c
    turned w l c = simp monomials

    same : (a k m : ℤ) → k *ℤ m ≡ ((k -ℤ a) +ℤ a) *ℤ m
    same a k m = simp monomials (omega (arith, ints))

    clash : (m n : ℤ) → m <ℤ n → n ≤ℤ m → ⊥
    clash m n h k = omega (arith, ints)

not_both_negative : (l w a c m u v : ℤ) → pos 0 <ℤ l → pos 0 <ℤ w → l *ℤ c ≡ (w *ℤ l -ℤ a) *ℤ u +ℤ a *ℤ v → pos 0 ≤ℤ a → a ≤ℤ (w *ℤ l)
    → neg_ℤ m ≤ℤ c → (w *ℤ u) <ℤ neg_ℤ m → (w *ℤ v) <ℤ neg_ℤ m → ⊥
not_both_negative l w a c m u v hl hw e low high top hu hv =
    not_both l w a (neg_ℤ c) m (neg_ℤ u) (neg_ℤ v) hl hw (first l c ∙ ap neg_ℤ e ∙ second (w *ℤ l -ℤ a) u a v) low high (turned m c top) (over w u m hu) (over w v m hv)
  where
    first : (l c : ℤ) → l *ℤ neg_ℤ c ≡ neg_ℤ (l *ℤ c)
    first l c = simp monomials

    second : (s u t v : ℤ) → neg_ℤ (s *ℤ u +ℤ t *ℤ v) ≡ s *ℤ neg_ℤ u +ℤ t *ℤ neg_ℤ v
    second s u t v = simp monomials (omega (arith, ints))

    turned : (m c : ℤ) → neg_ℤ m ≤ℤ c → neg_ℤ c ≤ℤ m
    turned m c h = omega (arith, ints)

    above : (m z : ℤ) → z <ℤ neg_ℤ m → m <ℤ neg_ℤ z
    above m z h = omega (arith, ints)

    over : (w u m : ℤ) → (w *ℤ u) <ℤ neg_ℤ m → m <ℤ (w *ℤ neg_ℤ u)
    over w u m h = subst (λ (k : ℤ). m <ℤ k) (sym (first w u)) (above m _ h)

-- the point of an edge on the line of another that its ends are on different sides of
abbrev pub crossing : Edge → Edge → Point
crossing s t = mix (nat_abs (side t (at s.b))) (at s.a) (nat_abs (side t (at s.a))) (at s.b)

crossing_level : (s t : Edge) → pos (nat_abs (side t (at s.b))) *ℤ side t (at s.a) +ℤ pos (nat_abs (side t (at s.a))) *ℤ side t (at s.b) ≡ pos 0 → side t (crossing s t) ≡ pos 0
crossing_level s t h = side-mix t (nat_abs (side t (at s.b))) (at s.a) (nat_abs (side t (at s.a))) (at s.b) ∙ h

opposite_sides : (u v : ℤ) → u <ℤ pos 0 → pos 0 <ℤ v → pos (nat_abs v) *ℤ u +ℤ pos (nat_abs u) *ℤ v ≡ pos 0
opposite_sides u v h k = plain u v _ _ (up v k) (down u h)
  where
    up : (v : ℤ) → pos 0 <ℤ v → pos (nat_abs v) ≡ v
    up v h = omega (arith, ints)

    down : (u : ℤ) → u <ℤ pos 0 → pos (nat_abs u) ≡ neg_ℤ u
    down u h = omega (arith, ints)

    plain : (u v m n : ℤ) → m ≡ v → n ≡ neg_ℤ u → m *ℤ u +ℤ n *ℤ v ≡ pos 0
    plain u v m n h k = rw (h, k) (simp monomials (omega (arith, ints)))

opposite_turned : (u v : ℤ) → pos 0 <ℤ u → v <ℤ pos 0 → pos (nat_abs v) *ℤ u +ℤ pos (nat_abs u) *ℤ v ≡ pos 0
opposite_turned u v h k = turned (pos (nat_abs u) *ℤ v) (pos (nat_abs v) *ℤ u) (opposite_sides v u k h)
  where
    turned : (m n : ℤ) → m +ℤ n ≡ pos 0 → n +ℤ m ≡ pos 0
    turned m n h = omega (arith, ints)

pub by_zero : {C : Type 0} (z : ℤ) → pos 0 ≤ℤ z → (z ≡ pos 0 → C) → (pos 0 <ℤ z → C) → C
by_zero z h none some = by_lt_z (pos 0) z some (λ k. none (same z h k))
  where
    same : (z : ℤ) → pos 0 ≤ℤ z → z ≤ℤ pos 0 → z ≡ pos 0
    same z h k = omega (arith, ints)

pub reach_not_negative : (e : Edge) → pos 0 ≤ℤ reach e
reach_not_negative e = sum _ _ (square_not_negative (run e)) (square_not_negative (rise e))
  where
    sum : (m n : ℤ) → pos 0 ≤ℤ m → pos 0 ≤ℤ n → pos 0 ≤ℤ (m +ℤ n)
    sum m n h k = omega (arith, ints)

-- what is known of the ends of two edges
pub record AreEndsFar (n d : ℤ) (s t : Edge) : Type 0 where
  pub start : (q : Point) → 0 < q.w → is_on t q ≡ true → IsFar n d (at s.a) q
  pub end : (q : Point) → 0 < q.w → is_on t q ≡ true → IsFar n d (at s.b) q
  pub from_start : (p : Point) → 0 < p.w → is_on s p ≡ true → IsFar n d p (at t.a)
  pub from_end : (p : Point) → 0 < p.w → is_on s p ≡ true → IsFar n d p (at t.b)

module _ (n d : ℤ) (s t : Edge) (hd : pos 0 ≤ℤ d) (ends : AreEndsFar n d s t)
    (apart : HaveNoMeeting s t)
    (long_s : pos 0 <ℤ reach s) (long_t : pos 0 <ℤ reach t)
    (p : Point) (wide : 0 < p.w) (is : IsAlong s p) (over : pos 0 <ℤ along t p) (within : along t p <ℤ (pos p.w *ℤ reach t)) where
  abbrev m : ℤ
  m = pos (nat_abs (side t p))

  -- by a point of the edge that is as low, and is not over the other edge, or is over it so far
  by_point : (z : Point) → 0 < z.w → IsAlong s z → IsLow m (pos p.w) t z → (pos 0 ≤ℤ along t z → along t z ≤ℤ (pos z.w *ℤ reach t) → IsBeside n d t p) → IsBeside n d t p
  by_point z wide_z also low between =
      by_lt_z (along t z) (pos 0)
      (λ before. toward_start n d s t hd long_s long_t ends.from_start p z wide wide_z is also over (weak _ _ before) low)
      (λ from. by_lt_z (pos z.w *ℤ reach t) (along t z)
      (λ beyond. unflipped (toward_start n d s (flip t) hd long_s (rw (reach-flip t) long_t) ends.from_end p z wide wide_z is also
      (rw (along-flip t p) (rest _ _ within)) (rw (along-flip t z) (none _ _ beyond)) (flipped low)))
      (λ to. between from to))
    where
      rest : (a k : ℤ) → a <ℤ k → pos 0 <ℤ (k -ℤ a)
      rest a k h = omega (arith, ints)

      none : (a k : ℤ) → k <ℤ a → (k -ℤ a) ≤ℤ pos 0
      none a k h = omega (arith, ints)

      abs-neg : (k : ℤ) → pos (nat_abs (neg_ℤ k)) ≡ pos (nat_abs k)
      abs-neg k = omega (arith, ints)

      flipped : IsLow m (pos p.w) t z → IsLow (pos (nat_abs (side (flip t) p))) (pos p.w) (flip t) z
      flipped h = record {
        left = left_plain m _ (pos p.w) (pos z.w) (side t z) _ (ap (λ (k : ℤ). pos (nat_abs k)) (side-flip t p) ∙ abs-neg (side t p)) (side-flip t z) h.right;
        right = right_plain m _ (pos p.w) (pos z.w) (side t z) _ (ap (λ (k : ℤ). pos (nat_abs k)) (side-flip t p) ∙ abs-neg (side t p)) (side-flip t z) h.left;
      }
        where
          times-neg : (w k : ℤ) → w *ℤ neg_ℤ k ≡ neg_ℤ (w *ℤ k)
          times-neg w k = simp monomials

          down : (a b c : ℤ) → c ≡ neg_ℤ a → a ≤ℤ b → neg_ℤ b ≤ℤ c
          down a b c e h = omega (arith, ints)

          up : (a b c : ℤ) → c ≡ neg_ℤ a → neg_ℤ b ≤ℤ a → c ≤ℤ b
          up a b c e h = omega (arith, ints)

          left_plain : (m k w v u x : ℤ) → k ≡ m → x ≡ neg_ℤ u → (w *ℤ u) ≤ℤ (m *ℤ v) → neg_ℤ (k *ℤ v) ≤ℤ (w *ℤ x)
          left_plain m k w v u x hk hx h = rw hk (down (w *ℤ u) (m *ℤ v) (w *ℤ x) (ap (λ (y : ℤ). w *ℤ y) hx ∙ times-neg w u) h)

          right_plain : (m k w v u x : ℤ) → k ≡ m → x ≡ neg_ℤ u → neg_ℤ (m *ℤ v) ≤ℤ (w *ℤ u) → (w *ℤ x) ≤ℤ (k *ℤ v)
          right_plain m k w v u x hk hx h = rw hk (up (w *ℤ u) (m *ℤ v) (w *ℤ x) (ap (λ (y : ℤ). w *ℤ y) hx ∙ times-neg w u) h)

      unflipped : IsBeside n d (flip t) p → IsBeside n d t p
      unflipped h = record { far = plain (n *ℤ (pos p.w *ℤ pos p.w)) d (reach t) _ (side t p) _ (reach-flip t) (side-flip t p) h.far }
        where
          even : (k : ℤ) → neg_ℤ k *ℤ neg_ℤ k ≡ k *ℤ k
          even k = simp monomials (omega (arith, ints))

          plain : (a d l k u x : ℤ) → k ≡ l → x ≡ neg_ℤ u → (a *ℤ k) ≤ℤ (d *ℤ (x *ℤ x)) → (a *ℤ l) ≤ℤ (d *ℤ (u *ℤ u))
          plain a d l k u x hk hx h = subst (λ (y : ℤ). (a *ℤ y) ≤ℤ (d *ℤ (u *ℤ u))) hk (subst (λ (y : ℤ). (a *ℤ k) ≤ℤ (d *ℤ y)) (ap (λ (y : ℤ). y *ℤ y) hx ∙ even u) h)

  -- an end over the other edge is as far from it as its foot
  over_start : IsLow m (pos p.w) t (at s.a) → IsBeside n d t p
  over_start low = by_point (at s.a) (omega arith) (start_along s (weak _ _ long_s)) low
      (λ from to. beside_low n d t p (at s.a) hd (omega arith) low
      (beside_over n d t (at s.a) refl long_t from (one _ _ to) (ends.start (foot t (at s.a)) (wide_foot t (at s.a) long_t) (foot_on t (at s.a) long_t from (one _ _ to)))))
    where
      one : (a l : ℤ) → a ≤ℤ (pos 1 *ℤ l) → a ≤ℤ l
      one a l h = omega (arith, ints)

  over_end : IsLow m (pos p.w) t (at s.b) → IsBeside n d t p
  over_end low = by_point (at s.b) (omega arith) (end_along s (weak _ _ long_s)) low
      (λ from to. beside_low n d t p (at s.b) hd (omega arith) low
      (beside_over n d t (at s.b) refl long_t from (one _ _ to) (ends.end (foot t (at s.b)) (wide_foot t (at s.b) long_t) (foot_on t (at s.b) long_t from (one _ _ to)))))
    where
      one : (a l : ℤ) → a ≤ℤ (pos 1 *ℤ l) → a ≤ℤ l
      one a l h = omega (arith, ints)

  -- a point of both lines is on one of the edges alone
  at_crossing : turn_of s t ≢ pos 0 → side t (crossing s t) ≡ pos 0 → 0 < (crossing s t).w → IsBeside n d t p
  at_crossing turning level wide_x = by_point (crossing s t) wide_x also low
      (λ from to. absurd (apart.none (crossing s t) wide_x (record {
        turning = turning;
        first = on_of s (crossing s t) long_s also;
        second = on_of t (crossing s t) long_t (record { level = level; from = from; to = to });
      })))
    where
      also : IsAlong s (crossing s t)
      also = mix_on s (nat_abs (side t (at s.b))) (at s.a) (nat_abs (side t (at s.a))) (at s.b) long_s (start_along s (weak _ _ long_s)) (end_along s (weak _ _ long_s))

      not_negative : (k : ℕ) → pos 0 ≤ℤ pos k
      not_negative k = omega (arith, ints)

      low : IsLow m (pos p.w) t (crossing s t)
      low = record {
        left = left_plain (pos p.w) _ _ level (times_not_negative m (pos (crossing s t).w) (not_negative (nat_abs (side t p))) (not_negative (crossing s t).w));
        right = right_plain (pos p.w) _ _ level (times_not_negative m (pos (crossing s t).w) (not_negative (nat_abs (side t p))) (not_negative (crossing s t).w));
      }
        where
          left_plain : (w z k : ℤ) → z ≡ pos 0 → pos 0 ≤ℤ k → neg_ℤ k ≤ℤ (w *ℤ z)
          left_plain w z k h l = rw h (omega (arith, ints))

          right_plain : (w z k : ℤ) → z ≡ pos 0 → pos 0 ≤ℤ k → (w *ℤ z) ≤ℤ k
          right_plain w z k h l = rw h (omega (arith, ints))

  -- the ends on different sides of the line, and off it
  by_sides : (side t (at s.a) -ℤ side t (at s.b) ≢ pos 0) → (0 < nat_abs (side t (at s.a))) → pos (nat_abs (side t (at s.b))) *ℤ side t (at s.a) +ℤ pos (nat_abs (side t (at s.a))) *ℤ side t (at s.b) ≡ pos 0 → IsBeside n d t p
  by_sides differ some level = at_crossing (λ flat. differ (turned (side t (at s.a)) _ _ (side_last s t) flat)) (crossing_level s t level) (wide_plain (nat_abs (side t (at s.b))) (nat_abs (side t (at s.a))) some)
    where
      turned : (u v k : ℤ) → v ≡ u -ℤ k → k ≡ pos 0 → u -ℤ v ≡ pos 0
      turned u v k e h = omega (arith, ints)

      wide_plain : (a b : ℕ) → 0 < b → 0 < a * 1 + b * 1
      wide_plain a b h = omega arith

  low_side : (u : ℤ) → (pos p.w *ℤ u) <ℤ neg_ℤ m → u <ℤ pos 0
  low_side u h = by_lt_z u (pos 0) (λ yes. yes) (λ no. absurd (plain (nat_abs (side t p)) _ h (times_not_negative (pos p.w) u (omega (arith, ints)) no)))
    where
      plain : (k : ℕ) (z : ℤ) → z <ℤ neg_ℤ (pos k) → pos 0 ≤ℤ z → ⊥
      plain k z h l = omega (arith, ints)

  high_side : (u : ℤ) → m <ℤ (pos p.w *ℤ u) → pos 0 <ℤ u
  high_side u h = by_lt_z (pos 0) u (λ yes. yes) (λ no. absurd (plain (nat_abs (side t p)) _ _ h (times_not_negative (pos p.w) (neg_ℤ u) (omega (arith, ints)) (up u no)) (turned (pos p.w) u)))
    where
      up : (u : ℤ) → u ≤ℤ pos 0 → pos 0 ≤ℤ neg_ℤ u
      up u h = omega (arith, ints)

      turned : (w u : ℤ) → w *ℤ neg_ℤ u ≡ neg_ℤ (w *ℤ u)
      turned w u = simp monomials

      plain : (k : ℕ) (z y : ℤ) → pos k <ℤ z → pos 0 ≤ℤ y → y ≡ neg_ℤ z → ⊥
      plain k z y h l e = omega (arith, ints)

  pub beside_all : IsBeside n d t p
  beside_all = by_low m (pos p.w) t s.a over_start
      (λ right. by_low m (pos p.w) t s.b over_end
      (λ same. absurd (not_both_negative (reach s) (pos p.w) (along s p) (side t p) m _ _ long_s wide_z (side_between s t p is.level) is.from is.to (below (side t p)) right same))
      (λ left. let u = low_side (side t (at s.a)) right in let v = high_side (side t (at s.b)) left in by_sides (apart_up _ _ u v) (some_low _ u) (opposite_sides _ _ u v)))
      (λ left. by_low m (pos p.w) t s.b over_end
      (λ right. let u = high_side (side t (at s.a)) left in let v = low_side (side t (at s.b)) right in by_sides (apart_down _ _ u v) (some_high _ u) (opposite_turned _ _ u v))
      (λ same. absurd (not_both (reach s) (pos p.w) (along s p) (side t p) m _ _ long_s wide_z (side_between s t p is.level) is.from is.to (above (side t p)) left same)))
    where
      wide_z : pos 0 <ℤ pos p.w
      wide_z = omega (arith, ints)

      above : (k : ℤ) → k ≤ℤ pos (nat_abs k)
      above k = omega (arith, ints)

      below : (k : ℤ) → neg_ℤ (pos (nat_abs k)) ≤ℤ k
      below k = omega (arith, ints)

      apart_up : (u v : ℤ) → u <ℤ pos 0 → pos 0 <ℤ v → u -ℤ v ≢ pos 0
      apart_up u v h k e = omega (arith, ints)

      apart_down : (u v : ℤ) → pos 0 <ℤ u → v <ℤ pos 0 → u -ℤ v ≢ pos 0
      apart_down u v h k e = omega (arith, ints)

      some_low : (u : ℤ) → u <ℤ pos 0 → 0 < nat_abs u
      some_low u h = omega (arith, ints)

      some_high : (u : ℤ) → pos 0 <ℤ u → 0 < nat_abs u
      some_high u h = omega (arith, ints)

-- two edges without a meeting are as far apart as their ends
pub edges_far : (n d : ℤ) (s t : Edge) → pos 0 ≤ℤ d → AreEndsFar n d s t → HaveNoMeeting s t
    → (p q : Point) → 0 < p.w → 0 < q.w → is_on s p ≡ true → is_on t q ≡ true → IsFar n d p q
edges_far n d s t hd ends apart p q wide_p wide_q on_s on_t =
    by_zero (reach t) (reach_not_negative t)
    (λ flat. far_turned n d q p (far_place n d t.a q p (place_of_flat t q flat on_t) (far_turned n d p (at t.a) (ends.from_start p wide_p on_s))))
    (λ long_t. by_zero (reach s) (reach_not_negative s)
    (λ flat. far_place n d s.a p q (place_of_flat s p flat on_s) (ends.start q wide_q on_t))
    (λ long_s. by_lt_z (pos 0) (along t p)
    (λ over. by_lt_z (along t p) (pos p.w *ℤ reach t)
    (λ within. far_beside n d t p q hd long_t (along_of t q wide_q on_t) (beside_all n d s t hd ends apart long_s long_t p wide_p (along_of s p wide_p on_s) over within))
    (λ beyond. far_beyond n d t p q wide_q hd long_t (along_of t q wide_q on_t) beyond (ends.from_end p wide_p on_s)))
    (λ before. far_before n d t p q wide_q hd long_t (along_of t q wide_q on_t) before (ends.from_start p wide_p on_s))))
