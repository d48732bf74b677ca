-- Points in the frame of an edge: along it and beside it.
use Rattle.std.proofs.Common.{◌≡◌, ◌*◌, ◌+◌, ◌<◌, ℕ, arith, ap, ◌∙◌, sym, true, refl}
use Rattle.std.specs.Prelude.{ℤ, pos, ◌+ℤ◌, ◌-ℤ◌, ◌*ℤ◌, neg_ℤ, ◌≤ℤ◌, ◌<ℤ◌, int_le, Bool, ◌&&◌, ◌||◌}
use Rattle.std.specs.Ordering.{int_eq}
use Rattle.std.proofs.lemmas.Int.{ints, by_lt_z}
use Rattle.plane_core.specs.declared.edge.Edge.{Edge}
use Rattle.plane_core.specs.Points.{Point, side, run, rise, is_on, mix}
use Rattle.plane_core.proofs.Ring.{monomials}
use Rattle.plane_core.proofs.Signs.{times_not_negative, not_negative_factor, weak, wide_z}
use Rattle.plane_core.proofs.CrossingLemmas.{level_of, along_x_of, along_y_of}
use Rattle.distance_core.specs.Frames.{along, reach}
use Rattle.distance_core.proofs.RingLemmas.{le_from}

-- the differences of two points, at the scale of both
abbrev pub off_x : Point → Point → ℤ
off_x p q = p.x *ℤ pos q.w -ℤ q.x *ℤ pos p.w

abbrev pub off_y : Point → Point → ℤ
off_y p q = p.y *ℤ pos q.w -ℤ q.y *ℤ pos p.w

-- their squared distance, at that scale squared
abbrev pub off : Point → Point → ℤ
off p q = off_x p q *ℤ off_x p q +ℤ off_y p q *ℤ off_y p q

abbrev pub along_off : Edge → Point → Point → ℤ
along_off e p q = pos q.w *ℤ along e p -ℤ pos p.w *ℤ along e q

abbrev pub side_off : Edge → Point → Point → ℤ
side_off e p q = pos q.w *ℤ side e p -ℤ pos p.w *ℤ side e q

lagrange : (r d x y : ℤ) → (r *ℤ r +ℤ d *ℤ d) *ℤ (x *ℤ x +ℤ y *ℤ y) ≡ (r *ℤ x +ℤ d *ℤ y) *ℤ (r *ℤ x +ℤ d *ℤ y) +ℤ (r *ℤ y -ℤ d *ℤ x) *ℤ (r *ℤ y -ℤ d *ℤ x)
lagrange r d x y = simp monomials (omega (arith, ints))

along_off-is : (e : Edge) (p q : Point) → run e *ℤ off_x p q +ℤ rise e *ℤ off_y p q ≡ along_off e p q
along_off-is e p q = plain (run e) (rise e) e.a.x e.a.y p.x p.y (pos p.w) q.x q.y (pos q.w)
  where
    plain : (r d a b x y w z u v : ℤ) → r *ℤ (x *ℤ v -ℤ z *ℤ w) +ℤ d *ℤ (y *ℤ v -ℤ u *ℤ w)
        ≡ v *ℤ (r *ℤ (x -ℤ w *ℤ a) +ℤ d *ℤ (y -ℤ w *ℤ b)) -ℤ w *ℤ (r *ℤ (z -ℤ v *ℤ a) +ℤ d *ℤ (u -ℤ v *ℤ b))
    plain r d a b x y w z u v = simp monomials (omega (arith, ints))

side_off-is : (e : Edge) (p q : Point) → run e *ℤ off_y p q -ℤ rise e *ℤ off_x p q ≡ side_off e p q
side_off-is e p q = plain (run e) (rise e) e.a.x e.a.y p.x p.y (pos p.w) q.x q.y (pos q.w)
  where
    plain : (r d a b x y w z u v : ℤ) → r *ℤ (y *ℤ v -ℤ u *ℤ w) -ℤ d *ℤ (x *ℤ v -ℤ z *ℤ w)
        ≡ v *ℤ (r *ℤ (y -ℤ w *ℤ b) -ℤ d *ℤ (x -ℤ w *ℤ a)) -ℤ w *ℤ (r *ℤ (u -ℤ v *ℤ b) -ℤ d *ℤ (z -ℤ v *ℤ a))
    plain r d a b x y w z u v = simp monomials (omega (arith, ints))

-- a squared distance by the differences along and beside an edge
pub framed : (e : Edge) (p q : Point) → reach e *ℤ off p q ≡ along_off e p q *ℤ along_off e p q +ℤ side_off e p q *ℤ side_off e p q
framed e p q =
    lagrange (run e) (rise e) (off_x p q) (off_y p q)
    ∙ ap (λ (z : ℤ). z *ℤ z +ℤ (run e *ℤ off_y p q -ℤ rise e *ℤ off_x p q) *ℤ (run e *ℤ off_y p q -ℤ rise e *ℤ off_x p q)) (along_off-is e p q)
    ∙ ap (λ (z : ℤ). along_off e p q *ℤ along_off e p q +ℤ z *ℤ z) (side_off-is e p q)

-- and back: the coordinates by those of the frame
pub back_x : (e : Edge) (p : Point) → reach e *ℤ (p.x -ℤ pos p.w *ℤ e.a.x) ≡ run e *ℤ along e p -ℤ rise e *ℤ side e p
back_x e p = plain (run e) (rise e) (p.x -ℤ pos p.w *ℤ e.a.x) (p.y -ℤ pos p.w *ℤ e.a.y)
  where
    plain : (r d x y : ℤ) → (r *ℤ r +ℤ d *ℤ d) *ℤ x ≡ r *ℤ (r *ℤ x +ℤ d *ℤ y) -ℤ d *ℤ (r *ℤ y -ℤ d *ℤ x)
    plain r d x y = simp monomials (omega (arith, ints))

pub back_y : (e : Edge) (p : Point) → reach e *ℤ (p.y -ℤ pos p.w *ℤ e.a.y) ≡ rise e *ℤ along e p +ℤ run e *ℤ side e p
back_y e p = plain (run e) (rise e) (p.x -ℤ pos p.w *ℤ e.a.x) (p.y -ℤ pos p.w *ℤ e.a.y)
  where
    plain : (r d x y : ℤ) → (r *ℤ r +ℤ d *ℤ d) *ℤ y ≡ d *ℤ (r *ℤ x +ℤ d *ℤ y) +ℤ r *ℤ (r *ℤ y -ℤ d *ℤ x)
    plain r d x y = simp monomials (omega (arith, ints))

-- a number between two others
pub within_cases : {C : Type 0} (a b z : ℤ) → (int_le a z && int_le z b || int_le b z && int_le z a) ≡ true → (a ≤ℤ z → z ≤ℤ b → C) → (b ≤ℤ z → z ≤ℤ a → C) → C
within_cases a b z h up down = by_lt_z z a
    (λ less. down (lower a b z h less) (weak z a less))
    (λ more. by_lt_z b z (λ beyond. down (weak b z beyond) (upper a b z h beyond)) (λ k. up more k))
  where
    lower : (a b z : ℤ) → (int_le a z && int_le z b || int_le b z && int_le z a) ≡ true → z <ℤ a → b ≤ℤ z
    lower a b z h k = grind (arith, ints)

    upper : (a b z : ℤ) → (int_le a z && int_le z b || int_le b z && int_le z a) ≡ true → b <ℤ z → z ≤ℤ a
    upper a b z h k = grind (arith, ints)

-- what a number between w a and w b adds to `along`
part_low : (w a b z : ℤ) → pos 0 <ℤ w → (int_le (w *ℤ a) z && int_le z (w *ℤ b) || int_le (w *ℤ b) z && int_le z (w *ℤ a)) ≡ true → pos 0 ≤ℤ ((b -ℤ a) *ℤ (z -ℤ w *ℤ a))
part_low w a b z hw h = within_cases (w *ℤ a) (w *ℤ b) z h
    (λ k l. times_not_negative (b -ℤ a) (z -ℤ w *ℤ a) (not_negative_factor w (b -ℤ a) hw (rises (w *ℤ a) (w *ℤ b) z _ ring k l)) (omega (arith, ints)))
    (λ k l. let down : pos 0 ≤ℤ ((a -ℤ b) *ℤ (w *ℤ a -ℤ z)) = times_not_negative (a -ℤ b) (w *ℤ a -ℤ z) (not_negative_factor w (a -ℤ b) hw (rises (w *ℤ b) (w *ℤ a) z _ turned k l)) (omega (arith, ints)) in
    same _ _ twice down)
  where
    ring : w *ℤ (b -ℤ a) ≡ w *ℤ b -ℤ w *ℤ a
    ring = simp monomials (omega (arith, ints))

    turned : w *ℤ (a -ℤ b) ≡ w *ℤ a -ℤ w *ℤ b
    turned = simp monomials (omega (arith, ints))

    rises : (m n z v : ℤ) → v ≡ n -ℤ m → m ≤ℤ z → z ≤ℤ n → pos 0 ≤ℤ v
    rises m n z v e h k = omega (arith, ints)

    twice : (a -ℤ b) *ℤ (w *ℤ a -ℤ z) ≡ (b -ℤ a) *ℤ (z -ℤ w *ℤ a)
    twice = simp monomials (omega (arith, ints))

    same : (m n : ℤ) → m ≡ n → pos 0 ≤ℤ m → pos 0 ≤ℤ n
    same m n e h = omega (arith, ints)

part_high : (w a b z : ℤ) → pos 0 <ℤ w → (int_le (w *ℤ a) z && int_le z (w *ℤ b) || int_le (w *ℤ b) z && int_le z (w *ℤ a)) ≡ true → pos 0 ≤ℤ ((b -ℤ a) *ℤ (w *ℤ b -ℤ z))
part_high w a b z hw h = same _ _ turned (part_low w b a z hw (either (int_le (w *ℤ a) z) (int_le z (w *ℤ b)) (int_le (w *ℤ b) z) (int_le z (w *ℤ a)) h))
  where
    either : (a b c d : Bool) → (a && b || c && d) ≡ true → (c && d || a && b) ≡ true
    either a b c d h = grind (arith, ints)

    turned : (a -ℤ b) *ℤ (z -ℤ w *ℤ b) ≡ (b -ℤ a) *ℤ (w *ℤ b -ℤ z)
    turned = simp monomials (omega (arith, ints))

    same : (m n : ℤ) → m ≡ n → pos 0 ≤ℤ m → pos 0 ≤ℤ n
    same m n e h = omega (arith, ints)

-- a point of an edge is along it, from its start to its end
pub record IsAlong (e : Edge) (p : Point) : Type 0 where
  pub level : side e p ≡ pos 0
  pub from : pos 0 ≤ℤ along e p
  pub to : along e p ≤ℤ (pos p.w *ℤ reach e)

pub along_of : (e : Edge) (p : Point) → 0 < p.w → is_on e p ≡ true → IsAlong e p
along_of e p wide on = record {
  level = level_of e p on;
  from = sum _ _ (part_low (pos p.w) e.a.x e.b.x p.x hw (along_x_of e p on)) (part_low (pos p.w) e.a.y e.b.y p.y hw (along_y_of e p on));
  to = le_from _ _ _ (rest (pos p.w) e.a.x e.b.x e.a.y e.b.y p.x p.y)
      (sum _ _ (part_high (pos p.w) e.a.x e.b.x p.x hw (along_x_of e p on)) (part_high (pos p.w) e.a.y e.b.y p.y hw (along_y_of e p on)));
}
  where
    hw : pos 0 <ℤ pos p.w
    hw = wide_z p.w wide

    sum : (m n : ℤ) → pos 0 ≤ℤ m → pos 0 ≤ℤ n → pos 0 ≤ℤ (m +ℤ n)
    sum m n h k = omega (arith, ints)

    rest : (w ax bx ay by x y : ℤ) → (bx -ℤ ax) *ℤ (w *ℤ bx -ℤ x) +ℤ (by -ℤ ay) *ℤ (w *ℤ by -ℤ y)
        ≡ w *ℤ ((bx -ℤ ax) *ℤ (bx -ℤ ax) +ℤ (by -ℤ ay) *ℤ (by -ℤ ay)) -ℤ ((bx -ℤ ax) *ℤ (x -ℤ w *ℤ ax) +ℤ (by -ℤ ay) *ℤ (y -ℤ w *ℤ ay))
    rest w ax bx ay by x y = simp monomials (omega (arith, ints))

-- over plain numbers: where l (z - w a) is a part t of r w l, the number z is between w a and w b
part_between : (l r w a b z t : ℤ) → pos 0 <ℤ l → r ≡ b -ℤ a → l *ℤ (z -ℤ w *ℤ a) ≡ r *ℤ t → pos 0 ≤ℤ t → t ≤ℤ (w *ℤ l)
    → (int_le (w *ℤ a) z && int_le z (w *ℤ b) || int_le (w *ℤ b) z && int_le z (w *ℤ a)) ≡ true
part_between l r w a b z t hl er e low high = by_lt_z r (pos 0)
    (λ left. down (w *ℤ a) (w *ℤ b) z
    (not_negative_factor l (z -ℤ w *ℤ b) hl (same _ _ (sym beyond_left) (times_not_negative (neg_ℤ r) (w *ℤ l -ℤ t) (omega (arith, ints)) (omega (arith, ints)))))
    (not_negative_factor l (w *ℤ a -ℤ z) hl (same _ _ (sym before_left) (times_not_negative (neg_ℤ r) t (omega (arith, ints)) low))))
    (λ right. up (w *ℤ a) (w *ℤ b) z
    (not_negative_factor l (z -ℤ w *ℤ a) hl (same _ _ (sym e) (times_not_negative r t right low)))
    (not_negative_factor l (w *ℤ b -ℤ z) hl (same _ _ (sym beyond) (times_not_negative r (w *ℤ l -ℤ t) right (omega (arith, ints))))))
  where
    same : (m n : ℤ) → m ≡ n → pos 0 ≤ℤ m → pos 0 ≤ℤ n
    same m n e h = omega (arith, ints)

    split : (l w a b z : ℤ) → l *ℤ (w *ℤ b -ℤ z) ≡ (b -ℤ a) *ℤ (w *ℤ l) -ℤ l *ℤ (z -ℤ w *ℤ a)
    split l w a b z = simp monomials (omega (arith, ints))

    joined : (r m t : ℤ) → r *ℤ m -ℤ r *ℤ t ≡ r *ℤ (m -ℤ t)
    joined r m t = simp monomials (omega (arith, ints))

    beyond : l *ℤ (w *ℤ b -ℤ z) ≡ r *ℤ (w *ℤ l -ℤ t)
    beyond = split l w a b z ∙ ap (λ (k : ℤ). k *ℤ (w *ℤ l) -ℤ l *ℤ (z -ℤ w *ℤ a)) (sym er) ∙ ap (λ (k : ℤ). r *ℤ (w *ℤ l) -ℤ k) e ∙ joined r (w *ℤ l) t

    turned : (l m n : ℤ) → l *ℤ (m -ℤ n) ≡ neg_ℤ (l *ℤ (n -ℤ m))
    turned l m n = simp monomials (omega (arith, ints))

    negated : (r t : ℤ) → neg_ℤ (r *ℤ t) ≡ neg_ℤ r *ℤ t
    negated r t = simp monomials (omega (arith, ints))

    before_left : l *ℤ (w *ℤ a -ℤ z) ≡ neg_ℤ r *ℤ t
    before_left = turned l (w *ℤ a) z ∙ ap neg_ℤ e ∙ negated r t

    beyond_left : l *ℤ (z -ℤ w *ℤ b) ≡ neg_ℤ r *ℤ (w *ℤ l -ℤ t)
    beyond_left = turned l z (w *ℤ b) ∙ ap neg_ℤ beyond ∙ negated r (w *ℤ l -ℤ t)

    up_plain : (a b z : ℤ) → a ≤ℤ z → z ≤ℤ b → (int_le a z && int_le z b || int_le b z && int_le z a) ≡ true
    up_plain a b z h k = grind (arith, ints)

    up : (a b z : ℤ) → pos 0 ≤ℤ (z -ℤ a) → pos 0 ≤ℤ (b -ℤ z) → (int_le a z && int_le z b || int_le b z && int_le z a) ≡ true
    up a b z h k = up_plain a b z (omega (arith, ints)) (omega (arith, ints))

    down_plain : (a b z : ℤ) → b ≤ℤ z → z ≤ℤ a → (int_le a z && int_le z b || int_le b z && int_le z a) ≡ true
    down_plain a b z h k = grind (arith, ints)

    down : (a b z : ℤ) → pos 0 ≤ℤ (z -ℤ b) → pos 0 ≤ℤ (a -ℤ z) → (int_le a z && int_le z b || int_le b z && int_le z a) ≡ true
    down a b z h k = down_plain a b z (omega (arith, ints)) (omega (arith, ints))

all_three : (a b c : Bool) → a ≡ true → b ≡ true → c ≡ true → (a && b && c) ≡ true
all_three a b c h k l = rw (h, k, l) refl

-- and each such point is on the edge, if it has a length
pub on_of : (e : Edge) (p : Point) → pos 0 <ℤ reach e → IsAlong e p → is_on e p ≡ true
on_of e p long is = all_three _ _ _ (level (side e p) is.level)
    (part_between (reach e) (run e) (pos p.w) e.a.x e.b.x p.x (along e p) long refl (back_x e p ∙ no_more (run e *ℤ along e p) (rise e) (side e p) is.level) is.from is.to)
    (part_between (reach e) (rise e) (pos p.w) e.a.y e.b.y p.y (along e p) long refl (back_y e p ∙ and_no_more (rise e *ℤ along e p) (run e) (side e p) is.level) is.from is.to)
  where
    level : (z : ℤ) → z ≡ pos 0 → int_eq z (pos 0) ≡ true
    level z h = rw h refl

    no_more : (m d s : ℤ) → s ≡ pos 0 → m -ℤ d *ℤ s ≡ m
    no_more m d s h = rw h (simp monomials (omega (arith, ints)))

    and_no_more : (m r s : ℤ) → s ≡ pos 0 → m +ℤ r *ℤ s ≡ m
    and_no_more m r s h = rw h (simp monomials (omega (arith, ints)))

-- the mix of two points
weight : (s w t v : ℕ) → pos (s * w + t * v) ≡ pos s *ℤ pos w +ℤ pos t *ℤ pos v
weight s w t v = omega (arith, ints)

pub along-mix : (e : Edge) (s : ℕ) (p : Point) (t : ℕ) (q : Point) → along e (mix s p t q) ≡ pos s *ℤ along e p +ℤ pos t *ℤ along e q
along-mix e s p t q = plain (run e) (rise e) e.a.x e.a.y p.x p.y (pos p.w) q.x q.y (pos q.w) (pos s) (pos t) _ (weight s p.w t q.w)
  where
    plain : (r d a b x y w z u v s t m : ℤ) → m ≡ s *ℤ w +ℤ t *ℤ v →
        r *ℤ ((s *ℤ x +ℤ t *ℤ z) -ℤ m *ℤ a) +ℤ d *ℤ ((s *ℤ y +ℤ t *ℤ u) -ℤ m *ℤ b)
        ≡ s *ℤ (r *ℤ (x -ℤ w *ℤ a) +ℤ d *ℤ (y -ℤ w *ℤ b)) +ℤ t *ℤ (r *ℤ (z -ℤ v *ℤ a) +ℤ d *ℤ (u -ℤ v *ℤ b))
    plain r d a b x y w z u v s t m h = rw h (simp monomials (omega (arith, ints)))

pub side-mix : (e : Edge) (s : ℕ) (p : Point) (t : ℕ) (q : Point) → side e (mix s p t q) ≡ pos s *ℤ side e p +ℤ pos t *ℤ side e q
side-mix e s p t q = plain (run e) (rise e) e.a.x e.a.y p.x p.y (pos p.w) q.x q.y (pos q.w) (pos s) (pos t) _ (weight s p.w t q.w)
  where
    plain : (r d a b x y w z u v s t m : ℤ) → m ≡ s *ℤ w +ℤ t *ℤ v →
        r *ℤ ((s *ℤ y +ℤ t *ℤ u) -ℤ m *ℤ b) -ℤ d *ℤ ((s *ℤ x +ℤ t *ℤ z) -ℤ m *ℤ a)
        ≡ s *ℤ (r *ℤ (y -ℤ w *ℤ b) -ℤ d *ℤ (x -ℤ w *ℤ a)) +ℤ t *ℤ (r *ℤ (u -ℤ v *ℤ b) -ℤ d *ℤ (z -ℤ v *ℤ a))
    plain r d a b x y w z u v s t m h = rw h (simp monomials (omega (arith, ints)))

-- the mix of two points of an edge is on it
pub mix_on : (e : Edge) (s : ℕ) (p : Point) (t : ℕ) (q : Point) → pos 0 <ℤ reach e → IsAlong e p → IsAlong e q → IsAlong e (mix s p t q)
mix_on e s p t q long is also = record {
  level = side-mix e s p t q ∙ flat (pos s) (side e p) (pos t) (side e q) is.level also.level;
  from = rw (along-mix e s p t q) (low (pos s) (along e p) (pos t) (along e q) (omega (arith, ints)) (omega (arith, ints)) is.from also.from);
  to = rw (along-mix e s p t q, weight s p.w t q.w) (high (pos s) (along e p) (pos p.w) (pos t) (along e q) (pos q.w) (reach e) (omega (arith, ints)) (omega (arith, ints)) is.to also.to);
}
  where
    flat : (s a t b : ℤ) → a ≡ pos 0 → b ≡ pos 0 → s *ℤ a +ℤ t *ℤ b ≡ pos 0
    flat s a t b h k = rw (h, k) (simp monomials (omega (arith, ints)))

    sum : (m n : ℤ) → pos 0 ≤ℤ m → pos 0 ≤ℤ n → pos 0 ≤ℤ (m +ℤ n)
    sum m n h k = omega (arith, ints)

    low : (s a t b : ℤ) → pos 0 ≤ℤ s → pos 0 ≤ℤ t → pos 0 ≤ℤ a → pos 0 ≤ℤ b → pos 0 ≤ℤ (s *ℤ a +ℤ t *ℤ b)
    low s a t b hs ht ha hb = sum _ _ (times_not_negative s a hs ha) (times_not_negative t b ht hb)

    high : (s a w t b v l : ℤ) → pos 0 ≤ℤ s → pos 0 ≤ℤ t → a ≤ℤ (w *ℤ l) → b ≤ℤ (v *ℤ l) → (s *ℤ a +ℤ t *ℤ b) ≤ℤ ((s *ℤ w +ℤ t *ℤ v) *ℤ l)
    high s a w t b v l hs ht ha hb = le_from (s *ℤ (w *ℤ l -ℤ a) +ℤ t *ℤ (v *ℤ l -ℤ b)) _ _ (simp monomials (omega (arith, ints)))
        (low s (w *ℤ l -ℤ a) t (v *ℤ l -ℤ b) hs ht (omega (arith, ints)) (omega (arith, ints)))

-- an edge from its end to its start
abbrev pub flip : Edge → Edge
flip e = record { a = e.b; b = e.a }

pub reach-flip : (e : Edge) → reach (flip e) ≡ reach e
reach-flip e = plain e.a.x e.a.y e.b.x e.b.y
  where
    plain : (a b c d : ℤ) → (a -ℤ c) *ℤ (a -ℤ c) +ℤ (b -ℤ d) *ℤ (b -ℤ d) ≡ (c -ℤ a) *ℤ (c -ℤ a) +ℤ (d -ℤ b) *ℤ (d -ℤ b)
    plain a b c d = simp monomials (omega (arith, ints))

pub side-flip : (e : Edge) (p : Point) → side (flip e) p ≡ neg_ℤ (side e p)
side-flip e p = plain e.a.x e.a.y e.b.x e.b.y p.x p.y (pos p.w)
  where
    plain : (a b c d x y w : ℤ) → (a -ℤ c) *ℤ (y -ℤ w *ℤ d) -ℤ (b -ℤ d) *ℤ (x -ℤ w *ℤ c) ≡ neg_ℤ ((c -ℤ a) *ℤ (y -ℤ w *ℤ b) -ℤ (d -ℤ b) *ℤ (x -ℤ w *ℤ a))
    plain a b c d x y w = simp monomials (omega (arith, ints))

pub along-flip : (e : Edge) (p : Point) → along (flip e) p ≡ pos p.w *ℤ reach e -ℤ along e p
along-flip e p = plain e.a.x e.a.y e.b.x e.b.y p.x p.y (pos p.w)
  where
    plain : (a b c d x y w : ℤ) → (a -ℤ c) *ℤ (x -ℤ w *ℤ c) +ℤ (b -ℤ d) *ℤ (y -ℤ w *ℤ d)
        ≡ w *ℤ ((c -ℤ a) *ℤ (c -ℤ a) +ℤ (d -ℤ b) *ℤ (d -ℤ b)) -ℤ ((c -ℤ a) *ℤ (x -ℤ w *ℤ a) +ℤ (d -ℤ b) *ℤ (y -ℤ w *ℤ b))
    plain a b c d x y w = simp monomials (omega (arith, ints))

pub along_flipped : (e : Edge) (p : Point) → IsAlong e p → IsAlong (flip e) p
along_flipped e p is = record {
  level = rw (side-flip e p, is.level) refl;
  from = rw (along-flip e p) (from_plain (along e p) _ is.to);
  to = rw (along-flip e p, reach-flip e) (to_plain (along e p) _ is.from);
}
  where
    from_plain : (m n : ℤ) → m ≤ℤ n → pos 0 ≤ℤ (n -ℤ m)
    from_plain m n h = omega (arith, ints)

    to_plain : (m n : ℤ) → pos 0 ≤ℤ m → (n -ℤ m) ≤ℤ n
    to_plain m n h = omega (arith, ints)
