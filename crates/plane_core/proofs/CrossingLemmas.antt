-- Two edges that aren't parallel share a point just if the ends of each lie on either side of the
-- other, and which point it is.
use Rattle.std.proofs.Common.{◌≡◌, ◌≤◌, ◌<◌, ◌⊎◌, inl, inr, ℕ, to_z, of_z, true, false, arith, ap, sym, refl, ◌∙◌, subst}
use Rattle.std.specs.Prelude.{ℤ, pos, Bool, ◌&&◌, ◌||◌, ◌*ℤ◌, ◌-ℤ◌, ◌+ℤ◌, neg_ℤ, ◌<ℤ◌, ◌≤ℤ◌, int_lt, int_le, nat_abs}
use Rattle.std.specs.Int.{w128}
use Rattle.std.specs.Ordering.{int_eq}
use Rattle.std.proofs.lemmas.Int.{ints, by_lt_z}
use Rattle.plane_core.specs.declared.edge.Edge.{Edge}
use Rattle.plane_core.specs.Points.{Point, at, side, turn_of, run, rise, is_on, is_between}
use Rattle.plane_core.specs.Crossings.{is_zero_between, is_not_zero, do_cross}
use Rattle.plane_core.specs.Meetings.{divided, IsMeeting, HaveNoMeeting}
use Rattle.plane_core.proofs.Ring.{monomials}
use Rattle.plane_core.proofs.Signs.{times_positive, times_not_negative, not_negative_factor}
use Rattle.plane_core.proofs.HeldLemmas.{abs_positive, held_turn}
use Rattle.plane_core.specs.Limits.{greatest_turn}

-- tests of whole numbers
pub le_true : (m n : ℤ) → m ≤ℤ n → int_le m n ≡ true
le_true m n h = grind (arith, ints)

pub true_le : (m n : ℤ) → int_le m n ≡ true → m ≤ℤ n
true_le m n h = grind (arith, ints)

and_first : (a b : Bool) → (a && b) ≡ true → a ≡ true
and_first true b h = refl
and_first false b h = cc

and_second : (a b : Bool) → (a && b) ≡ true → b ≡ true
and_second true b h = h
and_second false b h = cc

pub or_either : (a b : Bool) → (a || b) ≡ true → (a ≡ true) ⊎ (b ≡ true)
or_either true b h = inl refl
or_either false b h = inr h

pub true_lt : (z : ℤ) → int_lt z (pos 0) ≡ true → z <ℤ pos 0
true_lt z h = grind (arith, ints)

pub false_lt : (z : ℤ) → int_lt z (pos 0) ≡ false → pos 0 ≤ℤ z
false_lt z h = grind (arith, ints)

-- 0 between two numbers
zero_between_up : (a b : ℤ) → a ≤ℤ pos 0 → pos 0 ≤ℤ b → is_zero_between a b ≡ true
zero_between_up a b h k = rw (le_true a (pos 0) h, le_true (pos 0) b k) refl

zero_between_down : (a b : ℤ) → b ≤ℤ pos 0 → pos 0 ≤ℤ a → is_zero_between a b ≡ true
zero_between_down a b h k = last (int_le a (pos 0) && int_le (pos 0) b) (rw (le_true b (pos 0) h, le_true (pos 0) a k) refl)
  where
    last : {d : Bool} (c : Bool) → d ≡ true → (c || d) ≡ true
    last true h = refl
    last false h = h

data Apart (a b : ℤ) : Type 0 where
  Up : a ≤ℤ pos 0 → pos 0 ≤ℤ b → Apart a b
  Down : b ≤ℤ pos 0 → pos 0 ≤ℤ a → Apart a b

apart : (a b : ℤ) → is_zero_between a b ≡ true → Apart a b
apart a b h = elim (or_either (int_le a (pos 0) && int_le (pos 0) b) (int_le b (pos 0) && int_le (pos 0) a) h) [
  | inl k ↦ Up (true_le _ _ (and_first _ _ k)) (true_le _ _ (and_second _ _ k))
  | inr k ↦ Down (true_le _ _ (and_first _ _ k)) (true_le _ _ (and_second _ _ k))
]

-- the product of two such numbers is not positive
between_from_product : (a b : ℤ) → pos 0 ≤ℤ (a *ℤ (pos 0 -ℤ b)) → is_zero_between a b ≡ true
between_from_product a b h = by_lt_z (pos 0) a
    (λ up. zero_between_down a b (turned b (not_negative_factor a (pos 0 -ℤ b) up h)) (weak a up))
    (λ low. by_lt_z a (pos 0)
    (λ down. zero_between_up a b (weak_down a down) (turned_up b (not_negative_factor (neg_ℤ a) b (opposite a down) (subst (λ (z : ℤ). pos 0 ≤ℤ z) ring h))))
    (λ high. by_lt_z (pos 0) b (λ g. zero_between_up a b low (weak b g)) (λ g. zero_between_down a b g high)))
  where
    turned : (b : ℤ) → pos 0 ≤ℤ (pos 0 -ℤ b) → b ≤ℤ pos 0
    turned b h = omega (arith, ints)

    turned_up : (b : ℤ) → pos 0 ≤ℤ b → pos 0 ≤ℤ b
    turned_up b h = h

    weak : (a : ℤ) → pos 0 <ℤ a → pos 0 ≤ℤ a
    weak a h = omega (arith, ints)

    weak_down : (a : ℤ) → a <ℤ pos 0 → a ≤ℤ pos 0
    weak_down a h = omega (arith, ints)

    opposite : (a : ℤ) → a <ℤ pos 0 → pos 0 <ℤ neg_ℤ a
    opposite a h = omega (arith, ints)

    ring : a *ℤ (pos 0 -ℤ b) ≡ neg_ℤ a *ℤ b
    ring = simp monomials (omega (arith, ints))

-- a number between two others, by how far it is from each
between_product : (a b z : ℤ) (w : ℕ) → is_between a b w z ≡ true → pos 0 ≤ℤ ((z -ℤ pos w *ℤ a) *ℤ (pos w *ℤ b -ℤ z))
between_product a b z w h = elim (or_either (int_le (pos w *ℤ a) z && int_le z (pos w *ℤ b)) (int_le (pos w *ℤ b) z && int_le z (pos w *ℤ a)) h) [
  | inl k ↦ up (pos w *ℤ a) (pos w *ℤ b) z (true_le _ _ (and_first _ _ k)) (true_le _ _ (and_second _ _ k))
  | inr k ↦ down (pos w *ℤ a) (pos w *ℤ b) z (true_le _ _ (and_first _ _ k)) (true_le _ _ (and_second _ _ k))
]
  where
    up : (m n z : ℤ) → m ≤ℤ z → z ≤ℤ n → pos 0 ≤ℤ ((z -ℤ m) *ℤ (n -ℤ z))
    up m n z h k = times_not_negative (z -ℤ m) (n -ℤ z) (omega (arith, ints)) (omega (arith, ints))

    down : (m n z : ℤ) → n ≤ℤ z → z ≤ℤ m → pos 0 ≤ℤ ((z -ℤ m) *ℤ (n -ℤ z))
    down m n z h k = subst (λ (t : ℤ). pos 0 ≤ℤ t) (ring m n z) (times_not_negative (m -ℤ z) (z -ℤ n) (omega (arith, ints)) (omega (arith, ints)))
      where
        ring : (m n z : ℤ) → (m -ℤ z) *ℤ (z -ℤ n) ≡ (z -ℤ m) *ℤ (n -ℤ z)
        ring m n z = simp monomials (omega (arith, ints))

square : (a : ℤ) → pos 0 ≤ℤ (a *ℤ a)
square a = by_lt_z a (pos 0)
    (λ h. subst (λ (t : ℤ). pos 0 ≤ℤ t) (ring a) (times_not_negative (neg_ℤ a) (neg_ℤ a) (opposite a h) (opposite a h)))
    (λ h. times_not_negative a a h h)
  where
    opposite : (a : ℤ) → a <ℤ pos 0 → pos 0 ≤ℤ neg_ℤ a
    opposite a h = omega (arith, ints)

    ring : (a : ℤ) → neg_ℤ a *ℤ neg_ℤ a ≡ a *ℤ a
    ring a = simp monomials (omega (arith, ints))

square_positive : (a : ℤ) → ¬ (a ≡ pos 0) → pos 0 <ℤ (a *ℤ a)
square_positive a some = by_lt_z a (pos 0)
    (λ h. subst (λ (t : ℤ). pos 0 <ℤ t) (ring a) (times_positive (neg_ℤ a) (neg_ℤ a) (opposite a h) (opposite a h)))
    (λ h. by_lt_z (pos 0) a (λ g. times_positive a a g g) (λ g. absurd (some (same a h g))))
  where
    opposite : (a : ℤ) → a <ℤ pos 0 → pos 0 <ℤ neg_ℤ a
    opposite a h = omega (arith, ints)

    same : (a : ℤ) → pos 0 ≤ℤ a → a ≤ℤ pos 0 → a ≡ pos 0
    same a h k = omega (arith, ints)

    ring : (a : ℤ) → neg_ℤ a *ℤ neg_ℤ a ≡ a *ℤ a
    ring a = simp monomials (omega (arith, ints))

-- over plain numbers: r and d are an edge's run and rise, R and D another's, u and v the way from
-- the first end of the edge to a point, w its width, t the side of the other edge at that end
way_across : (r d R D u v w t : ℤ) → r *ℤ v ≡ d *ℤ u → D *ℤ u -ℤ R *ℤ v ≡ w *ℤ t
    → (r *ℤ D -ℤ R *ℤ d) *ℤ u ≡ (w *ℤ r) *ℤ t
way_across r d R D u v w t h k =
    let first : (r *ℤ D -ℤ R *ℤ d) *ℤ u ≡ r *ℤ (D *ℤ u -ℤ R *ℤ v) +ℤ R *ℤ (r *ℤ v -ℤ d *ℤ u) = simp monomials (omega (arith, ints)) in
    let zero : r *ℤ v -ℤ d *ℤ u ≡ pos 0 = none (r *ℤ v) (d *ℤ u) h in
    first ∙ rw (k, zero) (last r w t R)
  where
    none : (m n : ℤ) → m ≡ n → m -ℤ n ≡ pos 0
    none m n h = omega (arith, ints)

    last : (r w t R : ℤ) → r *ℤ (w *ℤ t) +ℤ R *ℤ pos 0 ≡ (w *ℤ r) *ℤ t
    last r w t R = simp monomials (omega (arith, ints))

way_up : (r d R D u v w t : ℤ) → r *ℤ v ≡ d *ℤ u → D *ℤ u -ℤ R *ℤ v ≡ w *ℤ t
    → (r *ℤ D -ℤ R *ℤ d) *ℤ v ≡ (w *ℤ d) *ℤ t
way_up r d R D u v w t h k =
    let first : (r *ℤ D -ℤ R *ℤ d) *ℤ v ≡ d *ℤ (D *ℤ u -ℤ R *ℤ v) +ℤ D *ℤ (r *ℤ v -ℤ d *ℤ u) = simp monomials (omega (arith, ints)) in
    let zero : r *ℤ v -ℤ d *ℤ u ≡ pos 0 = none (r *ℤ v) (d *ℤ u) h in
    first ∙ rw (k, zero) (last d w t D)
  where
    none : (m n : ℤ) → m ≡ n → m -ℤ n ≡ pos 0
    none m n h = omega (arith, ints)

    last : (d w t D : ℤ) → d *ℤ (w *ℤ t) +ℤ D *ℤ pos 0 ≡ (w *ℤ d) *ℤ t
    last d w t D = simp monomials (omega (arith, ints))

-- an end of the way is between, so 0 is between the sides of both ends
crossed_along : (turn u k t : ℤ) → ¬ (k ≡ pos 0) → turn *ℤ u ≡ k *ℤ t → pos 0 ≤ℤ (u *ℤ (k -ℤ u))
    → is_zero_between t (t -ℤ turn) ≡ true
crossed_along turn u k t some e h =
    between_from_product t (t -ℤ turn) (not_negative_factor (k *ℤ k) (t *ℤ (pos 0 -ℤ (t -ℤ turn))) (square_positive k some)
    (subst (λ (z : ℤ). pos 0 ≤ℤ z) ring (times_not_negative (turn *ℤ turn) (u *ℤ (k -ℤ u)) (square turn) h)))
  where
    apart_form : (turn *ℤ turn) *ℤ (u *ℤ (k -ℤ u)) ≡ (turn *ℤ u) *ℤ (turn *ℤ k -ℤ turn *ℤ u)
    apart_form = simp monomials (omega (arith, ints))

    joined : (k *ℤ t) *ℤ (turn *ℤ k -ℤ k *ℤ t) ≡ (k *ℤ k) *ℤ (t *ℤ (pos 0 -ℤ (t -ℤ turn)))
    joined = simp monomials (omega (arith, ints))

    ring : (turn *ℤ turn) *ℤ (u *ℤ (k -ℤ u)) ≡ (k *ℤ k) *ℤ (t *ℤ (pos 0 -ℤ (t -ℤ turn)))
    ring = apart_form ∙ rw e joined

-- the sides of the ends of an edge differ by the turn
pub side_last : (e f : Edge) → side f (at e.b) ≡ side f (at e.a) -ℤ turn_of e f
side_last e f = plain e.a.x e.a.y e.b.x e.b.y f.a.x f.a.y f.b.x f.b.y
  where
    plain : (ax ay bx by cx cy dx dy : ℤ) →
        (dx -ℤ cx) *ℤ (by -ℤ pos 1 *ℤ cy) -ℤ (dy -ℤ cy) *ℤ (bx -ℤ pos 1 *ℤ cx)
        ≡ ((dx -ℤ cx) *ℤ (ay -ℤ pos 1 *ℤ cy) -ℤ (dy -ℤ cy) *ℤ (ax -ℤ pos 1 *ℤ cx)) -ℤ ((bx -ℤ ax) *ℤ (dy -ℤ cy) -ℤ (dx -ℤ cx) *ℤ (by -ℤ ay))
    plain ax ay bx by cx cy dx dy = simp monomials (omega (arith, ints))

pub turn-flip : (e f : Edge) → turn_of f e ≡ neg_ℤ (turn_of e f)
turn-flip e f = plain (run e *ℤ rise f) (run f *ℤ rise e)
  where
    plain : (m n : ℤ) → n -ℤ m ≡ neg_ℤ (m -ℤ n)
    plain m n = omega (arith, ints)

pub level_of : (e : Edge) (p : Point) → is_on e p ≡ true → side e p ≡ pos 0
level_of e p h = plain (side e p) (and_first _ _ (and_first (int_eq (side e p) (pos 0) && is_between e.a.x e.b.x p.w p.x) _ h))
  where
    plain : (z : ℤ) → int_eq z (pos 0) ≡ true → z ≡ pos 0
    plain z h = grind (arith, ints)

pub along_x_of : (e : Edge) (p : Point) → is_on e p ≡ true → is_between e.a.x e.b.x p.w p.x ≡ true
along_x_of e p h = and_second (int_eq (side e p) (pos 0)) _ (and_first (int_eq (side e p) (pos 0) && is_between e.a.x e.b.x p.w p.x) _ h)

pub along_y_of : (e : Edge) (p : Point) → is_on e p ≡ true → is_between e.a.y e.b.y p.w p.y ≡ true
along_y_of e p h = and_second (int_eq (side e p) (pos 0) && is_between e.a.x e.b.x p.w p.x) _ h

by_zero : {P : Type 0} (z : ℤ) → (z ≡ pos 0 → P) → (¬ (z ≡ pos 0) → P) → P
by_zero z if_so if_not = by_lt_z z (pos 0) (λ h. if_not (λ k. low z h k)) (λ h. by_lt_z (pos 0) z (λ g. if_not (λ k. high z g k)) (λ g. if_so (same z h g)))
  where
    low : (z : ℤ) → z <ℤ pos 0 → z ≡ pos 0 → ⊥
    low z h k = omega (arith, ints)

    high : (z : ℤ) → pos 0 <ℤ z → z ≡ pos 0 → ⊥
    high z h k = omega (arith, ints)

    same : (z : ℤ) → pos 0 ≤ℤ z → z ≤ℤ pos 0 → z ≡ pos 0
    same z h k = omega (arith, ints)

-- a width times a length
wide_product : (w a : ℤ) → pos 0 <ℤ w → ¬ (a ≡ pos 0) → ¬ (w *ℤ a ≡ pos 0)
wide_product w a hw some h = by_lt_z (pos 0) a
    (λ up. high (w *ℤ a) (times_positive w a hw up) h)
    (λ low. by_lt_z a (pos 0)
    (λ down. high (w *ℤ neg_ℤ a) (times_positive w (neg_ℤ a) hw (opposite a down)) (ring ∙ ap neg_ℤ h))
    (λ no. some (same a no low)))
  where
    high : (z : ℤ) → pos 0 <ℤ z → z ≡ pos 0 → ⊥
    high z h k = omega (arith, ints)

    opposite : (a : ℤ) → a <ℤ pos 0 → pos 0 <ℤ neg_ℤ a
    opposite a h = omega (arith, ints)

    same : (a : ℤ) → pos 0 ≤ℤ a → a ≤ℤ pos 0 → a ≡ pos 0
    same a h k = omega (arith, ints)

    ring : w *ℤ neg_ℤ a ≡ neg_ℤ (w *ℤ a)
    ring = simp monomials

-- edges that aren't parallel and share a point: the ends of the first lie on either side of the other
pub crossed : (e f : Edge) (q : Point) → 0 < q.w → is_on e q ≡ true → side f q ≡ pos 0 → ¬ (turn_of e f ≡ pos 0)
    → is_zero_between (side f (at e.a)) (side f (at e.b)) ≡ true
crossed e f q wide on level turning =
    let w = pos q.w in
    let u = q.x -ℤ w *ℤ e.a.x in
    let v = q.y -ℤ w *ℤ e.a.y in
    let t = side f (at e.a) in
    let flat : run e *ℤ v ≡ rise e *ℤ u = difference (run e *ℤ v) (rise e *ℤ u) (level_of e q on) in
    let other : rise f *ℤ u -ℤ run f *ℤ v ≡ w *ℤ t = shifted (run f) (rise f) q.x q.y w e.a.x e.a.y f.a.x f.a.y level in
    let across = way_across (run e) (rise e) (run f) (rise f) u v w t flat other in
    let up = way_up (run e) (rise e) (run f) (rise f) u v w t flat other in
    subst (λ (z : ℤ). is_zero_between t z ≡ true) (sym (side_last e f))
    (by_zero (run e)
    (λ zero_run. by_zero (rise e)
    (λ zero_rise. absurd (turning (no_turn (run e) (rise e) (run f) (rise f) zero_run zero_rise)))
    (λ some. crossed_along (turn_of e f) v (w *ℤ rise e) t (wide_product w (rise e) (wide_z q.w wide) some) up
    (subst (λ (z : ℤ). pos 0 ≤ℤ (v *ℤ z)) (rest w e.a.y e.b.y q.y) (between_product e.a.y e.b.y q.y q.w (along_y_of e q on)))))
    (λ some. crossed_along (turn_of e f) u (w *ℤ run e) t (wide_product w (run e) (wide_z q.w wide) some) across
    (subst (λ (z : ℤ). pos 0 ≤ℤ (u *ℤ z)) (rest w e.a.x e.b.x q.x) (between_product e.a.x e.b.x q.x q.w (along_x_of e q on)))))
  where
    difference : (m n : ℤ) → m -ℤ n ≡ pos 0 → m ≡ n
    difference m n h = omega (arith, ints)

    wide_z : (n : ℕ) → 0 < n → pos 0 <ℤ pos n
    wide_z n h = omega (arith, ints)

    rest : (w a b z : ℤ) → w *ℤ b -ℤ z ≡ w *ℤ (b -ℤ a) -ℤ (z -ℤ w *ℤ a)
    rest w a b z = simp monomials (omega (arith, ints))

    no_turn : (r d R D : ℤ) → r ≡ pos 0 → d ≡ pos 0 → r *ℤ D -ℤ R *ℤ d ≡ pos 0
    no_turn r d R D h k = rw (h, k) (simp monomials (omega (arith, ints)))

    shifted : (R D x y w ax ay cx cy : ℤ) → R *ℤ (y -ℤ w *ℤ cy) -ℤ D *ℤ (x -ℤ w *ℤ cx) ≡ pos 0
        → D *ℤ (x -ℤ w *ℤ ax) -ℤ R *ℤ (y -ℤ w *ℤ ay) ≡ w *ℤ (R *ℤ (ay -ℤ pos 1 *ℤ cy) -ℤ D *ℤ (ax -ℤ pos 1 *ℤ cx))
    shifted R D x y w ax ay cx cy h =
        let e : D *ℤ (x -ℤ w *ℤ ax) -ℤ R *ℤ (y -ℤ w *ℤ ay)
        ≡ w *ℤ (R *ℤ (ay -ℤ pos 1 *ℤ cy) -ℤ D *ℤ (ax -ℤ pos 1 *ℤ cx)) -ℤ (R *ℤ (y -ℤ w *ℤ cy) -ℤ D *ℤ (x -ℤ w *ℤ cx)) = simp monomials (omega (arith, ints)) in
        e ∙ ap (λ (z : ℤ). w *ℤ (R *ℤ (ay -ℤ pos 1 *ℤ cy) -ℤ D *ℤ (ax -ℤ pos 1 *ℤ cx)) -ℤ z) h ∙ drop (w *ℤ (R *ℤ (ay -ℤ pos 1 *ℤ cy) -ℤ D *ℤ (ax -ℤ pos 1 *ℤ cx)))
      where
        drop : (m : ℤ) → m -ℤ pos 0 ≡ m
        drop m = omega (arith, ints)

not_zero : (z : ℤ) → ¬ (z ≡ pos 0) → is_not_zero z ≡ true
not_zero z h = grind (arith, ints)

pub zero_not : (z : ℤ) → is_not_zero z ≡ true → ¬ (z ≡ pos 0)
zero_not z h k = plain (subst (λ (y : ℤ). is_not_zero y ≡ true) k h)
  where
    plain : is_not_zero (pos 0) ≡ true → ⊥
    plain h = cc

true_or_false : (t : Bool) → t ≡ true → t ≡ false → ⊥
true_or_false t h k = cc

-- no point is shared if the test fails
pub no_meeting : (e f : Edge) → do_cross e f ≡ false → HaveNoMeeting e f
no_meeting e f h = record {
  none = λ p wide m.
      let flipped : ¬ (turn_of f e ≡ pos 0) = λ k. m.turning (back (turn_of e f) (turn_of f e) (turn-flip e f) k) in
      let first = crossed e f p wide m.first (level_of f p m.second) m.turning in
      let second = crossed f e p wide m.second (level_of e p m.first) flipped in
      true_or_false (do_cross e f) (rw (not_zero (turn_of e f) m.turning, first, second) refl) h;
}
  where
    back : (d t : ℤ) → t ≡ neg_ℤ d → t ≡ pos 0 → d ≡ pos 0
    back d t h k = omega (arith, ints)

-- the point that divides an edge is on it
pub between_divided : (a b n w : ℤ) → pos 0 ≤ℤ n → n ≤ℤ w → pos 0 <ℤ w → is_between a b (nat_abs w) (w *ℤ a -ℤ n *ℤ (a -ℤ b)) ≡ true
between_divided a b n w hn hw positive = rw (abs_positive w positive) (by_lt_z b a down up)
  where
    z : ℤ
    z = w *ℤ a -ℤ n *ℤ (a -ℤ b)

    from : (m k : ℤ) (d : ℤ) → k ≡ m +ℤ d → pos 0 ≤ℤ d → m ≤ℤ k
    from m k d e h = omega (arith, ints)

    way : (m k : ℤ) → m ≤ℤ k → pos 0 ≤ℤ (k -ℤ m)
    way m k h = omega (arith, ints)

    way_less : (m k : ℤ) → m <ℤ k → pos 0 ≤ℤ (k -ℤ m)
    way_less m k h = omega (arith, ints)

    up : a ≤ℤ b → (int_le (w *ℤ a) (w *ℤ a -ℤ n *ℤ (a -ℤ b)) && int_le (w *ℤ a -ℤ n *ℤ (a -ℤ b)) (w *ℤ b) || int_le (w *ℤ b) (w *ℤ a -ℤ n *ℤ (a -ℤ b)) && int_le (w *ℤ a -ℤ n *ℤ (a -ℤ b)) (w *ℤ a)) ≡ true
    up h =
        let first = le_true (w *ℤ a) (w *ℤ a -ℤ n *ℤ (a -ℤ b)) (from _ _ (n *ℤ (b -ℤ a)) (simp monomials (omega (arith, ints))) (times_not_negative n (b -ℤ a) hn (way a b h))) in
        let last = le_true (w *ℤ a -ℤ n *ℤ (a -ℤ b)) (w *ℤ b) (from _ _ ((w -ℤ n) *ℤ (b -ℤ a)) (simp monomials (omega (arith, ints))) (times_not_negative (w -ℤ n) (b -ℤ a) (way n w hw) (way a b h))) in
        rw (first, last) refl

    down : b <ℤ a → (int_le (w *ℤ a) (w *ℤ a -ℤ n *ℤ (a -ℤ b)) && int_le (w *ℤ a -ℤ n *ℤ (a -ℤ b)) (w *ℤ b) || int_le (w *ℤ b) (w *ℤ a -ℤ n *ℤ (a -ℤ b)) && int_le (w *ℤ a -ℤ n *ℤ (a -ℤ b)) (w *ℤ a)) ≡ true
    down h =
        let first = le_true (w *ℤ a -ℤ n *ℤ (a -ℤ b)) (w *ℤ a) (from _ _ (n *ℤ (a -ℤ b)) (simp monomials (omega (arith, ints))) (times_not_negative n (a -ℤ b) hn (way_less b a h))) in
        let last = le_true (w *ℤ b) (w *ℤ a -ℤ n *ℤ (a -ℤ b)) (from _ _ ((w -ℤ n) *ℤ (a -ℤ b)) (simp monomials (omega (arith, ints))) (times_not_negative (w -ℤ n) (a -ℤ b) (way n w hw) (way_less b a h))) in
        last_true (int_le (w *ℤ a) (w *ℤ a -ℤ n *ℤ (a -ℤ b)) && int_le (w *ℤ a -ℤ n *ℤ (a -ℤ b)) (w *ℤ b)) (rw (last, first) refl)
      where
        last_true : {d : Bool} (c : Bool) → d ≡ true → (c || d) ≡ true
        last_true true h = refl
        last_true false h = h

all_three : (a b c : Bool) → a ≡ true → b ≡ true → c ≡ true → (a && b && c) ≡ true
all_three a b c h k l = rw (h, k, l) refl

pub divided_on : (e : Edge) (n w : ℤ) → pos 0 ≤ℤ n → n ≤ℤ w → pos 0 <ℤ w → is_on e (divided e n w) ≡ true
divided_on e n w hn hw positive = all_three _ _ _
    (level (side e (divided e n w)) (flat e.a.x e.a.y e.b.x e.b.y n w (pos (nat_abs w)) (abs_positive w positive)))
    (between_divided e.a.x e.b.x n w hn hw positive) (between_divided e.a.y e.b.y n w hn hw positive)
  where
    level : (z : ℤ) → z ≡ pos 0 → int_eq z (pos 0) ≡ true
    level z h = rw h refl

    flat : (ax ay bx by n w v : ℤ) → v ≡ w →
        (bx -ℤ ax) *ℤ ((w *ℤ ay -ℤ n *ℤ (ay -ℤ by)) -ℤ v *ℤ ay) -ℤ (by -ℤ ay) *ℤ ((w *ℤ ax -ℤ n *ℤ (ax -ℤ bx)) -ℤ v *ℤ ax) ≡ pos 0
    flat ax ay bx by n w v h = rw h (simp monomials (omega (arith, ints)))

same_point : (p q : Point) → p.x ≡ q.x → p.y ≡ q.y → p.w ≡ q.w → p ≡ q
same_point p q h k l = λ i. record { x = h i; y = k i; w = l i }

-- the point in which one edge divides another divides it as well
lifted : (w n m a b c k : ℤ) → n *ℤ (b -ℤ a) ≡ w *ℤ (c -ℤ a) +ℤ m *ℤ (k -ℤ c) → w *ℤ a -ℤ n *ℤ (a -ℤ b) ≡ w *ℤ c -ℤ m *ℤ (c -ℤ k)
lifted w n m a b c k h = first ∙ ap (λ (z : ℤ). w *ℤ a +ℤ z) h ∙ last
  where
    first : w *ℤ a -ℤ n *ℤ (a -ℤ b) ≡ w *ℤ a +ℤ n *ℤ (b -ℤ a)
    first = simp monomials (omega (arith, ints))

    last : w *ℤ a +ℤ (w *ℤ (c -ℤ a) +ℤ m *ℤ (k -ℤ c)) ≡ w *ℤ c -ℤ m *ℤ (c -ℤ k)
    last = simp monomials (omega (arith, ints))

divided_both : (e f : Edge) → divided e (side f (at e.a)) (turn_of e f) ≡ divided f (neg_ℤ (side e (at f.a))) (turn_of e f)
divided_both e f = same_point _ _
    (lifted (turn_of e f) (side f (at e.a)) (neg_ℤ (side e (at f.a))) e.a.x e.b.x f.a.x f.b.x (plain_x (run e) (rise e) (run f) (rise f) e.a.x e.a.y f.a.x f.a.y))
    (lifted (turn_of e f) (side f (at e.a)) (neg_ℤ (side e (at f.a))) e.a.y e.b.y f.a.y f.b.y (plain_y (run e) (rise e) (run f) (rise f) e.a.x e.a.y f.a.x f.a.y)) refl
  where
    plain_x : (r d R D ax ay cx cy : ℤ) →
        (R *ℤ (ay -ℤ pos 1 *ℤ cy) -ℤ D *ℤ (ax -ℤ pos 1 *ℤ cx)) *ℤ r
        ≡ (r *ℤ D -ℤ R *ℤ d) *ℤ (cx -ℤ ax) +ℤ neg_ℤ (r *ℤ (cy -ℤ pos 1 *ℤ ay) -ℤ d *ℤ (cx -ℤ pos 1 *ℤ ax)) *ℤ R
    plain_x r d R D ax ay cx cy = simp monomials (omega (arith, ints))

    plain_y : (r d R D ax ay cx cy : ℤ) →
        (R *ℤ (ay -ℤ pos 1 *ℤ cy) -ℤ D *ℤ (ax -ℤ pos 1 *ℤ cx)) *ℤ d
        ≡ (r *ℤ D -ℤ R *ℤ d) *ℤ (cy -ℤ ay) +ℤ neg_ℤ (r *ℤ (cy -ℤ pos 1 *ℤ ay) -ℤ d *ℤ (cx -ℤ pos 1 *ℤ ax)) *ℤ D
    plain_y r d R D ax ay cx cy = simp monomials (omega (arith, ints))

divided_both_over : (e f : Edge) → divided e (neg_ℤ (side f (at e.a))) (neg_ℤ (turn_of e f)) ≡ divided f (side e (at f.a)) (neg_ℤ (turn_of e f))
divided_both_over e f = same_point _ _
    (swapped (turn_of e f) (side f (at e.a)) (side e (at f.a)) e.a.x e.b.x f.a.x f.b.x (ap (λ (p : Point). p.x) (divided_both e f)))
    (swapped (turn_of e f) (side f (at e.a)) (side e (at f.a)) e.a.y e.b.y f.a.y f.b.y (ap (λ (p : Point). p.y) (divided_both e f))) refl
  where
    swapped : (d t s a b c k : ℤ) → d *ℤ a -ℤ t *ℤ (a -ℤ b) ≡ d *ℤ c -ℤ neg_ℤ s *ℤ (c -ℤ k)
        → neg_ℤ d *ℤ a -ℤ neg_ℤ t *ℤ (a -ℤ b) ≡ neg_ℤ d *ℤ c -ℤ s *ℤ (c -ℤ k)
    swapped d t s a b c k h = left ∙ ap neg_ℤ h ∙ right
      where
        left : neg_ℤ d *ℤ a -ℤ neg_ℤ t *ℤ (a -ℤ b) ≡ neg_ℤ (d *ℤ a -ℤ t *ℤ (a -ℤ b))
        left = simp monomials (omega (arith, ints))

        right : neg_ℤ (d *ℤ c -ℤ neg_ℤ s *ℤ (c -ℤ k)) ≡ neg_ℤ d *ℤ c -ℤ s *ℤ (c -ℤ k)
        right = simp monomials (omega (arith, ints))

-- if 0 is between two numbers that differ by a third
pub record IsPartOf (n w : ℤ) : Type 0 where
  pub from : pos 0 ≤ℤ n
  pub to : n ≤ℤ w

part_up : (t d : ℤ) → pos 0 <ℤ d → is_zero_between t (t -ℤ d) ≡ true → IsPartOf t d
part_up t d hd h = elim (apart t (t -ℤ d) h) [
  | Up a b ↦ absurd (no t d hd a b)
  | Down a b ↦ record { from = b; to = to t d a }
]
  where
    no : (t d : ℤ) → pos 0 <ℤ d → t ≤ℤ pos 0 → pos 0 ≤ℤ (t -ℤ d) → ⊥
    no t d h k l = omega (arith, ints)

    to : (t d : ℤ) → (t -ℤ d) ≤ℤ pos 0 → t ≤ℤ d
    to t d h = omega (arith, ints)

part_down : (t d : ℤ) → d <ℤ pos 0 → is_zero_between t (t -ℤ d) ≡ true → IsPartOf (neg_ℤ t) (neg_ℤ d)
part_down t d hd h = elim (apart t (t -ℤ d) h) [
  | Up a b ↦ record { from = from t a; to = to t d b }
  | Down a b ↦ absurd (no t d hd a b)
]
  where
    no : (t d : ℤ) → d <ℤ pos 0 → (t -ℤ d) ≤ℤ pos 0 → pos 0 ≤ℤ t → ⊥
    no t d h k l = omega (arith, ints)

    from : (t : ℤ) → t ≤ℤ pos 0 → pos 0 ≤ℤ neg_ℤ t
    from t h = omega (arith, ints)

    to : (t d : ℤ) → pos 0 ≤ℤ (t -ℤ d) → neg_ℤ t ≤ℤ neg_ℤ d
    to t d h = omega (arith, ints)

-- the meaning of the test of two edges
pub record IsCrossing (e f : Edge) : Type 0 where
  pub turning : ¬ (turn_of e f ≡ pos 0)
  pub crossed : is_zero_between (side f (at e.a)) (side f (at e.a) -ℤ turn_of e f) ≡ true
  pub crossing : is_zero_between (side e (at f.a)) (side e (at f.a) -ℤ turn_of f e) ≡ true

pub crossing_of : (e f : Edge) → do_cross e f ≡ true → IsCrossing e f
crossing_of e f h =
    let both = and_first (is_not_zero (turn_of e f) && is_zero_between (side f (at e.a)) (side f (at e.b))) _ h in
    record {
      turning = zero_not (turn_of e f) (and_first _ _ both);
      crossed = subst (λ (z : ℤ). is_zero_between (side f (at e.a)) z ≡ true) (side_last e f) (and_second (is_not_zero (turn_of e f)) _ both);
      crossing = subst (λ (z : ℤ). is_zero_between (side e (at f.a)) z ≡ true) (side_last f e) (and_second (is_not_zero (turn_of e f) && is_zero_between (side f (at e.a)) (side f (at e.b))) _ h);
    }

pub from_up : (e f : Edge) → do_cross e f ≡ true → pos 0 <ℤ turn_of e f → IsPartOf (side f (at e.a)) (turn_of e f)
from_up e f h up = part_up (side f (at e.a)) (turn_of e f) up (crossing_of e f h).crossed

pub from_down : (e f : Edge) → do_cross e f ≡ true → turn_of e f <ℤ pos 0 → IsPartOf (neg_ℤ (side f (at e.a))) (neg_ℤ (turn_of e f))
from_down e f h down = part_down (side f (at e.a)) (turn_of e f) down (crossing_of e f h).crossed

pub meeting_up : (e f : Edge) → do_cross e f ≡ true → pos 0 <ℤ turn_of e f → IsMeeting e f (divided e (side f (at e.a)) (turn_of e f))
meeting_up e f h up =
    let k = crossing_of e f h in
    let n = from_up e f h up in
    let m : IsPartOf (neg_ℤ (side e (at f.a))) (neg_ℤ (turn_of f e)) = part_down (side e (at f.a)) (turn_of f e) (turned (turn_of e f) (turn_of f e) (turn-flip e f) up) k.crossing in
    record {
      turning = k.turning;
      first = divided_on e (side f (at e.a)) (turn_of e f) n.from n.to up;
      second = subst (λ (p : Point). is_on f p ≡ true) (sym (divided_both e f)) (divided_on f (neg_ℤ (side e (at f.a))) (turn_of e f) m.from (subst (λ (z : ℤ). neg_ℤ (side e (at f.a)) ≤ℤ z) (back (turn_of e f) (turn_of f e) (turn-flip e f)) m.to) up);
    }
  where
    turned : (d t : ℤ) → t ≡ neg_ℤ d → pos 0 <ℤ d → t <ℤ pos 0
    turned d t h k = omega (arith, ints)

    back : (d t : ℤ) → t ≡ neg_ℤ d → neg_ℤ t ≡ d
    back d t h = omega (arith, ints)

pub meeting_down : (e f : Edge) → do_cross e f ≡ true → turn_of e f <ℤ pos 0 → IsMeeting e f (divided e (neg_ℤ (side f (at e.a))) (neg_ℤ (turn_of e f)))
meeting_down e f h down =
    let k = crossing_of e f h in
    let n = from_down e f h down in
    let positive : pos 0 <ℤ neg_ℤ (turn_of e f) = opposite (turn_of e f) down in
    let m : IsPartOf (side e (at f.a)) (turn_of f e) = part_up (side e (at f.a)) (turn_of f e) (turned (turn_of e f) (turn_of f e) (turn-flip e f) down) k.crossing in
    record {
      turning = k.turning;
      first = divided_on e (neg_ℤ (side f (at e.a))) (neg_ℤ (turn_of e f)) n.from n.to positive;
      second = subst (λ (p : Point). is_on f p ≡ true) (sym (divided_both_over e f)) (divided_on f (side e (at f.a)) (neg_ℤ (turn_of e f)) m.from (subst (λ (z : ℤ). side e (at f.a) ≤ℤ z) (turn-flip e f) m.to) positive);
    }
  where
    opposite : (a : ℤ) → a <ℤ pos 0 → pos 0 <ℤ neg_ℤ a
    opposite a h = omega (arith, ints)

    turned : (d t : ℤ) → t ≡ neg_ℤ d → d <ℤ pos 0 → pos 0 <ℤ t
    turned d t h k = omega (arith, ints)

-- the same of the numbers as 128 bits hold them
held_opposite : (s : ℤ) → nat_abs s ≤ greatest_turn → to_z w128 (of_z w128 (pos 0 -ℤ to_z w128 (of_z w128 s))) ≡ neg_ℤ s
held_opposite s h = ap (λ (z : ℤ). to_z w128 (of_z w128 (pos 0 -ℤ z))) (held_turn s h) ∙ held_turn (pos 0 -ℤ s) (small s h) ∙ same s
  where
    small : (s : ℤ) → nat_abs s ≤ greatest_turn → nat_abs (pos 0 -ℤ s) ≤ greatest_turn
    small s h = omega (arith, ints)

    same : (s : ℤ) → pos 0 -ℤ s ≡ neg_ℤ s
    same s = omega (arith, ints)

part_as : (n w n' w' : ℤ) → n' ≡ n → w' ≡ w → IsPartOf n w → IsPartOf n' w'
part_as n w n' w' h k p = record {
  from = subst (λ (z : ℤ). pos 0 ≤ℤ z) (sym h) p.from;
  to = subst (λ (z : ℤ). n' ≤ℤ z) (sym k) (subst (λ (z : ℤ). z ≤ℤ w) (sym h) p.to);
}

low : (e f : Edge) (t : ℤ) → t ≡ turn_of e f → nat_abs t ≤ greatest_turn → to_z w128 (of_z w128 t) <ℤ pos 0 → turn_of e f <ℤ pos 0
low e f t is h k = subst (λ (z : ℤ). z <ℤ pos 0) (held_turn t h ∙ is) k

high : (e f : Edge) (t : ℤ) → do_cross e f ≡ true → t ≡ turn_of e f → nat_abs t ≤ greatest_turn → pos 0 ≤ℤ to_z w128 (of_z w128 t) → pos 0 <ℤ turn_of e f
high e f t cross is h k = plain (turn_of e f) (crossing_of e f cross).turning (subst (λ (z : ℤ). pos 0 ≤ℤ z) (held_turn t h ∙ is) k)
  where
    plain : (z : ℤ) → ¬ (z ≡ pos 0) → pos 0 ≤ℤ z → pos 0 <ℤ z
    plain z some h = by_lt_z (pos 0) z (λ yes. yes) (λ no. absurd (some (same z h no)))
      where
        same : (z : ℤ) → pos 0 ≤ℤ z → z ≤ℤ pos 0 → z ≡ pos 0
        same z h k = omega (arith, ints)

pub down_part : (e f : Edge) (s t : ℤ) → do_cross e f ≡ true → s ≡ side f (at e.a) → t ≡ turn_of e f
    → nat_abs s ≤ greatest_turn → nat_abs t ≤ greatest_turn → to_z w128 (of_z w128 t) <ℤ pos 0
    → IsPartOf (to_z w128 (of_z w128 (pos 0 -ℤ to_z w128 (of_z w128 s)))) (to_z w128 (of_z w128 (pos 0 -ℤ to_z w128 (of_z w128 t))))
down_part e f s t cross es et hs ht down =
    part_as _ _ _ _ (held_opposite s hs ∙ ap neg_ℤ es) (held_opposite t ht ∙ ap neg_ℤ et) (from_down e f cross (low e f t et ht down))

pub down_positive : (e f : Edge) (t : ℤ) → t ≡ turn_of e f → nat_abs t ≤ greatest_turn → to_z w128 (of_z w128 t) <ℤ pos 0
    → pos 0 <ℤ to_z w128 (of_z w128 (pos 0 -ℤ to_z w128 (of_z w128 t)))
down_positive e f t et ht down = subst (λ (z : ℤ). pos 0 <ℤ z) (sym (held_opposite t ht)) (plain t (subst (λ (z : ℤ). z <ℤ pos 0) (held_turn t ht) down))
  where
    plain : (z : ℤ) → z <ℤ pos 0 → pos 0 <ℤ neg_ℤ z
    plain z h = omega (arith, ints)

pub up_part : (e f : Edge) (s t : ℤ) → do_cross e f ≡ true → s ≡ side f (at e.a) → t ≡ turn_of e f
    → nat_abs s ≤ greatest_turn → nat_abs t ≤ greatest_turn → pos 0 ≤ℤ to_z w128 (of_z w128 t)
    → IsPartOf (to_z w128 (of_z w128 s)) (to_z w128 (of_z w128 t))
up_part e f s t cross es et hs ht up =
    part_as _ _ _ _ (held_turn s hs ∙ es) (held_turn t ht ∙ et) (from_up e f cross (high e f t cross et ht up))

pub up_positive : (e f : Edge) (t : ℤ) → do_cross e f ≡ true → t ≡ turn_of e f → nat_abs t ≤ greatest_turn → pos 0 ≤ℤ to_z w128 (of_z w128 t)
    → pos 0 <ℤ to_z w128 (of_z w128 t)
up_positive e f t cross et ht up = subst (λ (z : ℤ). pos 0 <ℤ z) (sym (held_turn t ht ∙ et)) (high e f t cross et ht up)

pub down_meeting : (e f : Edge) (s t : ℤ) (p : Point) → do_cross e f ≡ true → s ≡ side f (at e.a) → t ≡ turn_of e f
    → nat_abs s ≤ greatest_turn → nat_abs t ≤ greatest_turn → to_z w128 (of_z w128 t) <ℤ pos 0
    → p ≡ divided e (to_z w128 (of_z w128 (pos 0 -ℤ to_z w128 (of_z w128 s)))) (to_z w128 (of_z w128 (pos 0 -ℤ to_z w128 (of_z w128 t))))
    → IsMeeting e f p
down_meeting e f s t p cross es et hs ht down is =
    subst (IsMeeting e f)
    (sym (is ∙ ap (λ (z : ℤ). divided e z (to_z w128 (of_z w128 (pos 0 -ℤ to_z w128 (of_z w128 t))))) (held_opposite s hs ∙ ap neg_ℤ es)
    ∙ ap (λ (z : ℤ). divided e (neg_ℤ (side f (at e.a))) z) (held_opposite t ht ∙ ap neg_ℤ et)))
    (meeting_down e f cross (low e f t et ht down))

pub up_meeting : (e f : Edge) (s t : ℤ) (p : Point) → do_cross e f ≡ true → s ≡ side f (at e.a) → t ≡ turn_of e f
    → nat_abs s ≤ greatest_turn → nat_abs t ≤ greatest_turn → pos 0 ≤ℤ to_z w128 (of_z w128 t)
    → p ≡ divided e (to_z w128 (of_z w128 s)) (to_z w128 (of_z w128 t)) → IsMeeting e f p
up_meeting e f s t p cross es et hs ht up is =
    subst (IsMeeting e f)
    (sym (is ∙ ap (λ (z : ℤ). divided e z (to_z w128 (of_z w128 t))) (held_turn s hs ∙ es) ∙ ap (λ (z : ℤ). divided e (side f (at e.a)) z) (held_turn t ht ∙ et)))
    (meeting_up e f cross (high e f t cross et ht up))
