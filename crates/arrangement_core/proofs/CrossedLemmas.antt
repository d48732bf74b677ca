-- An edge that crosses another is below the one side of it and not below the other.
use Rattle.std.proofs.Common.{◌≡◌, ◌≢◌, ◌<◌, arith, refl, sym, subst, ap, ◌∙◌, true, false}
use Rattle.std.specs.Prelude.{ℤ, pos, neg_ℤ, ◌*ℤ◌, ◌-ℤ◌, ◌≤ℤ◌, ◌<ℤ◌, Bool, ◌&&◌, not, int_lt, int_le}
use Rattle.std.proofs.lemmas.Int.{ints, by_lt_z}
use Rattle.plane_core.specs.declared.edge.Edge.{Edge}
use Rattle.plane_core.specs.declared.vertex.Vertex.{Vertex}
use Rattle.plane_core.specs.Points.{Point, at, side, is_on, is_below, run, rise, turn_of, IsSamePlace}
use Rattle.plane_core.specs.Figures.{HasLength}
use Rattle.plane_core.proofs.Ring.{monomials, times-zero}
use Rattle.plane_core.proofs.Signs.{times_positive, positive_factor, wide_z}
use Rattle.plane_core.proofs.ScaleLemmas.{less_scaled, no_less_scaled}
use Rattle.noding_core.proofs.CrossLemmas.{same_column}
use Rattle.noding_core.proofs.FlipLemmas.{first_level, last_level}
use Rattle.noding_core.proofs.LineLemmas.{Rightward, IsWithin, within_from_on, up_to_x, end_from, end_to}
use Rattle.noding_core.proofs.OrderLemmas.{zero_factor}
use Rattle.noding_core.proofs.PieceLemmas.{line_shared, level_mix}
use Rattle.noding_core.proofs.RingLemmas.{differ}
use Rattle.noding_core.proofs.TestLemmas.{le_true, le_false, lt_true, lt_false, true_le, false_le}
use Rattle.noding_core.proofs.WayLemmas.{on_way_wide, over, over_way, over_column, is_under, IsBetween, under_first, under_second, spanned}
use Rattle.noding_core.proofs.WayEdgeLemmas.{is_passed}

-- ---- over plain numbers

-- along a line, the side of another edge by how far a point is from where the two cross
along : (r d R D a b x y w u v z : ℤ) → r *ℤ (v *ℤ w -ℤ y *ℤ z) ≡ d *ℤ (u *ℤ w -ℤ x *ℤ z)
    → r *ℤ (w *ℤ (R *ℤ (v -ℤ z *ℤ b) -ℤ D *ℤ (u -ℤ z *ℤ a)) -ℤ z *ℤ (R *ℤ (y -ℤ w *ℤ b) -ℤ D *ℤ (x -ℤ w *ℤ a))) ≡ (r *ℤ D -ℤ R *ℤ d) *ℤ (x *ℤ z -ℤ u *ℤ w)
along r d R D a b x y w u v z h =
    let g : R *ℤ (r *ℤ (v *ℤ w -ℤ y *ℤ z)) ≡ R *ℤ (d *ℤ (u *ℤ w -ℤ x *ℤ z)) = ap (λ (n : ℤ). R *ℤ n) h in
    plain _ _ _ _ _ (ring r R D a b x y w u v z) (turned R r d D x z u w) g
  where
    ring : (r R D a b x y w u v z : ℤ) → r *ℤ (w *ℤ (R *ℤ (v -ℤ z *ℤ b) -ℤ D *ℤ (u -ℤ z *ℤ a)) -ℤ z *ℤ (R *ℤ (y -ℤ w *ℤ b) -ℤ D *ℤ (x -ℤ w *ℤ a)))
        ≡ R *ℤ (r *ℤ (v *ℤ w -ℤ y *ℤ z)) -ℤ (r *ℤ D) *ℤ (u *ℤ w -ℤ x *ℤ z)
    ring r R D a b x y w u v z = simp monomials (omega (arith, ints))

    turned : (R r d D x z u w : ℤ) → (r *ℤ D -ℤ R *ℤ d) *ℤ (x *ℤ z -ℤ u *ℤ w) ≡ R *ℤ (d *ℤ (u *ℤ w -ℤ x *ℤ z)) -ℤ (r *ℤ D) *ℤ (u *ℤ w -ℤ x *ℤ z)
    turned R r d D x z u w = simp monomials (omega (arith, ints))

    plain : (k m n o q : ℤ) → m ≡ n -ℤ k → q ≡ o -ℤ k → n ≡ o → m ≡ q
    plain k m n o q h g l = omega (arith, ints)

way_level : (r d a b x y w u v z : ℤ) → r *ℤ (y -ℤ w *ℤ b) -ℤ d *ℤ (x -ℤ w *ℤ a) ≡ pos 0 → r *ℤ (v -ℤ z *ℤ b) -ℤ d *ℤ (u -ℤ z *ℤ a) ≡ pos 0 → r *ℤ (v *ℤ w -ℤ y *ℤ z) ≡ d *ℤ (u *ℤ w -ℤ x *ℤ z)
way_level r d a b x y w u v z h k =
    let hz : z *ℤ (r *ℤ (y -ℤ w *ℤ b) -ℤ d *ℤ (x -ℤ w *ℤ a)) ≡ pos 0 = ap (λ (n : ℤ). z *ℤ n) h ∙ times-zero z in
    let kw : w *ℤ (r *ℤ (v -ℤ z *ℤ b) -ℤ d *ℤ (u -ℤ z *ℤ a)) ≡ pos 0 = ap (λ (n : ℤ). w *ℤ n) k ∙ times-zero w in
    plain _ _ _ _ (ring r d a b x y w u v z) hz kw
  where
    ring : (r d a b x y w u v z : ℤ) → w *ℤ (r *ℤ (v -ℤ z *ℤ b) -ℤ d *ℤ (u -ℤ z *ℤ a)) -ℤ z *ℤ (r *ℤ (y -ℤ w *ℤ b) -ℤ d *ℤ (x -ℤ w *ℤ a)) ≡ r *ℤ (v *ℤ w -ℤ y *ℤ z) -ℤ d *ℤ (u *ℤ w -ℤ x *ℤ z)
    ring r d a b x y w u v z = simp monomials (omega (arith, ints))

    plain : (m n k l : ℤ) → m -ℤ n ≡ k -ℤ l → n ≡ pos 0 → m ≡ pos 0 → k ≡ l
    plain m n k l e h g = omega (arith, ints)

-- a factor's sign
sign_same : (r s t a : ℤ) → pos 0 <ℤ r → pos 0 <ℤ a → r *ℤ s ≡ t *ℤ a → int_lt (pos 0) s ≡ int_lt (pos 0) t
sign_same r s t a hr ha e = by_lt_z (pos 0) t
    (λ up. lt_true _ _ (positive_factor r s hr (subst (λ (n : ℤ). pos 0 <ℤ n) (sym e) (times_positive t a up ha))) ∙ sym (lt_true _ _ up))
    (λ down. by_lt_z (pos 0) s
    (λ up. absurd (wrong t a _ ha (subst (λ (n : ℤ). pos 0 <ℤ n) e (times_positive r s hr up)) down refl))
    (λ also. lt_false _ _ also ∙ sym (lt_false _ _ down)))
  where
    wrong : (t a n : ℤ) → pos 0 <ℤ a → pos 0 <ℤ n → t ≤ℤ pos 0 → n ≡ t *ℤ a → ⊥
    wrong t a n ha hn ht e = by_lt_z t (pos 0)
        (λ low. none n _ (turned t a) hn e (times_positive (neg_ℤ t) a (opposite t low) ha))
        (λ no. zero n hn (e ∙ ap (λ (m : ℤ). m *ℤ a) (meet t ht no) ∙ ring a))
      where
        turned : (t a : ℤ) → neg_ℤ t *ℤ a ≡ neg_ℤ (t *ℤ a)
        turned t a = simp monomials

        opposite : (t : ℤ) → t <ℤ pos 0 → pos 0 <ℤ neg_ℤ t
        opposite t h = omega (arith, ints)

        none : {k : ℤ} (n m : ℤ) → m ≡ neg_ℤ k → pos 0 <ℤ n → n ≡ k → pos 0 <ℤ m → ⊥
        none {k} n m e h g l = omega (arith, ints, e, h, g, l)

        meet : (t : ℤ) → t ≤ℤ pos 0 → pos 0 ≤ℤ t → t ≡ pos 0
        meet t h k = omega (arith, ints)

        ring : (a : ℤ) → pos 0 *ℤ a ≡ pos 0
        ring a = simp monomials

        zero : (n : ℤ) → pos 0 <ℤ n → n ≡ pos 0 → ⊥
        zero n h k = omega (arith, ints)

sign_other : (r s t a : ℤ) → pos 0 <ℤ r → pos 0 <ℤ a → t ≢ pos 0 → r *ℤ s ≡ neg_ℤ (t *ℤ a) → int_lt (pos 0) s ≡ not (int_lt (pos 0) t)
sign_other r s t a hr ha some e =
    sign_same r s (neg_ℤ t) a hr ha (e ∙ turned t a) ∙ other t some
  where
    turned : (t a : ℤ) → neg_ℤ (t *ℤ a) ≡ neg_ℤ t *ℤ a
    turned t a = simp monomials

    other : (t : ℤ) → t ≢ pos 0 → int_lt (pos 0) (neg_ℤ t) ≡ not (int_lt (pos 0) t)
    other t some = by_lt_z (pos 0) t
        (λ up. lt_false _ _ (down t up) ∙ sym (ap not (lt_true _ _ up)))
        (λ low. by_lt_z t (pos 0)
        (λ less. lt_true _ _ (opposite t less) ∙ sym (ap not (lt_false _ _ low)))
        (λ no. absurd (some (meet t low no))))
      where
        down : (t : ℤ) → pos 0 <ℤ t → neg_ℤ t ≤ℤ pos 0
        down t h = omega (arith, ints)

        opposite : (t : ℤ) → t <ℤ pos 0 → pos 0 <ℤ neg_ℤ t
        opposite t h = omega (arith, ints)

        meet : (t : ℤ) → t ≤ℤ pos 0 → pos 0 ≤ℤ t → t ≡ pos 0
        meet t h k = omega (arith, ints)

-- by which of two columns an edge's ends are behind
flip_table : (ap bp aq bq sp sq ua ub : Bool) → bp ≡ false → aq ≡ true
    → (ap ≡ true → bq ≡ false → sp ≡ not sq) → (ap ≡ true → bq ≡ true → sp ≡ not ub) → (ap ≡ false → bq ≡ false → ua ≡ not sq) → (ap ≡ false → bq ≡ true → ua ≡ not ub)
    → differ ((ap && not bp) && sp) (differ ((aq && not bq) && sq) true) ≡ differ ((not ap && aq) && ua) ((not bp && bq) && ub)
flip_table true bp aq false sp sq ua ub hb ha pq pb aq_ ab = rw (hb, ha) (turn sp sq (pq refl refl))
  where
    turn : (s t : Bool) → s ≡ not t → differ s (differ t true) ≡ false
    turn s true h = rw h refl
    turn s false h = rw h refl
flip_table true bp aq true sp sq ua ub hb ha pq pb aq_ ab = rw (hb, ha) (turn sp ub (pb refl refl))
  where
    turn : (s t : Bool) → s ≡ not t → differ s true ≡ t
    turn s true h = rw h refl
    turn s false h = rw h refl
flip_table false bp aq false sp sq ua ub hb ha pq pb aq_ ab = rw (hb, ha) (turn ua sq (aq_ refl refl))
  where
    turn : (s t : Bool) → s ≡ not t → differ t true ≡ differ s false
    turn s true h = rw h refl
    turn s false h = rw h refl
flip_table false bp aq true sp sq ua ub hb ha pq pb aq_ ab = rw (hb, ha) (turn ua ub (ab refl refl))
  where
    turn : (s t : Bool) → s ≡ not t → true ≡ differ s t
    turn s true h = rw h refl
    turn s false h = rw h refl

two_not : (s t u : Bool) → s ≡ u → t ≡ not u → s ≡ not t
two_not s t true h k = h ∙ sym (ap not k)
two_not s t false h k = h ∙ sym (ap not k)

less : (m n : ℤ) → m ≤ℤ n → m ≢ n → m <ℤ n
less m n h some = by_lt_z m n (λ yes. yes) (λ no. absurd (some (meet m n h no)))
  where
    meet : (m n : ℤ) → m ≤ℤ n → n ≤ℤ m → m ≡ n
    meet m n h k = omega (arith, ints)

weak : (m n : ℤ) → m <ℤ n → m ≤ℤ n
weak m n h = omega (arith, ints)

at_scale : (x w a : ℤ) → x ≡ w *ℤ a → x *ℤ pos 1 ≡ a *ℤ w
at_scale x w a h = rw h (simp monomials)

-- columns of a vertex beside a point, at the scale of another
less_back : (k a b : ℤ) → pos 0 <ℤ k → (k *ℤ a) <ℤ (k *ℤ b) → a <ℤ b
less_back k a b hk h = by_lt_z a b (λ yes. yes) (λ no. absurd (wrong _ _ h (no_less_scaled k b a hk no)))
  where
    wrong : (m n : ℤ) → m <ℤ n → n ≤ℤ m → ⊥
    wrong m n h k = omega (arith, ints)

column_before : (y v x w b : ℤ) → pos 0 <ℤ v → pos 0 <ℤ w → (y *ℤ w) <ℤ (x *ℤ v) → x <ℤ (w *ℤ b) → y <ℤ (v *ℤ b)
column_before y v x w b hv hw h k = less_back w y (v *ℤ b) hw (chain _ _ _ _ (times w y) (turned w v b) h (times v x) (less_scaled v x (w *ℤ b) hv k))
  where
    times : (m n : ℤ) → m *ℤ n ≡ n *ℤ m
    times m n = simp monomials

    turned : (w v b : ℤ) → w *ℤ (v *ℤ b) ≡ v *ℤ (w *ℤ b)
    turned w v b = simp monomials

    chain : {s t : ℤ} (m n o q : ℤ) → m ≡ s → n ≡ q → s <ℤ t → o ≡ t → o <ℤ q → m <ℤ n
    chain {s} {t} m n o q h k l i j = omega (arith, ints, h, k, l, i, j)

column_after : (z v x w a : ℤ) → pos 0 <ℤ v → pos 0 <ℤ w → (x *ℤ v) <ℤ (z *ℤ w) → (w *ℤ a) <ℤ x → (v *ℤ a) <ℤ z
column_after z v x w a hv hw h k = less_back w (v *ℤ a) z hw (chain _ _ _ _ (turned w v a) (times w z) h (times v x) (less_scaled v (w *ℤ a) x hv k))
  where
    times : (m n : ℤ) → m *ℤ n ≡ n *ℤ m
    times m n = simp monomials

    turned : (w v b : ℤ) → w *ℤ (v *ℤ b) ≡ v *ℤ (w *ℤ b)
    turned w v b = simp monomials

    chain : {s t : ℤ} (m n o q : ℤ) → m ≡ q → n ≡ t → s <ℤ t → o ≡ s → q <ℤ o → m <ℤ n
    chain {s} {t} m n o q h k l i j = omega (arith, ints, h, k, l, i, j)

over_less : (z v x w a : ℤ) → z ≡ v *ℤ a → pos 0 <ℤ v → (w *ℤ a) <ℤ x → (z *ℤ w) <ℤ (x *ℤ v)
over_less z v x w a h hv k = chain _ _ _ _ (ap (λ (n : ℤ). n *ℤ w) h ∙ turned v a w) (times x v) (less_scaled v (w *ℤ a) x hv k)
  where
    times : (m n : ℤ) → m *ℤ n ≡ n *ℤ m
    times m n = simp monomials

    turned : (v a w : ℤ) → (v *ℤ a) *ℤ w ≡ v *ℤ (w *ℤ a)
    turned v a w = simp monomials

    chain : (m n o q : ℤ) → m ≡ o → n ≡ q → o <ℤ q → m <ℤ n
    chain m n o q h k l = omega (arith, ints)

over_more : (z v x w b : ℤ) → z ≡ v *ℤ b → pos 0 <ℤ v → x <ℤ (w *ℤ b) → (x *ℤ v) <ℤ (z *ℤ w)
over_more z v x w b h hv k = chain _ _ _ _ (times x v) (ap (λ (n : ℤ). n *ℤ w) h ∙ turned v b w) (less_scaled v x (w *ℤ b) hv k)
  where
    times : (m n : ℤ) → m *ℤ n ≡ n *ℤ m
    times m n = simp monomials

    turned : (v a w : ℤ) → (v *ℤ a) *ℤ w ≡ v *ℤ (w *ℤ a)
    turned v a w = simp monomials

    chain : (m n o q : ℤ) → m ≡ o → n ≡ q → o <ℤ q → m <ℤ n
    chain m n o q h k l = omega (arith, ints)

-- a vertex at the place of a point of a line is on the line
level_end : (e : Edge) (p : Point) (v : Vertex) → 0 < p.w → IsSamePlace p (at v) → side e p ≡ pos 0 → side e (at v) ≡ pos 0
level_end e p v wide same level = zero_factor (pos p.w) (side e (at v)) (wide_z p.w wide) (plain (run e) (rise e) e.a.x e.a.y p.x p.y (pos p.w) v.x v.y same.0 same.1 level)
  where
    plain : (r d a b x y w u v : ℤ) → x *ℤ pos 1 ≡ u *ℤ w → y *ℤ pos 1 ≡ v *ℤ w → r *ℤ (y -ℤ w *ℤ b) -ℤ d *ℤ (x -ℤ w *ℤ a) ≡ pos 0
        → w *ℤ (r *ℤ (v -ℤ pos 1 *ℤ b) -ℤ d *ℤ (u -ℤ pos 1 *ℤ a)) ≡ pos 0
    plain r d a b x y w u v h k e =
        let hx : x ≡ u *ℤ w = sym (one x) ∙ h in
        let hy : y ≡ v *ℤ w = sym (one y) ∙ k in
        ring r d a b w u v ∙ (rw (hx, hy) at e)
      where
        one : (m : ℤ) → m *ℤ pos 1 ≡ m
        one m = simp monomials

        ring : (r d a b w u v : ℤ) → w *ℤ (r *ℤ (v -ℤ pos 1 *ℤ b) -ℤ d *ℤ (u -ℤ pos 1 *ℤ a)) ≡ r *ℤ (v *ℤ w -ℤ w *ℤ b) -ℤ d *ℤ (u *ℤ w -ℤ w *ℤ a)
        ring r d a b w u v = simp monomials (omega (arith, ints))

-- ---- an edge that crosses another

module _ (e f : Edge) (p : Point) (right : e.a.x <ℤ e.b.x) (long : f.a.x <ℤ f.b.x) (wide : 0 < p.w) (on_e : side e p ≡ pos 0) (on_f : side f p ≡ pos 0) (first : side e (at f.a) ≢ pos 0) where
  length_f : HasLength f
  length_f h = differs f.a.x f.b.x long h.0
    where
      differs : (m n : ℤ) → m <ℤ n → m ≡ n → ⊥
      differs m n h k = omega (arith, ints)

  turning : turn_of e f ≢ pos 0
  turning none = first (line_shared f e p (at f.a) length_f wide (turned (run e *ℤ rise f) (run f *ℤ rise e) none) on_f (first_level f) on_e)
    where
      turned : (m n : ℤ) → m -ℤ n ≡ pos 0 → n -ℤ m ≡ pos 0
      turned m n h = omega (arith, ints)

  longer : pos 0 <ℤ run e
  longer = more e.a.x e.b.x right
    where
      more : (a b : ℤ) → a <ℤ b → pos 0 <ℤ (b -ℤ a)
      more a b h = omega (arith, ints)

  by_turn : (z : Point) → side e z ≡ pos 0 → run e *ℤ (pos p.w *ℤ side f z) ≡ turn_of e f *ℤ (p.x *ℤ pos z.w -ℤ z.x *ℤ pos p.w)
  by_turn z level = ap (λ (n : ℤ). run e *ℤ n) (sym (none (pos p.w *ℤ side f z) (pos z.w) (side f p) on_f))
      ∙ along (run e) (rise e) (run f) (rise f) f.a.x f.a.y p.x p.y (pos p.w) z.x z.y (pos z.w) (way_level (run e) (rise e) e.a.x e.a.y p.x p.y (pos p.w) z.x z.y (pos z.w) on_e level)
    where
      none : (m n k : ℤ) → k ≡ pos 0 → m -ℤ n *ℤ k ≡ m
      none m n k h = rw (h, times-zero n) (omega (arith, ints))

  -- before the crossing and after it
  side_before : (z : Point) → side e z ≡ pos 0 → (z.x *ℤ pos p.w) <ℤ (p.x *ℤ pos z.w) → int_lt (pos 0) (side f z) ≡ int_lt (pos 0) (turn_of e f)
  side_before z level before = sign_same (run e *ℤ pos p.w) (side f z) (turn_of e f) _ (times_positive (run e) (pos p.w) longer (wide_z p.w wide)) (more _ _ before) (assoc (run e) (pos p.w) (side f z) ∙ by_turn z level)
    where
      more : (m n : ℤ) → m <ℤ n → pos 0 <ℤ (n -ℤ m)
      more m n h = omega (arith, ints)

      assoc : (m n k : ℤ) → (m *ℤ n) *ℤ k ≡ m *ℤ (n *ℤ k)
      assoc m n k = simp monomials

  side_after : (z : Point) → side e z ≡ pos 0 → (p.x *ℤ pos z.w) <ℤ (z.x *ℤ pos p.w) → int_lt (pos 0) (side f z) ≡ not (int_lt (pos 0) (turn_of e f))
  side_after z level after = sign_other (run e *ℤ pos p.w) (side f z) (turn_of e f) (z.x *ℤ pos p.w -ℤ p.x *ℤ pos z.w) (times_positive (run e) (pos p.w) longer (wide_z p.w wide)) (more _ _ after) turning
      (assoc (run e) (pos p.w) (side f z) ∙ by_turn z level ∙ back (turn_of e f) (p.x *ℤ pos z.w) (z.x *ℤ pos p.w))
    where
      more : (m n : ℤ) → m <ℤ n → pos 0 <ℤ (n -ℤ m)
      more m n h = omega (arith, ints)

      assoc : (m n k : ℤ) → (m *ℤ n) *ℤ k ≡ m *ℤ (n *ℤ k)
      assoc m n k = simp monomials

      back : (t m n : ℤ) → t *ℤ (m -ℤ n) ≡ neg_ℤ (t *ℤ (n -ℤ m))
      back t m n = simp monomials (omega (arith, ints))

  -- the ends of the edge are in columns before and after the crossing
  end_level : (v : Vertex) → p.x ≡ pos p.w *ℤ v.x → side f (at v) ≡ pos 0 → side e (at v) ≡ pos 0
  end_level v column level = level_end e p v wide (same_column f p (at v) long on_f level (at_scale p.x (pos p.w) v.x column)) on_e

module _ (e f : Edge) (p y z : Point) (right : e.a.x <ℤ e.b.x) (long : f.a.x <ℤ f.b.x) (wide : 0 < p.w) (broad_y : 0 < y.w) (broad_z : 0 < z.w) (on_e : side e p ≡ pos 0) (on_f : is_on f p ≡ true)
    (first : side e (at f.a) ≢ pos 0) (last : side e (at f.b) ≢ pos 0) (level_y : side e y ≡ pos 0) (level_z : side e z ≡ pos 0)
    (before : (y.x *ℤ pos p.w) <ℤ (p.x *ℤ pos y.w)) (after : (p.x *ℤ pos z.w) <ℤ (z.x *ℤ pos p.w)) where
  within : IsWithin f p
  within = within_from_on f p (Rightward long) wide on_f

  left : (pos p.w *ℤ f.a.x) <ℤ p.x
  left = less (pos p.w *ℤ f.a.x) p.x (end_from f.a.x p.x (pos p.w) (up_to_x (at f.a) p within.from_))
      (λ h. first (end_level e f p right long wide on_e within.level first f.a (sym h) (first_level f)))

  beyond_p : p.x <ℤ (pos p.w *ℤ f.b.x)
  beyond_p = less p.x (pos p.w *ℤ f.b.x) (end_to f.b.x p.x (pos p.w) (up_to_x p (at f.b) within.to_))
      (λ h. last (end_level e f p right long wide on_e within.level first f.b h (last_level f)))

  -- the last end is after y, and the first is not after z
  b_y : int_le (pos y.w *ℤ f.b.x) y.x ≡ false
  b_y = le_false _ _ (column_before y.x (pos y.w) p.x (pos p.w) f.b.x (wide_z y.w broad_y) (wide_z p.w wide) before beyond_p)

  a_z : int_le (pos z.w *ℤ f.a.x) z.x ≡ true
  a_z = le_true _ _ (weak _ _ (column_after z.x (pos z.w) p.x (pos p.w) f.a.x (wide_z z.w broad_z) (wide_z p.w wide) after left))

  to_a : int_le (pos y.w *ℤ f.a.x) y.x ≡ false → IsBetween y z f.a
  to_a h = record { after = false_le _ _ h; to = true_le _ _ a_z }

  to_b : int_le (pos z.w *ℤ f.b.x) z.x ≡ true → IsBetween y z f.b
  to_b h = record { after = false_le _ _ b_y; to = true_le _ _ h }

  over_level : (v : Vertex) → side e (over y z v) ≡ pos 0
  over_level v = level_mix e _ y _ z level_y level_z

  over_a : (is : IsBetween y z f.a) → is_under y z f.a ≡ int_lt (pos 0) (turn_of e f)
  over_a is = sym (under_first y z f long is) ∙ side_before e f p right long wide on_e within.level first (over y z f.a) (over_level f.a)
      (over_less (over y z f.a).x (pos (over y z f.a).w) p.x (pos p.w) f.a.x (over_column y z f.a is) (wide_z _ (on_way_wide y z (over y z f.a) broad_y broad_z (over_way y z f.a is))) left)

  over_b : (is : IsBetween y z f.b) → is_under y z f.b ≡ not (int_lt (pos 0) (turn_of e f))
  over_b is = sym (under_second y z f long is) ∙ side_after e f p right long wide on_e within.level first (over y z f.b) (over_level f.b)
      (over_more (over y z f.b).x (pos (over y z f.b).w) p.x (pos p.w) f.b.x (over_column y z f.b is) (wide_z _ (on_way_wide y z (over y z f.b) broad_y broad_z (over_way y z f.b is))) beyond_p)

  side_y : int_lt (pos 0) (side f y) ≡ int_lt (pos 0) (turn_of e f)
  side_y = side_before e f p right long wide on_e within.level first y level_y before

  side_z : int_lt (pos 0) (side f z) ≡ not (int_lt (pos 0) (turn_of e f))
  side_z = side_after e f p right long wide on_e within.level first z level_z after

  columns : (q : Point) → 0 < q.w → (pos q.w *ℤ f.a.x) ≤ℤ (pos q.w *ℤ f.b.x)
  columns q wide_q = weak _ _ (less_scaled (pos q.w) f.a.x f.b.x (wide_z q.w wide_q) long)

  pub crossed_rightward : differ (is_below f y) (differ (is_below f z) true) ≡ differ (is_passed y z f.a) (is_passed y z f.b)
  crossed_rightward =
      ap (λ (t : Bool). differ t (differ (is_below f z) true)) (spanned (pos y.w *ℤ f.a.x) (pos y.w *ℤ f.b.x) y.x (int_lt (pos 0) (side f y)) (int_lt (side f y) (pos 0)) (columns y broad_y))
      ∙ ap (λ (t : Bool). differ ((int_le (pos y.w *ℤ f.a.x) y.x && not (int_le (pos y.w *ℤ f.b.x) y.x)) && int_lt (pos 0) (side f y)) (differ t true))
      (spanned (pos z.w *ℤ f.a.x) (pos z.w *ℤ f.b.x) z.x (int_lt (pos 0) (side f z)) (int_lt (side f z) (pos 0)) (columns z broad_z))
      ∙ flip_table (int_le (pos y.w *ℤ f.a.x) y.x) (int_le (pos y.w *ℤ f.b.x) y.x) (int_le (pos z.w *ℤ f.a.x) z.x) (int_le (pos z.w *ℤ f.b.x) z.x)
      (int_lt (pos 0) (side f y)) (int_lt (pos 0) (side f z)) (is_under y z f.a) (is_under y z f.b) b_y a_z
      (λ h k. two_not _ _ _ side_y side_z)
      (λ h k. two_not _ _ _ side_y (over_b (to_b k)))
      (λ h k. two_not _ _ _ (over_a (to_a h)) side_z)
      (λ h k. two_not _ _ _ (over_a (to_a h)) (over_b (to_b k)))
