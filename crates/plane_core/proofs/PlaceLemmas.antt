-- How the point at a place of an edge lies to vertices, to other edges and to other points of the edge.
use Rattle.std.proofs.Common.{◌≡◌, ◌≤◌, ◌*◌, ◌+◌, ◌<◌, inl, inr, to_z, of_z, arith, ap, sym, subst, refl, true, false, Bool, ◌∙◌}
use Rattle.std.specs.Prelude.{ℤ, pos, ◌*ℤ◌, ◌-ℤ◌, ◌+ℤ◌, ◌<ℤ◌, ◌≤ℤ◌, ◌&&◌, nat_abs}
use Rattle.std.specs.Int.{w128}
use Rattle.std.specs.Ordering.{int_cmp, int_eq, is_eq, ordering_then}
use Rattle.std.specs.declared.cmp.Ordering.{Ordering}
use Rattle.std.specs.declared.cmp.Ordering.TheVariants.{Less, Equal, Greater}
use Rattle.std.proofs.lemmas.Bool.{cases_Bool}
use Rattle.std.proofs.lemmas.Int.{ints}
use Rattle.plane_core.specs.declared.edge.Edge.{Edge}
use Rattle.plane_core.specs.declared.place.Place.{Place}
use Rattle.plane_core.specs.declared.vertex.Vertex.{Vertex}
use Rattle.plane_core.specs.Limits.{greatest_coordinate, greatest_turn, greatest_width}
use Rattle.plane_core.specs.Points.{at, run, rise, side, turn_of, is_on, is_at, is_between}
use Rattle.plane_core.specs.Meetings.{divided, part_of_way}
use Rattle.plane_core.specs.Places.{point_of, place_order}
use Rattle.plane_core.proofs.Ring.{monomials, times-one, times_comm}
use Rattle.plane_core.proofs.HeldLemmas.{held_below, held_way, held_turn, abs_positive}
use Rattle.plane_core.proofs.CheckLemmas.{and_first, and_second}
use Rattle.plane_core.proofs.CrossingLemmas.{divided_on}
use Rattle.plane_core.proofs.OrderLemmas.{cmp_difference, cmp_less, cmp_equal, cmp_greater, cmp_scaled, by_order, IsAhead, then_scaled, then_level}
use Rattle.plane_core.proofs.PartScaleLemmas.{is_on-same_place}

pub held_width : (z : ℤ) → nat_abs z ≤ greatest_width → to_z w128 (of_z w128 z) ≡ z
held_width z h = held_below z _ h (omega arith)

pub n_below : (p : Place) → nat_abs p.n ≤ greatest_width
n_below p = plain p.n p.w p.not_before p.not_beyond p.w_in_range
  where
    plain : (n w : ℤ) → pos 0 ≤ℤ n → n ≤ℤ w → nat_abs w ≤ greatest_width → nat_abs n ≤ greatest_width
    plain n w h k l = omega (arith, ints)

pub n_held : (p : Place) → to_z w128 (of_z w128 p.n) ≡ p.n
n_held p = held_width p.n (n_below p)

pub w_held : (p : Place) → to_z w128 (of_z w128 p.w) ≡ p.w
w_held p = held_width p.w p.w_in_range

pub width_positive : (p : Place) → pos 0 <ℤ to_z w128 (of_z w128 p.w)
width_positive p = rw (w_held p) p.positive

pub place_on : (p : Place) → is_on p.edge (point_of p) ≡ true
place_on p = divided_on p.edge p.n p.w p.not_before p.not_beyond p.positive

-- the part of a way, from its start
pub way_from : (a b n w : ℤ) → part_of_way a b n w ≡ w *ℤ a +ℤ n *ℤ (b -ℤ a)
way_from a b n w = simp monomials (omega (arith, ints))

pub vertex_own : (z : ℤ) → part_of_way z z (pos 0) (pos 1) ≡ z
vertex_own z = simp monomials (omega (arith, ints))

-- the order of a coordinate of the point and of a vertex
pub axis_order : (o : Ordering) (p : Place) (a b v length across : ℤ)
    → nat_abs length ≤ 2 * greatest_coordinate → nat_abs across ≤ 2 * greatest_coordinate
    → length ≡ b -ℤ a → across ≡ v -ℤ a
    → o ≡ int_cmp (to_z w128 (of_z w128 p.n) *ℤ to_z w128 (of_z w128 length))
    (to_z w128 (of_z w128 p.w) *ℤ to_z w128 (of_z w128 across))
    → o ≡ int_cmp (part_of_way a b p.n p.w *ℤ pos 1) (v *ℤ pos (nat_abs p.w))
axis_order o p a b v length across hl ha el ea e =
    let plain : o ≡ int_cmp (p.n *ℤ (b -ℤ a)) (p.w *ℤ (v -ℤ a)) = rw (
      n_held p,
      w_held p,
      held_way length hl,
      held_way across ha,
      el,
      ea,
    ) at e in
    plain ∙ cmp_difference (p.n *ℤ (b -ℤ a)) (p.w *ℤ (v -ℤ a))
    ∙ ap (λ (z : ℤ). int_cmp z (pos 0)) (ring p.n p.w (pos (nat_abs p.w)) (abs_positive p.w p.positive))
    ∙ sym (cmp_difference (part_of_way a b p.n p.w *ℤ pos 1) (v *ℤ pos (nat_abs p.w)))
  where
    ring : (n w m : ℤ) → m ≡ w → n *ℤ (b -ℤ a) -ℤ w *ℤ (v -ℤ a) ≡ (w *ℤ a -ℤ n *ℤ (a -ℤ b)) *ℤ pos 1 -ℤ v *ℤ m
    ring n w m h = rw h (simp monomials (omega (arith, ints)))

-- the side of an edge on which the point lies
pub side_at : (f : Edge) (p : Place) → side f (point_of p) ≡ p.w *ℤ side f (at p.edge.a) -ℤ p.n *ℤ turn_of p.edge f
side_at f p =
    let e = p.edge in
    plain e.a.x e.a.y e.b.x e.b.y f.a.x f.a.y f.b.x f.b.y p.n p.w (pos (nat_abs p.w)) _ _
    (abs_positive p.w p.positive) (way_from e.a.x e.b.x p.n p.w) (way_from e.a.y e.b.y p.n p.w)
  where
    plain : (ax ay bx by cx cy dx dy n w m x y : ℤ) → m ≡ w → x ≡ w *ℤ ax +ℤ n *ℤ (bx -ℤ ax) → y ≡ w *ℤ ay +ℤ n *ℤ (by -ℤ ay) →
        (dx -ℤ cx) *ℤ (y -ℤ m *ℤ cy) -ℤ (dy -ℤ cy) *ℤ (x -ℤ m *ℤ cx)
        ≡ w *ℤ ((dx -ℤ cx) *ℤ (ay -ℤ pos 1 *ℤ cy) -ℤ (dy -ℤ cy) *ℤ (ax -ℤ pos 1 *ℤ cx))
        -ℤ n *ℤ ((bx -ℤ ax) *ℤ (dy -ℤ cy) -ℤ (dx -ℤ cx) *ℤ (by -ℤ ay))
    plain ax ay bx by cx cy dx dy n w m x y h hx hy = rw (h, hx, hy) (simp monomials (omega (arith, ints)))

pub side_order : (o : Ordering) (f : Edge) (p : Place) (s t : ℤ)
    → nat_abs s ≤ greatest_turn → nat_abs t ≤ greatest_turn → s ≡ side f (at p.edge.a) → t ≡ turn_of p.edge f
    → o ≡ int_cmp (to_z w128 (of_z w128 p.w) *ℤ to_z w128 (of_z w128 s))
    (to_z w128 (of_z w128 p.n) *ℤ to_z w128 (of_z w128 t))
    → o ≡ int_cmp (side f (point_of p)) (pos 0)
side_order o f p s t hs ht es et h =
    let plain : o ≡ int_cmp (p.w *ℤ s) (p.n *ℤ t) = rw (n_held p, w_held p, held_turn s hs, held_turn t ht) at h in
    let same : p.w *ℤ s -ℤ p.n *ℤ t ≡ side f (point_of p) = rw (es, et) (sym (side_at f p)) in
    plain ∙ cmp_difference (p.w *ℤ s) (p.n *ℤ t) ∙ ap (λ (z : ℤ). int_cmp z (pos 0)) same

-- at the first end of its edge
pub side_first : (o : Ordering) (f : Edge) (p : Place) (s : ℤ)
    → nat_abs s ≤ greatest_turn → s ≡ side f (at p.edge.a) → of_z w128 p.n ≡ 0
    → o ≡ int_cmp (to_z w128 (of_z w128 s)) (pos 0) → o ≡ int_cmp (side f (point_of p)) (pos 0)
side_first o f p s hs es zero h =
    let plain : o ≡ int_cmp s (pos 0) = rw (held_turn s hs) at h in
    let none : p.n ≡ pos 0 = sym (n_held p) ∙ ap (to_z w128) zero in
    let same : side f (point_of p) -ℤ pos 0 ≡ p.w *ℤ s -ℤ p.w *ℤ pos 0 =
    ap (λ (z : ℤ). z -ℤ pos 0) (side_at f p) ∙ ring p.w (side f (at p.edge.a)) p.n (turn_of p.edge f) none ∙ ap (λ (z : ℤ). p.w *ℤ z -ℤ p.w *ℤ pos 0) (sym es) in
    plain ∙ sym (cmp_scaled (side f (point_of p)) (pos 0) s (pos 0) p.w p.positive same)
  where
    ring : (w s n t : ℤ) → n ≡ pos 0 → (w *ℤ s -ℤ n *ℤ t) -ℤ pos 0 ≡ w *ℤ s -ℤ w *ℤ pos 0
    ring w s n t h = rw h (simp monomials (omega (arith, ints)))

-- how far a coordinate of one point of an edge is from that of another
axis_apart : (n w m v a b i j : ℤ) → i ≡ w → j ≡ v
    → part_of_way a b n w *ℤ j -ℤ part_of_way a b m v *ℤ i ≡ (b -ℤ a) *ℤ (n *ℤ v) -ℤ (b -ℤ a) *ℤ (m *ℤ w)
axis_apart n w m v a b i j h l = rw (h, l) (simp monomials (omega (arith, ints)))

axis_back : (n w m v a b i j : ℤ) → i ≡ w → j ≡ v
    → part_of_way a b n w *ℤ j -ℤ part_of_way a b m v *ℤ i ≡ (a -ℤ b) *ℤ (m *ℤ w) -ℤ (a -ℤ b) *ℤ (n *ℤ v)
axis_back n w m v a b i j h l = rw (h, l) (simp monomials (omega (arith, ints)))

-- the order of two points of an edge
divided_ahead : (e : Edge) (n w m v : ℤ) → pos 0 <ℤ w → pos 0 <ℤ v → IsAhead (run e) (rise e)
    → place_order (divided e n w) (divided e m v) ≡ int_cmp (n *ℤ v) (m *ℤ w)
divided_ahead e n w m v hw hv ahead =
    let i = abs_positive w hw in
    let j = abs_positive v hv in
    then_scaled (part_of_way e.a.x e.b.x n w *ℤ pos (nat_abs v)) (part_of_way e.a.x e.b.x m v *ℤ pos (nat_abs w))
    (part_of_way e.a.y e.b.y n w *ℤ pos (nat_abs v)) (part_of_way e.a.y e.b.y m v *ℤ pos (nat_abs w)) (n *ℤ v) (m *ℤ w) (run e) (rise e) ahead
    (axis_apart n w m v e.a.x e.b.x (pos (nat_abs w)) (pos (nat_abs v)) i j) (axis_apart n w m v e.a.y e.b.y (pos (nat_abs w)) (pos (nat_abs v)) i j)

divided_back : (e : Edge) (n w m v : ℤ) → pos 0 <ℤ w → pos 0 <ℤ v → IsAhead (e.a.x -ℤ e.b.x) (e.a.y -ℤ e.b.y)
    → place_order (divided e n w) (divided e m v) ≡ int_cmp (m *ℤ w) (n *ℤ v)
divided_back e n w m v hw hv back =
    let i = abs_positive w hw in
    let j = abs_positive v hv in
    then_scaled (part_of_way e.a.x e.b.x n w *ℤ pos (nat_abs v)) (part_of_way e.a.x e.b.x m v *ℤ pos (nat_abs w))
    (part_of_way e.a.y e.b.y n w *ℤ pos (nat_abs v)) (part_of_way e.a.y e.b.y m v *ℤ pos (nat_abs w)) (m *ℤ w) (n *ℤ v) (e.a.x -ℤ e.b.x) (e.a.y -ℤ e.b.y) back
    (axis_back n w m v e.a.x e.b.x (pos (nat_abs w)) (pos (nat_abs v)) i j) (axis_back n w m v e.a.y e.b.y (pos (nat_abs w)) (pos (nat_abs v)) i j)

divided_level : (e : Edge) (n w m v : ℤ) → pos 0 <ℤ w → pos 0 <ℤ v → run e ≡ pos 0 → rise e ≡ pos 0
    → place_order (divided e n w) (divided e m v) ≡ Equal
divided_level e n w m v hw hv hr hd =
    let i = abs_positive w hw in
    let j = abs_positive v hv in
    then_level (part_of_way e.a.x e.b.x n w *ℤ pos (nat_abs v)) (part_of_way e.a.x e.b.x m v *ℤ pos (nat_abs w))
    (part_of_way e.a.y e.b.y n w *ℤ pos (nat_abs v)) (part_of_way e.a.y e.b.y m v *ℤ pos (nat_abs w)) (n *ℤ v) (m *ℤ w) (run e) (rise e) hr hd
    (axis_apart n w m v e.a.x e.b.x (pos (nat_abs w)) (pos (nat_abs v)) i j) (axis_apart n w m v e.a.y e.b.y (pos (nat_abs w)) (pos (nat_abs v)) i j)

-- the direction of an edge, by the order of its ends
pub ahead_of : (e : Edge) → Less ≡ place_order (at e.a) (at e.b) → IsAhead (run e) (rise e)
ahead_of e h = plain e.a.x e.b.x e.a.y e.b.y (rw (times-one e.a.x, times-one e.b.x, times-one e.a.y, times-one e.b.y) at h)
  where
    plain : (x z u v : ℤ) → Less ≡ ordering_then (int_cmp x z) (int_cmp u v) → IsAhead (z -ℤ x) (v -ℤ u)
    plain x z u v h = by_order x z
        (λ g. inl (omega (arith, ints)))
        (λ g. let rest : Less ≡ int_cmp u v = rw (cmp_equal x z g) at h in
        inr (omega (arith, ints), by_order u v (λ k. omega (arith, ints)) (λ k. absurd (clash_equal (rest ∙ cmp_equal u v k))) (λ k. absurd (clash_greater (rest ∙ cmp_greater u v k)))))
        (λ g. absurd (clash_greater (rw (cmp_greater x z g) at h)))
      where
        clash_equal : Less ≡ Equal → ⊥
        clash_equal e = cc

        clash_greater : Less ≡ Greater → ⊥
        clash_greater e = cc

pub back_of : (e : Edge) → Greater ≡ place_order (at e.a) (at e.b) → IsAhead (e.a.x -ℤ e.b.x) (e.a.y -ℤ e.b.y)
back_of e h = plain e.a.x e.b.x e.a.y e.b.y (rw (times-one e.a.x, times-one e.b.x, times-one e.a.y, times-one e.b.y) at h)
  where
    plain : (x z u v : ℤ) → Greater ≡ ordering_then (int_cmp x z) (int_cmp u v) → IsAhead (x -ℤ z) (u -ℤ v)
    plain x z u v h = by_order x z
        (λ g. absurd (clash_less (rw (cmp_less x z g) at h)))
        (λ g. let rest : Greater ≡ int_cmp u v = rw (cmp_equal x z g) at h in
        inr (omega (arith, ints), by_order u v (λ k. absurd (clash_less (rest ∙ cmp_less u v k))) (λ k. absurd (clash_equal (rest ∙ cmp_equal u v k))) (λ k. omega (arith, ints))))
        (λ g. inl (omega (arith, ints)))
      where
        clash_equal : Greater ≡ Equal → ⊥
        clash_equal e = cc

        clash_less : Greater ≡ Less → ⊥
        clash_less e = cc

pub level_of_ends : (e : Edge) → Equal ≡ place_order (at e.a) (at e.b) → (run e ≡ pos 0) × (rise e ≡ pos 0)
level_of_ends e h = plain e.a.x e.b.x e.a.y e.b.y (rw (times-one e.a.x, times-one e.b.x, times-one e.a.y, times-one e.b.y) at h)
  where
    plain : (x z u v : ℤ) → Equal ≡ ordering_then (int_cmp x z) (int_cmp u v) → (z -ℤ x ≡ pos 0) × (v -ℤ u ≡ pos 0)
    plain x z u v h = by_order x z
        (λ g. absurd (clash_less (rw (cmp_less x z g) at h)))
        (λ g. let rest : Equal ≡ int_cmp u v = rw (cmp_equal x z g) at h in
        (omega (arith, ints), by_order u v (λ k. absurd (clash_less (rest ∙ cmp_less u v k))) (λ k. omega (arith, ints)) (λ k. absurd (clash_greater (rest ∙ cmp_greater u v k)))))
        (λ g. absurd (clash_greater (rw (cmp_greater x z g) at h)))
      where
        clash_less : Equal ≡ Less → ⊥
        clash_less e = cc

        clash_greater : Equal ≡ Greater → ⊥
        clash_greater e = cc

-- so the order of two places of an edge
pub order_ahead : (p q : Place) → p.edge ≡ q.edge → IsAhead (run p.edge) (rise p.edge) → place_order (point_of p) (point_of q) ≡ int_cmp (p.n *ℤ q.w) (q.n *ℤ p.w)
order_ahead p q same ahead = subst (λ (f : Edge). place_order (point_of p) (divided f q.n q.w) ≡ int_cmp (p.n *ℤ q.w) (q.n *ℤ p.w)) same
    (divided_ahead p.edge p.n p.w q.n q.w p.positive q.positive ahead)

pub order_back : (p q : Place) → p.edge ≡ q.edge → IsAhead (p.edge.a.x -ℤ p.edge.b.x) (p.edge.a.y -ℤ p.edge.b.y) → place_order (point_of p) (point_of q) ≡ int_cmp (q.n *ℤ p.w) (p.n *ℤ q.w)
order_back p q same back = subst (λ (f : Edge). place_order (point_of p) (divided f q.n q.w) ≡ int_cmp (q.n *ℤ p.w) (p.n *ℤ q.w)) same
    (divided_back p.edge p.n p.w q.n q.w p.positive q.positive back)

pub order_level : (p q : Place) → p.edge ≡ q.edge → (run p.edge ≡ pos 0) × (rise p.edge ≡ pos 0) → place_order (point_of p) (point_of q) ≡ Equal
order_level p q same level = subst (λ (f : Edge). place_order (point_of p) (divided f q.n q.w) ≡ Equal) same
    (divided_level p.edge p.n p.w q.n q.w p.positive q.positive level.0 level.1)

-- the tests of both coordinates
pub at_made : (o r : Ordering) (p : Place) (v : Vertex)
    → o ≡ int_cmp ((point_of p).x *ℤ pos 1) (v.x *ℤ pos (nat_abs p.w)) → r ≡ int_cmp ((point_of p).y *ℤ pos 1) (v.y *ℤ pos (nat_abs p.w))
    → (is_eq o && is_eq r) ≡ is_at v (point_of p)
at_made o r p v h k = ap (λ (t : Ordering). is_eq t && is_eq r) (h ∙ turned (point_of p).x v.x (pos (nat_abs p.w))) ∙ ap (λ (t : Ordering). int_eq (point_of p).x (pos (nat_abs p.w) *ℤ v.x) && is_eq t) (k ∙ turned (point_of p).y v.y (pos (nat_abs p.w)))
  where
    turned : (x a w : ℤ) → int_cmp (x *ℤ pos 1) (a *ℤ w) ≡ int_cmp x (w *ℤ a)
    turned x a w = rw (times-one x, times_comm a w) refl

-- the direction of an edge, by the order along each axis
pub direction_made : (o f g : Ordering) (e : Edge) → o ≡ ordering_then f g → f ≡ int_cmp e.a.x e.b.x → g ≡ int_cmp e.a.y e.b.y
    → o ≡ place_order (at e.a) (at e.b)
direction_made o f g e h k l =
    rw (times-one e.a.x, times-one e.b.x, times-one e.a.y, times-one e.b.y)
    (h ∙ ap (λ (t : Ordering). ordering_then t g) k ∙ ap (λ (t : Ordering). ordering_then (int_cmp e.a.x e.b.x) t) l)

-- the order of the fractions, as 128 bits hold them
pub order_held : (o : Ordering) (p q : Place)
    → o ≡ int_cmp (to_z w128 (of_z w128 p.n) *ℤ to_z w128 (of_z w128 q.w)) (to_z w128 (of_z w128 q.n) *ℤ to_z w128 (of_z w128 p.w))
    → o ≡ int_cmp (p.n *ℤ q.w) (q.n *ℤ p.w)
order_held o p q h = rw (n_held p, w_held q, n_held q, w_held p) at h

-- a vertex beyond the box of the place's edge
pub off_box : (p : Place) (v : Vertex) → (is_between p.edge.a.x p.edge.b.x 1 v.x && is_between p.edge.a.y p.edge.b.y 1 v.y) ≡ false
    → is_at v (point_of p) ≡ false
off_box p v h = elim (cases_Bool (is_at v (point_of p))) [
  | inl here ↦ absurd (apart (sym (within here) ∙ h))
  | inr off ↦ off
]
  where
    apart : true ≡ false → ⊥
    apart e = cc

    wide : (w : ℤ) → pos 0 <ℤ w → 0 < nat_abs w
    wide w h = omega (arith, ints)

    equal : (m n : ℤ) → int_eq m n ≡ true → m ≡ n
    equal m n h = grind (arith, ints)

    place : (x w v : ℤ) → x ≡ w *ℤ v → x *ℤ pos 1 ≡ v *ℤ w
    place x w v h = rw h (simp monomials (omega (arith, ints)))

    x : ℤ
    x = (point_of p).x

    y : ℤ
    y = (point_of p).y

    w : ℤ
    w = pos (nat_abs p.w)

    on : is_at v (point_of p) ≡ true → is_on p.edge (at v) ≡ true
    on here =
        sym (is_on-same_place p.edge (point_of p) (at v) (wide p.w p.positive) (omega arith) (
          place x w v.x (equal x (w *ℤ v.x) (and_first (int_eq x (w *ℤ v.x)) (int_eq y (w *ℤ v.y)) here)),
          place y w v.y (equal y (w *ℤ v.y) (and_second (int_eq x (w *ℤ v.x)) (int_eq y (w *ℤ v.y)) here)),
        ))
        ∙ place_on p

    both : (l m n : Bool) → (l && m && n) ≡ true → (m && n) ≡ true
    both l m n h = grind arith

    within : is_at v (point_of p) ≡ true → (is_between p.edge.a.x p.edge.b.x 1 v.x && is_between p.edge.a.y p.edge.b.y 1 v.y) ≡ true
    within here = both (int_eq (side p.edge (at v)) (pos 0)) (is_between p.edge.a.x p.edge.b.x 1 v.x) (is_between p.edge.a.y p.edge.b.y 1 v.y) (on here)
