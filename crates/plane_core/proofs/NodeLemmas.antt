-- The numbers of the mediant of two nodes, of an edge's part up to a vertex, and of a meeting.
use Rattle.std.proofs.Common.{◌≡◌, ◌≤◌, ◌*◌, ◌+◌, inl, inr, true, ℕ, to_z, of_z, arith, ap, sym, subst, refl, ◌∙◌}
use Rattle.std.specs.Prelude.{ℤ, pos, ◌≢◌, ◌*ℤ◌, ◌-ℤ◌, ◌+ℤ◌, neg_ℤ, ◌<ℤ◌, ◌≤ℤ◌, nat_abs, ◌&&◌, int_le}
use Rattle.std.specs.Int.{w128}
use Rattle.std.specs.Ordering.{ordering_then}
use Rattle.std.specs.declared.cmp.Ordering.{Ordering}
use Rattle.std.specs.declared.cmp.Ordering.TheVariants.{Less, Equal, Greater}
use Rattle.std.proofs.lemmas.Int.{ints}
use Rattle.plane_core.specs.declared.edge.Edge.{Edge}
use Rattle.plane_core.specs.declared.node.Node.{Node}
use Rattle.plane_core.specs.declared.place.Place.{Place}
use Rattle.plane_core.specs.declared.vertex.Vertex.{Vertex}
use Rattle.plane_core.specs.Limits.{greatest_coordinate, greatest_turn, greatest_width, IsCoordinate}
use Rattle.plane_core.specs.Points.{Point, at, mix, run, rise, side, is_between, is_on, IsSamePlace}
use Rattle.plane_core.specs.Meetings.{divided, part_of_way}
use Rattle.plane_core.specs.Places.{point_of}
use Rattle.plane_core.proofs.Ring.{monomials, one-times}
use Rattle.plane_core.proofs.HeldLemmas.{held_way, held_turn, abs_positive}
use Rattle.plane_core.proofs.FormLemmas.{by_zero, no_zero_divisor}
use Rattle.plane_core.proofs.CheckLemmas.{and_first, and_second}
use Rattle.plane_core.proofs.CrossingLemmas.{or_either, true_le, level_of, along_x_of, along_y_of}
use Rattle.plane_core.proofs.PlaceLemmas.{held_width}

pub same_point : (p q : Point) → p.x ≡ q.x → p.y ≡ q.y → p.w ≡ q.w → p ≡ q
same_point p q h k l = λ i. record { x = h i; y = k i; w = l i }

-- the mediant of two nodes
part_narrow : (n w : ℤ) → pos 0 ≤ℤ n → n ≤ℤ w → nat_abs w ≤ greatest_turn → nat_abs n ≤ greatest_turn
part_narrow n w h k l = omega (arith, ints)

n_narrow : (k : Node) → nat_abs k.place.n ≤ greatest_turn
n_narrow k = part_narrow k.place.n k.place.w k.place.not_before k.place.not_beyond k.narrow

sum_held : (a b : ℤ) → nat_abs a ≤ greatest_turn → nat_abs b ≤ greatest_turn
    → to_z w128 (of_z w128 (to_z w128 (of_z w128 a) +ℤ to_z w128 (of_z w128 b))) ≡ a +ℤ b
sum_held a b h k = rw (held_turn a h, held_turn b k, held_width (a +ℤ b) (sum a b h k)) refl
  where
    sum : (a b : ℤ) → nat_abs a ≤ greatest_turn → nat_abs b ≤ greatest_turn → nat_abs (a +ℤ b) ≤ greatest_width
    sum a b h k = omega (arith, ints)

pub middle_n : (k l : Node) → to_z w128 (of_z w128 (to_z w128 (of_z w128 k.place.n) +ℤ to_z w128 (of_z w128 l.place.n))) ≡ k.place.n +ℤ l.place.n
middle_n k l = sum_held k.place.n l.place.n (n_narrow k) (n_narrow l)

pub middle_w : (k l : Node) → to_z w128 (of_z w128 (to_z w128 (of_z w128 k.place.w) +ℤ to_z w128 (of_z w128 l.place.w))) ≡ k.place.w +ℤ l.place.w
middle_w k l = sum_held k.place.w l.place.w k.narrow l.narrow

pub sum_positive : (k l : Node) → pos 0 <ℤ (k.place.w +ℤ l.place.w)
sum_positive k l = plain k.place.w l.place.w k.place.positive l.place.positive
  where
    plain : (a b : ℤ) → pos 0 <ℤ a → pos 0 <ℤ b → pos 0 <ℤ (a +ℤ b)
    plain a b h k = omega (arith, ints)

pub sum_not_before : (k l : Node) → pos 0 ≤ℤ (k.place.n +ℤ l.place.n)
sum_not_before k l = plain k.place.n l.place.n k.place.not_before l.place.not_before
  where
    plain : (a b : ℤ) → pos 0 ≤ℤ a → pos 0 ≤ℤ b → pos 0 ≤ℤ (a +ℤ b)
    plain a b h k = omega (arith, ints)

pub sum_not_beyond : (k l : Node) → (k.place.n +ℤ l.place.n) ≤ℤ (k.place.w +ℤ l.place.w)
sum_not_beyond k l = plain k.place.n l.place.n k.place.w l.place.w k.place.not_beyond l.place.not_beyond
  where
    plain : (a b c d : ℤ) → a ≤ℤ c → b ≤ℤ d → (a +ℤ b) ≤ℤ (c +ℤ d)
    plain a b c d h k = omega (arith, ints)

pub sum_wide : (k l : Node) → nat_abs (k.place.w +ℤ l.place.w) ≤ greatest_width
sum_wide k l = plain k.place.w l.place.w k.narrow l.narrow
  where
    plain : (a b : ℤ) → nat_abs a ≤ greatest_turn → nat_abs b ≤ greatest_turn → nat_abs (a +ℤ b) ≤ greatest_width
    plain a b h k = omega (arith, ints)

pub middle_point : (k l : Node) (n w : ℤ) → k.place.edge ≡ l.place.edge → n ≡ k.place.n +ℤ l.place.n → w ≡ k.place.w +ℤ l.place.w
    → divided k.place.edge n w ≡ mix 1 (point_of k.place) 1 (point_of l.place)
middle_point k l n w same en ew =
    let p = k.place in
    let q = l.place in
    subst (λ (f : Edge). divided p.edge n w ≡ mix 1 (point_of p) 1 (divided f q.n q.w)) same
    (same_point _ _ (axis p.n p.w q.n q.w n w p.edge.a.x p.edge.b.x en ew) (axis p.n p.w q.n q.w n w p.edge.a.y p.edge.b.y en ew)
    (ap nat_abs ew ∙ width p.w q.w p.positive q.positive))
  where
    axis : (n w m v i j a b : ℤ) → i ≡ n +ℤ m → j ≡ w +ℤ v → part_of_way a b i j ≡ pos 1 *ℤ part_of_way a b n w +ℤ pos 1 *ℤ part_of_way a b m v
    axis n w m v i j a b h l = rw (h, l) (simp monomials (omega (arith, ints)))

    width : (w v : ℤ) → pos 0 <ℤ w → pos 0 <ℤ v → nat_abs (w +ℤ v) ≡ 1 * nat_abs w + 1 * nat_abs v
    width w v h k = omega (arith, ints)

pub then_less : (o r : Ordering) → Less ≡ o → Less ≡ ordering_then o r
then_less o r h = ap (λ (t : Ordering). ordering_then t r) h

pub then_equal : (o r t : Ordering) → Equal ≡ o → t ≡ r → t ≡ ordering_then o r
then_equal o r t h k = k ∙ ap (λ (s : Ordering). ordering_then s r) h

pub then_greater : (o r : Ordering) → Greater ≡ o → Greater ≡ ordering_then o r
then_greater o r h = ap (λ (t : Ordering). ordering_then t r) h

-- a number between two others along an axis, by its distance from the first
pub record IsAlongWay (length across : ℤ) : Type 0 where
  pub within : nat_abs across ≤ nat_abs length
  pub scaled : (n w : ℤ) → n *ℤ pos (nat_abs length) ≡ pos (nat_abs across) *ℤ w → n *ℤ length ≡ across *ℤ w

pub along_way : (a b v : ℤ) → is_between a b 1 v ≡ true → IsAlongWay (b -ℤ a) (v -ℤ a)
along_way a b v h = elim (or_either (int_le (pos 1 *ℤ a) v && int_le v (pos 1 *ℤ b)) (int_le (pos 1 *ℤ b) v && int_le v (pos 1 *ℤ a)) h) [
  | inl k ↦ up (b -ℤ a) (v -ℤ a) (from_first a v (true_le (pos 1 *ℤ a) v (and_first (int_le (pos 1 *ℤ a) v) (int_le v (pos 1 *ℤ b)) k)))
      (to_last a b v (true_le v (pos 1 *ℤ b) (and_second (int_le (pos 1 *ℤ a) v) (int_le v (pos 1 *ℤ b)) k)))
  | inr k ↦ down (b -ℤ a) (v -ℤ a) (to_first a v (true_le v (pos 1 *ℤ a) (and_second (int_le (pos 1 *ℤ b) v) (int_le v (pos 1 *ℤ a)) k)))
      (from_last a b v (true_le (pos 1 *ℤ b) v (and_first (int_le (pos 1 *ℤ b) v) (int_le v (pos 1 *ℤ a)) k)))
]
  where
    from_first : (a v : ℤ) → (pos 1 *ℤ a) ≤ℤ v → pos 0 ≤ℤ (v -ℤ a)
    from_first a v h = omega (arith, ints, one-times a)

    to_last : (a b v : ℤ) → v ≤ℤ (pos 1 *ℤ b) → (v -ℤ a) ≤ℤ (b -ℤ a)
    to_last a b v h = omega (arith, ints, one-times b)

    to_first : (a v : ℤ) → v ≤ℤ (pos 1 *ℤ a) → (v -ℤ a) ≤ℤ pos 0
    to_first a v h = omega (arith, ints, one-times a)

    from_last : (a b v : ℤ) → (pos 1 *ℤ b) ≤ℤ v → (b -ℤ a) ≤ℤ (v -ℤ a)
    from_last a b v h = omega (arith, ints, one-times b)

    up : (d u : ℤ) → pos 0 ≤ℤ u → u ≤ℤ d → IsAlongWay d u
    up d u h k = record {
      within = omega (arith, ints);
      scaled = λ n w e. rw (own d (omega (arith, ints)), own u h) at e;
    }
      where
        own : (z : ℤ) → pos 0 ≤ℤ z → pos (nat_abs z) ≡ z
        own z h = omega (arith, ints)

    down : (d u : ℤ) → u ≤ℤ pos 0 → d ≤ℤ u → IsAlongWay d u
    down d u h k = record {
      within = omega (arith, ints);
      scaled = λ n w e. turned n d u w (rw (own d (omega (arith, ints)), own u h) at e);
    }
      where
        own : (z : ℤ) → z ≤ℤ pos 0 → pos (nat_abs z) ≡ neg_ℤ z
        own z h = omega (arith, ints)

        turned : (n d u w : ℤ) → n *ℤ neg_ℤ d ≡ neg_ℤ u *ℤ w → n *ℤ d ≡ u *ℤ w
        turned n d u w e = first ∙ ap neg_ℤ e ∙ last
          where
            first : n *ℤ d ≡ neg_ℤ (n *ℤ neg_ℤ d)
            first = simp monomials (omega (arith, ints))

            last : neg_ℤ (neg_ℤ u *ℤ w) ≡ u *ℤ w
            last = simp monomials (omega (arith, ints))

-- a factor that isn't 0 is cancelled
cancelled : (k a b : ℤ) → k ≢ pos 0 → k *ℤ a ≡ k *ℤ b → a ≡ b
cancelled k a b some h = by_zero (a -ℤ b) (λ off. absurd (no_zero_divisor k (a -ℤ b) some off zero)) (same a b)
  where
    zero : k *ℤ (a -ℤ b) ≡ pos 0
    zero = apart ∙ none (k *ℤ a) (k *ℤ b) h
      where
        apart : k *ℤ (a -ℤ b) ≡ k *ℤ a -ℤ k *ℤ b
        apart = simp monomials (omega (arith, ints))

        none : (m n : ℤ) → m ≡ n → m -ℤ n ≡ pos 0
        none m n h = omega (arith, ints)

    same : (a b : ℤ) → a -ℤ b ≡ pos 0 → a ≡ b
    same a b h = omega (arith, ints)

-- the way to a vertex is the same part of the edge along both axes
other_axis : (n w r d u v : ℤ) → r ≢ pos 0 → r *ℤ v ≡ d *ℤ u → n *ℤ r ≡ u *ℤ w → n *ℤ d ≡ v *ℤ w
other_axis n w r d u v some level h = cancelled r (n *ℤ d) (v *ℤ w) some (first ∙ rw h (second ∙ rw (sym level) third))
  where
    first : r *ℤ (n *ℤ d) ≡ (n *ℤ r) *ℤ d
    first = simp monomials (omega (arith, ints))

    second : (u *ℤ w) *ℤ d ≡ (d *ℤ u) *ℤ w
    second = simp monomials (omega (arith, ints))

    third : (r *ℤ v) *ℤ w ≡ r *ℤ (v *ℤ w)
    third = simp monomials (omega (arith, ints))

axis_same : (n w m a b v : ℤ) → m ≡ w → n *ℤ (b -ℤ a) ≡ (v -ℤ a) *ℤ w → part_of_way a b n w *ℤ pos 1 ≡ v *ℤ m
axis_same n w m a b v h e = ring ∙ rw (h) (ap (λ (z : ℤ). w *ℤ a +ℤ z) e ∙ last)
  where
    ring : part_of_way a b n w *ℤ pos 1 ≡ w *ℤ a +ℤ n *ℤ (b -ℤ a)
    ring = simp monomials (omega (arith, ints))

    last : w *ℤ a +ℤ (v -ℤ a) *ℤ w ≡ v *ℤ w
    last = simp monomials (omega (arith, ints))

level_made : (e : Edge) (v : Vertex) → side e (at v) ≡ pos 0 → run e *ℤ (v.y -ℤ e.a.y) ≡ rise e *ℤ (v.x -ℤ e.a.x)
level_made e v h = plain _ _ (rw (one-times e.a.x, one-times e.a.y) at h)
  where
    plain : (m n : ℤ) → m -ℤ n ≡ pos 0 → m ≡ n
    plain m n h = omega (arith, ints)

vertex_made : (e : Edge) (v : Vertex) (p : Place) → p.edge ≡ e → p.n *ℤ run e ≡ (v.x -ℤ e.a.x) *ℤ p.w → p.n *ℤ rise e ≡ (v.y -ℤ e.a.y) *ℤ p.w
    → IsSamePlace (point_of p) (at v)
vertex_made e v p same h k =
    let w = abs_positive p.w p.positive in
    subst (λ (f : Edge). IsSamePlace (divided f p.n p.w) (at v)) (sym same)
    (axis_same p.n p.w _ e.a.x e.b.x v.x w h, axis_same p.n p.w _ e.a.y e.b.y v.y w k)

pub along_x : (e : Edge) (v : Vertex) → is_on e (at v) ≡ true → IsAlongWay (run e) (v.x -ℤ e.a.x)
along_x e v on = along_way e.a.x e.b.x v.x (along_x_of e (at v) on)

pub along_y : (e : Edge) (v : Vertex) → is_on e (at v) ≡ true → IsAlongWay (rise e) (v.y -ℤ e.a.y)
along_y e v on = along_way e.a.y e.b.y v.y (along_y_of e (at v) on)

pub vertex_by_x : (e : Edge) (v : Vertex) (p : Place) → is_on e (at v) ≡ true → p.edge ≡ e → run e ≢ pos 0
    → p.n *ℤ pos (nat_abs (run e)) ≡ pos (nat_abs (v.x -ℤ e.a.x)) *ℤ p.w → IsSamePlace (point_of p) (at v)
vertex_by_x e v p on same some h =
    let x = (along_x e v on).scaled p.n p.w h in
    vertex_made e v p same x (other_axis p.n p.w (run e) (rise e) (v.x -ℤ e.a.x) (v.y -ℤ e.a.y) some (level_made e v (level_of e (at v) on)) x)

pub vertex_by_y : (e : Edge) (v : Vertex) (p : Place) → is_on e (at v) ≡ true → p.edge ≡ e → run e ≡ pos 0
    → p.n *ℤ pos (nat_abs (rise e)) ≡ pos (nat_abs (v.y -ℤ e.a.y)) *ℤ p.w → IsSamePlace (point_of p) (at v)
vertex_by_y e v p on same none h =
    let u = v.x -ℤ e.a.x in
    let zero : u ≡ pos 0 = no_way u (subst (λ (z : ℤ). nat_abs u ≤ nat_abs z) none (along_x e v on).within) in
    vertex_made e v p same (level p.n (run e) u p.w none zero) ((along_y e v on).scaled p.n p.w h)
  where
    no_way : (u : ℤ) → nat_abs u ≤ 0 → u ≡ pos 0
    no_way u h = omega (arith, ints)

    level : (n r u w : ℤ) → r ≡ pos 0 → u ≡ pos 0 → n *ℤ r ≡ u *ℤ w
    level n r u w h k = rw (h, k) (simp monomials (omega (arith, ints)))

-- a distance along an axis, as 128 bits hold it
pub abs_held : (r u z : ℤ) → nat_abs u ≤ 2 * greatest_coordinate → u ≡ z → r ≡ pos (nat_abs (to_z w128 (of_z w128 u)))
    → to_z w128 (of_z w128 r) ≡ pos (nat_abs z)
abs_held r u z h e k =
    let value : r ≡ pos (nat_abs z) = k ∙ ap (λ (t : ℤ). pos (nat_abs t)) (held_way u h ∙ e) in
    held_way r (subst (λ (t : ℤ). nat_abs t ≤ 2 * greatest_coordinate) (sym value) (subst (λ (t : ℤ). nat_abs t ≤ 2 * greatest_coordinate) e h)) ∙ value

pub abs_beyond : (r s u v y z : ℤ) → nat_abs u ≤ 2 * greatest_coordinate → nat_abs v ≤ 2 * greatest_coordinate → u ≡ y → v ≡ z
    → r ≡ pos (nat_abs (to_z w128 (of_z w128 u))) → s ≡ pos (nat_abs (to_z w128 (of_z w128 v))) → IsAlongWay z y
    → to_z w128 (of_z w128 r) ≤ℤ to_z w128 (of_z w128 s)
abs_beyond r s u v y z hu hv eu ev er es way = rw (abs_held r u y hu eu er, abs_held s v z hv ev es) (plain (nat_abs y) (nat_abs z) way.within)
  where
    plain : (m n : ℕ) → m ≤ n → pos m ≤ℤ pos n
    plain m n h = omega (arith, ints)

-- a coordinate
pub coordinate_size : (a : ℤ) → IsCoordinate a → nat_abs a ≤ greatest_coordinate
coordinate_size a h = omega (arith, ints)
