-- The least squared distances of vertices and edges.
use Rattle.std.proofs.Common.{◌≡◌, ◌*◌, ◌+◌, ◌<◌, ◌≤◌, ℕ, arith, ap, ◌∙◌, true, refl, to_z, of_z}
use Rattle.std.specs.Prelude.{ℤ, pos, ◌+ℤ◌, ◌-ℤ◌, ◌*ℤ◌, ◌≤ℤ◌, ◌<ℤ◌, nat_abs, Bool, ◌&&◌, ◌||◌, int_le}
use Rattle.std.specs.Ordering.{int_eq}
use Rattle.std.proofs.lemmas.Int.{ints, by_lt_z}
use Rattle.plane_core.specs.declared.vertex.Vertex.{Vertex}
use Rattle.plane_core.specs.declared.edge.Edge.{Edge}
use Rattle.plane_core.specs.Points.{Point, at, side, run, rise, is_on, is_at}
use Rattle.plane_core.proofs.Ring.{monomials}
use Rattle.plane_core.proofs.Signs.{weak}
use Rattle.plane_core.proofs.HeldLemmas.{abs_positive, held_turn}
use Rattle.plane_core.specs.Limits.{greatest_turn, IsCoordinate}
use Rattle.std.specs.Int.{w128}
use Rattle.distance_core.specs.Limits.{greatest_gap, greatest_square}
use Rattle.std.proofs.lemmas.Nat.{mul-le}
use Rattle.std.proofs.Math.Nat.{mul-le-mul_right}
use Rattle.distance_core.specs.Distances.{square, scaled_square, scale_of}
use Rattle.distance_core.specs.Frames.{along, reach}
use Rattle.distance_core.specs.Fractions.{IsNoFarther, IsNoNearer, ReachFraction, IsLeastFraction, IsAtVertex, IsOnEdge}
use Rattle.distance_core.proofs.RingLemmas.{abs_square, pos_times, pos_plus, square_not_negative}
use Rattle.distance_core.proofs.FrameLemmas.{off, off_x, off_y, along_of}
use Rattle.distance_core.proofs.FarLemmas.{scale, IsFar, IsPlace, far_turned, far_place, place_of, place_of_flat, no_length, far_before, far_beyond, framed_start}
use Rattle.distance_core.proofs.EdgeLemmas.{far_beside, foot, foot_on, wide_foot, off-foot}
use Rattle.distance_core.proofs.ApartLemmas.{by_zero, reach_not_negative}

-- naturals as integers
pub pos_scaled : (p q : Point) → pos (scaled_square p q) ≡ off p q
pos_scaled p q = plain (off_x p q) (off_y p q)
  where
    plain : (x y : ℤ) → pos (nat_abs x * nat_abs x + nat_abs y * nat_abs y) ≡ x *ℤ x +ℤ y *ℤ y
    plain x y = pos_plus (nat_abs x * nat_abs x) (nat_abs y * nat_abs y) ∙ ap (λ (z : ℤ). z +ℤ pos (nat_abs y * nat_abs y)) (abs_square x) ∙ ap (λ (z : ℤ). x *ℤ x +ℤ z) (abs_square y)

pub pos_scale : (p q : Point) → pos (scale_of p q) ≡ scale p q
pos_scale p q = pos_times (p.w * q.w) (p.w * q.w) ∙ ap (λ (z : ℤ). z *ℤ z) (pos_times p.w q.w)

as_naturals : (a b c d : ℕ) (x y : ℤ) → pos (a * b) ≡ x → pos (c * d) ≡ y → x ≤ℤ y → a * b ≤ c * d
as_naturals a b c d x y e f h = omega (arith, ints)

as_integers : (a b : ℕ) (x y : ℤ) → pos a ≡ x → pos b ≡ y → a ≤ b → x ≤ℤ y
as_integers a b x y e f h = omega (arith, ints)

pub from_far : (n d : ℕ) (p q : Point) → IsFar (pos n) (pos d) p q → IsNoNearer n d p q
from_far n d p q h = as_naturals n (scale_of p q) d (scaled_square p q) _ _
    (pos_times n (scale_of p q) ∙ ap (λ (z : ℤ). pos n *ℤ z) (pos_scale p q)) (pos_times d (scaled_square p q) ∙ ap (λ (z : ℤ). pos d *ℤ z) (pos_scaled p q)) h.far

pub to_far : (n d : ℕ) (p q : Point) → IsNoNearer n d p q → IsFar (pos n) (pos d) p q
to_far n d p q h = record {
  far = as_integers (n * scale_of p q) (d * scaled_square p q) _ _
      (pos_times n (scale_of p q) ∙ ap (λ (z : ℤ). pos n *ℤ z) (pos_scale p q)) (pos_times d (scaled_square p q) ∙ ap (λ (z : ℤ). pos d *ℤ z) (pos_scaled p q)) h;
}

pub from_near : (n d : ℕ) (p q : Point) → (pos d *ℤ off p q) ≤ℤ (pos n *ℤ scale p q) → IsNoFarther n d p q
from_near n d p q h = as_naturals d (scaled_square p q) n (scale_of p q) _ _
    (pos_times d (scaled_square p q) ∙ ap (λ (z : ℤ). pos d *ℤ z) (pos_scaled p q)) (pos_times n (scale_of p q) ∙ ap (λ (z : ℤ). pos n *ℤ z) (pos_scale p q)) h

-- a vertex is its own point
pub at_itself : (v : Vertex) → is_at v (at v) ≡ true
at_itself v = plain v.x (pos 1 *ℤ v.x) v.y (pos 1 *ℤ v.y) (omega (arith, ints)) (omega (arith, ints))
  where
    plain : (x a y b : ℤ) → x ≡ a → y ≡ b → (int_eq x a && int_eq y b) ≡ true
    plain x a y b h k = grind (arith, ints)

eq_le : (m n : ℤ) → m ≡ n → m ≤ℤ n
eq_le m n h = omega (arith, ints)

one_off : (n o : ℤ) → n ≡ o → (pos 1 *ℤ o) ≤ℤ (n *ℤ ((pos 1 *ℤ pos 1) *ℤ (pos 1 *ℤ pos 1)))
one_off n o h = eq_le _ _ (rw h (simp monomials))

off_one : (n o : ℤ) → n ≡ o → (n *ℤ ((pos 1 *ℤ pos 1) *ℤ (pos 1 *ℤ pos 1))) ≤ℤ (pos 1 *ℤ o)
off_one n o h = eq_le _ _ (rw h (simp monomials))

-- two vertices
pub vertices_far : (n : ℕ) (v w : Vertex) → pos n ≡ off (at v) (at w) → IsFar (pos n) (pos 1) (at v) (at w)
vertices_far n v w h = record { far = off_one (pos n) (off (at v) (at w)) h }

pub vertices_least : (n : ℕ) (v w : Vertex) → n ≡ scaled_square (at v) (at w) → IsLeastFraction n 1 (IsAtVertex v) (IsAtVertex w)
vertices_least n v w is =
    let same : pos n ≡ off (at v) (at w) = ap pos is ∙ pos_scaled (at v) (at w) in
    record {
      reached = record {
        first = at v;
        second = at w;
        first_wide = omega arith;
        second_wide = omega arith;
        first_in = at_itself v;
        second_in = at_itself w;
        near = from_near n 1 (at v) (at w) (one_off (pos n) (off (at v) (at w)) same);
      };
      least = λ p q wide_p wide_q in_v in_w.
          from_far n 1 p q (far_place (pos n) (pos 1) v p q (place_of v p in_v)
          (far_turned (pos n) (pos 1) q (at v) (far_place (pos n) (pos 1) w q (at v) (place_of w q in_w) (far_turned (pos n) (pos 1) (at v) (at w) (vertices_far n v w same)))));
    }

-- their vector's square
pub vector_square : (v w : Vertex) (x y : ℤ) (k : ℕ) → x ≡ w.x -ℤ v.x → y ≡ w.y -ℤ v.y → k ≡ square x + square y → k ≡ scaled_square (at v) (at w)
vector_square v w x y k hx hy hk = hk ∙ ap (λ (z : ℕ). z + square y) (plain v.x w.x x hx) ∙ ap (λ (z : ℕ). square (v.x *ℤ pos 1 -ℤ w.x *ℤ pos 1) + z) (plain v.y w.y y hy)
  where
    same : (a b x : ℤ) → x ≡ b -ℤ a → nat_abs x ≡ nat_abs (a *ℤ pos 1 -ℤ b *ℤ pos 1)
    same a b x h = omega (arith, ints)

    plain : (a b x : ℤ) → x ≡ b -ℤ a → nat_abs x * nat_abs x ≡ nat_abs (a *ℤ pos 1 -ℤ b *ℤ pos 1) * nat_abs (a *ℤ pos 1 -ℤ b *ℤ pos 1)
    plain a b x h = ap (λ (n : ℕ). n * n) (same a b x h)

-- what is so of a vertex and each point of an edge
pub vertex_least : (n d : ℕ) (v : Vertex) (Q : Point → Type 0) → ReachFraction n d (IsAtVertex v) Q
    → ((q : Point) → 0 < q.w → Q q → IsFar (pos n) (pos d) (at v) q) → IsLeastFraction n d (IsAtVertex v) Q
vertex_least n d v Q reached far = record {
  reached = reached;
  least = λ p q wide_p wide_q in_v in_q. from_far n d p q (far_place (pos n) (pos d) v p q (place_of v p in_v) (far q wide_q in_q));
}

-- the ends of an edge are on it
all_three : (a b c : Bool) → a ≡ true → b ≡ true → c ≡ true → (a && b && c) ≡ true
all_three a b c h k l = rw (h, k, l) refl

level_test : (z : ℤ) → z ≡ pos 0 → int_eq z (pos 0) ≡ true
level_test z h = rw h refl

first_within : (a b z : ℤ) → z ≡ a → (int_le a z && int_le z b || int_le b z && int_le z a) ≡ true
first_within a b z h = by_lt_z b a (λ k. down a b z h k) (λ k. up a b z h k)
  where
    down : (a b z : ℤ) → z ≡ a → b <ℤ a → (int_le a z && int_le z b || int_le b z && int_le z a) ≡ true
    down a b z h k = grind (arith, ints)

    up : (a b z : ℤ) → z ≡ a → a ≤ℤ b → (int_le a z && int_le z b || int_le b z && int_le z a) ≡ true
    up a b z h k = grind (arith, ints)

last_within : (a b z : ℤ) → z ≡ b → (int_le a z && int_le z b || int_le b z && int_le z a) ≡ true
last_within a b z h = by_lt_z b a (λ k. down a b z h k) (λ k. up a b z h k)
  where
    down : (a b z : ℤ) → z ≡ b → b <ℤ a → (int_le a z && int_le z b || int_le b z && int_le z a) ≡ true
    down a b z h k = grind (arith, ints)

    up : (a b z : ℤ) → z ≡ b → a ≤ℤ b → (int_le a z && int_le z b || int_le b z && int_le z a) ≡ true
    up a b z h k = grind (arith, ints)

pub first_on : (e : Edge) (q : Point) → IsPlace e.a q → is_on e q ≡ true
first_on e q at_end = all_three _ _ _ (level_test _ (plain (run e) (rise e) (pos q.w *ℤ e.a.x) (pos q.w *ℤ e.a.y) q.x q.y at_end.x at_end.y))
    (first_within (pos q.w *ℤ e.a.x) (pos q.w *ℤ e.b.x) q.x at_end.x) (first_within (pos q.w *ℤ e.a.y) (pos q.w *ℤ e.b.y) q.y at_end.y)
  where
    plain : (r d a b x y : ℤ) → x ≡ a → y ≡ b → r *ℤ (y -ℤ b) -ℤ d *ℤ (x -ℤ a) ≡ pos 0
    plain r d a b x y h k = rw (h, k) (simp monomials (omega (arith, ints)))

pub last_on : (e : Edge) (q : Point) → IsPlace e.b q → is_on e q ≡ true
last_on e q at_end = all_three _ _ _ (level_test _ (plain e.a.x e.a.y e.b.x e.b.y (pos q.w) q.x q.y at_end.x at_end.y))
    (last_within (pos q.w *ℤ e.a.x) (pos q.w *ℤ e.b.x) q.x at_end.x) (last_within (pos q.w *ℤ e.a.y) (pos q.w *ℤ e.b.y) q.y at_end.y)
  where
    plain : (a b c d w x y : ℤ) → x ≡ w *ℤ c → y ≡ w *ℤ d → (c -ℤ a) *ℤ (y -ℤ w *ℤ b) -ℤ (d -ℤ b) *ℤ (x -ℤ w *ℤ a) ≡ pos 0
    plain a b c d w x y h k = rw (h, k) (simp monomials (omega (arith, ints)))

-- a larger set that is no nearer
reach_more : (n d : ℕ) (P Q R : Point → Type 0) → ((q : Point) → Q q → R q) → ReachFraction n d P Q → ReachFraction n d P R
reach_more n d P Q R more h = record {
  first = h.first;
  second = h.second;
  first_wide = h.first_wide;
  second_wide = h.second_wide;
  first_in = h.first_in;
  second_in = more h.second h.second_in;
  near = h.near;
}

denominator_low : (d : ℕ) → pos 0 ≤ℤ pos d
denominator_low d = omega (arith, ints)

-- the nearest end
pub before_least : (n d : ℕ) (v : Vertex) (e : Edge) → along e (at v) ≤ℤ pos 0 → IsLeastFraction n d (IsAtVertex v) (IsAtVertex e.a) → IsLeastFraction n d (IsAtVertex v) (IsOnEdge e)
before_least n d v e before h = vertex_least n d v (IsOnEdge e)
    (reach_more n d (IsAtVertex v) (IsAtVertex e.a) (IsOnEdge e) (λ q at_end. first_on e q (place_of e.a q at_end)) h.reached)
    (λ q wide on. by_zero (reach e) (reach_not_negative e)
    (λ flat. far_turned (pos n) (pos d) q (at v) (far_place (pos n) (pos d) e.a q (at v) (place_of_flat e q flat on) (far_turned (pos n) (pos d) (at v) (at e.a) far)))
    (λ long. far_before (pos n) (pos d) e (at v) q wide (denominator_low d) long (along_of e q wide on) before far))
  where
    far : IsFar (pos n) (pos d) (at v) (at e.a)
    far = to_far n d (at v) (at e.a) (h.least (at v) (at e.a) (omega arith) (omega arith) (at_itself v) (at_itself e.a))

-- a point that is along an edge without a length is nowhere along it
along_flat : (e : Edge) (p : Point) → reach e ≡ pos 0 → along e p ≡ pos 0
along_flat e p flat = plain (run e) (rise e) _ _ (no_length (run e) (rise e) flat) (no_length (rise e) (run e) (turned (run e *ℤ run e) (rise e *ℤ rise e) flat))
  where
    turned : (m n : ℤ) → m +ℤ n ≡ pos 0 → n +ℤ m ≡ pos 0
    turned m n h = omega (arith, ints)

    plain : (r d x y : ℤ) → r ≡ pos 0 → d ≡ pos 0 → r *ℤ x +ℤ d *ℤ y ≡ pos 0
    plain r d x y h k = rw (h, k) (simp monomials (omega (arith, ints)))

pub long_of : (e : Edge) (p : Point) → pos 0 <ℤ along e p → pos 0 <ℤ reach e
long_of e p over = by_zero (reach e) (reach_not_negative e) (λ flat. absurd (clash _ over (along_flat e p flat))) (λ long. long)
  where
    clash : (z : ℤ) → pos 0 <ℤ z → z ≡ pos 0 → ⊥
    clash z h k = omega (arith, ints)

pub beyond_least : (n d : ℕ) (v : Vertex) (e : Edge) → pos 0 <ℤ along e (at v) → reach e ≤ℤ along e (at v) → IsLeastFraction n d (IsAtVertex v) (IsAtVertex e.b) → IsLeastFraction n d (IsAtVertex v) (IsOnEdge e)
beyond_least n d v e over beyond h = vertex_least n d v (IsOnEdge e)
    (reach_more n d (IsAtVertex v) (IsAtVertex e.b) (IsOnEdge e) (λ q at_end. last_on e q (place_of e.b q at_end)) h.reached)
    (λ q wide on. far_beyond (pos n) (pos d) e (at v) q wide (denominator_low d) (long_of e (at v) over) (along_of e q wide on) (one _ _ beyond) far)
  where
    one : (a l : ℤ) → l ≤ℤ a → (pos 1 *ℤ l) ≤ℤ a
    one a l h = omega (arith, ints)

    far : IsFar (pos n) (pos d) (at v) (at e.b)
    far = to_far n d (at v) (at e.b) (h.least (at v) (at e.b) (omega arith) (omega arith) (at_itself v) (at_itself e.b))

-- the foot between them
pub foot_least : (n d : ℕ) (v : Vertex) (e : Edge) → pos 0 <ℤ along e (at v) → along e (at v) ≤ℤ reach e → pos n ≡ side e (at v) *ℤ side e (at v) → pos d ≡ reach e → IsLeastFraction n d (IsAtVertex v) (IsOnEdge e)
foot_least n d v e over within is_n is_d = vertex_least n d v (IsOnEdge e)
    (record {
      first = at v;
      second = foot e (at v);
      first_wide = omega arith;
      second_wide = wide_foot e (at v) long;
      first_in = at_itself v;
      second_in = foot_on e (at v) long (weak _ _ over) within;
      near = from_near n d (at v) (foot e (at v))
          (near_plain (pos n) (pos d) (reach e) (side e (at v)) _ _ is_n is_d (abs_positive (reach e) long) (off-foot e (at v) refl long (weak _ _ over) within));
    })
    (λ q wide on. far_beside (pos n) (pos d) e (at v) q (denominator_low d) long (along_of e q wide on)
    (record { far = eq_le _ _ (far_plain (pos n) (pos d) (reach e) (side e (at v)) is_n is_d) }))
  where
    long : pos 0 <ℤ reach e
    long = long_of e (at v) over

    near_plain : (n d l s o w : ℤ) → n ≡ s *ℤ s → d ≡ l → w ≡ l → o ≡ l *ℤ (s *ℤ s) → (d *ℤ o) ≤ℤ (n *ℤ ((pos 1 *ℤ w) *ℤ (pos 1 *ℤ w)))
    near_plain n d l s o w hn hd hw ho = eq_le _ _ (rw (hn, hd, hw, ho) (simp monomials))

    far_plain : (n d l s : ℤ) → n ≡ s *ℤ s → d ≡ l → (n *ℤ (pos 1 *ℤ pos 1)) *ℤ l ≡ d *ℤ (s *ℤ s)
    far_plain n d l s hn hd = rw (hn, hd) (simp monomials)

-- no two vertices are further apart than the ends of the plane
square_below : (a b : ℤ) → IsCoordinate a → IsCoordinate b → nat_abs (a *ℤ pos 1 -ℤ b *ℤ pos 1) * nat_abs (a *ℤ pos 1 -ℤ b *ℤ pos 1) ≤ greatest_gap * greatest_gap
square_below a b ha hb = let l = mul-le _ _ greatest_gap greatest_gap (both a b ha hb) (both a b ha hb) in omega (arith, l)
  where
    both : (a b : ℤ) → IsCoordinate a → IsCoordinate b → nat_abs (a *ℤ pos 1 -ℤ b *ℤ pos 1) ≤ greatest_gap
    both a b h k = let l = h.0 in let m = h.1 in let n = k.0 in let o = k.1 in omega (arith, ints, l, m, n, o)

pub vertices_below : (v w : Vertex) → scaled_square (at v) (at w) ≤ greatest_square
vertices_below v w = plain _ _ (square_below v.x w.x v.x_in_range w.x_in_range) (square_below v.y w.y v.y_in_range w.y_in_range)
  where
    plain : (m n : ℕ) → m ≤ greatest_gap * greatest_gap → n ≤ greatest_gap * greatest_gap → m + n ≤ greatest_square
    plain m n h k = omega (arith, h, k)

-- nor is one further from the foot of its perpendicular
pub foot_below : (v : Vertex) (e : Edge) (n d s : ℕ) → n ≡ s * s → s ≡ nat_abs (side e (at v)) → pos d ≡ reach e → n ≤ greatest_square * d
foot_below v e n d s is_n is_s is_d = as_naturals_one n greatest_square d (reach e *ℤ off (at v) (at e.a)) (is_n ∙ ap (λ (k : ℕ). k * k) is_s)
    (ring (reach e) (off (at v) (at e.a)) d (scaled_square (at v) (at e.a)) is_d (pos_scaled (at v) (at e.a)))
    (vertices_below v e.a) (no_more _ _ _ _ (framed_start e (at v)) (square_not_negative (along e (at v))) (abs_square (side e (at v))))
  where
    ring : (l o : ℤ) (d k : ℕ) → pos d ≡ l → pos k ≡ o → pos (d * k) ≡ l *ℤ o
    ring l o d k h j = pos_times d k ∙ ap (λ (z : ℤ). z *ℤ pos k) h ∙ ap (λ (z : ℤ). l *ℤ z) j

    no_more : (t a s : ℤ) (m : ℕ) → t ≡ a +ℤ s → pos 0 ≤ℤ a → pos m ≡ s → pos m ≤ℤ t
    no_more t a s m e h k = omega (arith, ints)

    as_naturals_one : {m : ℕ} {k : ℕ} (n g d : ℕ) (z : ℤ) → n ≡ m → pos (d * k) ≡ z → k ≤ g → pos m ≤ℤ z → n ≤ g * d
    as_naturals_one {m} {k} n g d z e f h l = let j = mul-le-mul_right {m = k} {n = g} d h in omega (arith, ints, e, f, j, l)

-- a length's square, as the squared distance of the ends
pub reach-ends : (e : Edge) → pos (scaled_square (at e.a) (at e.b)) ≡ reach e
reach-ends e = pos_scaled (at e.a) (at e.b) ∙ plain e.a.x e.a.y e.b.x e.b.y
  where
    plain : (a b c d : ℤ) → (a *ℤ pos 1 -ℤ c *ℤ pos 1) *ℤ (a *ℤ pos 1 -ℤ c *ℤ pos 1) +ℤ (b *ℤ pos 1 -ℤ d *ℤ pos 1) *ℤ (b *ℤ pos 1 -ℤ d *ℤ pos 1) ≡ (c -ℤ a) *ℤ (c -ℤ a) +ℤ (d -ℤ b) *ℤ (d -ℤ b)
    plain a b c d = simp monomials (omega (arith, ints))

pub length_below : (e : Edge) (d : ℕ) → pos d ≡ reach e → d ≤ greatest_square
length_below e d h = plain d _ (reach e) h (reach-ends e) (vertices_below e.a e.b)
  where
    plain : (m n : ℕ) (z : ℤ) → pos m ≡ z → pos n ≡ z → n ≤ greatest_square → m ≤ greatest_square
    plain m n z h k l = omega (arith, ints, h, k, l)

-- the side as the code has it
pub side_size : (s : ℕ) (k z : ℤ) → s ≡ nat_abs (to_z w128 (of_z w128 k)) → k ≡ z → nat_abs k ≤ greatest_turn → s ≡ nat_abs z
side_size s k z h e bound = h ∙ ap nat_abs (held_turn k bound ∙ e)

pub side_square : (n s : ℕ) (z : ℤ) → n ≡ s * s → s ≡ nat_abs z → pos n ≡ z *ℤ z
side_square n s z h k = ap pos (h ∙ ap (λ (m : ℕ). m * m) k) ∙ abs_square z

-- the tests of the code
pub length_is : (e : Edge) (x y : ℤ) (k : ℕ) → x ≡ e.b.x -ℤ e.a.x → y ≡ e.b.y -ℤ e.a.y → k ≡ square x + square y → pos k ≡ reach e
length_is e x y k hx hy hk = ap pos hk ∙ pos_plus (square x) (square y) ∙ ap (λ (z : ℤ). z +ℤ pos (square y)) (abs_square x) ∙ ap (λ (z : ℤ). x *ℤ x +ℤ z) (abs_square y)
    ∙ ap (λ (z : ℤ). z *ℤ z +ℤ y *ℤ y) hx ∙ ap (λ (z : ℤ). (e.b.x -ℤ e.a.x) *ℤ (e.b.x -ℤ e.a.x) +ℤ z *ℤ z) hy
