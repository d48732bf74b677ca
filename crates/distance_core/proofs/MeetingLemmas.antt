-- The least squared distance of two edges: none where they meet, else that of the nearest end.
use Rattle.std.proofs.Common.{◌≡◌, ◌*◌, ◌<◌, ◌≤◌, ◌⊎◌, ◌↔◌, inl, inr, ℕ, arith, sym, true, refl, subst}
use Rattle.std.specs.Prelude.{ℤ, pos, ◌+ℤ◌, ◌-ℤ◌, ◌*ℤ◌, ◌≤ℤ◌, ◌<ℤ◌, nat_abs}
use Rattle.std.proofs.lemmas.Int.{ints}
use Rattle.plane_core.specs.declared.vertex.Vertex.{Vertex}
use Rattle.plane_core.specs.declared.edge.Edge.{Edge}
use Rattle.plane_core.specs.declared.node.Node.{Node}
use Rattle.plane_core.specs.Points.{Point, at, is_on}
use Rattle.plane_core.specs.Places.{node_point}
use Rattle.plane_core.specs.Meetings.{IsMeeting, HaveNoMeeting}
use Rattle.plane_core.proofs.Ring.{monomials}
use Rattle.distance_core.specs.Distances.{scaled_square, scale_of, AreWithin}
use Rattle.distance_core.proofs.SquareLemmas.{wide_scale}
use Rattle.std.proofs.Math.Nat.{mul-le-mul_right, le_of_mul-le-mul_right}
use Rattle.distance_core.specs.declared.fraction.SquaredFraction.{SquaredFraction}
use Rattle.distance_core.specs.Fractions.{ReachFraction, IsLeastFraction, IsSquareOf, IsNoMore, numerator_of, IsAtVertex, IsOnEdge}
use Rattle.distance_core.proofs.RingLemmas.{pos_times}
use Rattle.distance_core.proofs.FarLemmas.{IsFar, off-turned, scale-turned, far_turned, far_less, place_of}
use Rattle.distance_core.proofs.ApartLemmas.{AreEndsFar, edges_far}
use Rattle.distance_core.proofs.LeastLemmas.{pos_scaled, pos_scale, from_far, to_far, at_itself, first_on, last_on}

-- the same two points from the other side
natural_same : (a b : ℕ) (x y : ℤ) → pos a ≡ x → pos b ≡ y → x ≡ y → a ≡ b
natural_same a b x y e f h = omega (arith, ints)

pub scaled_turned : (p q : Point) → scaled_square p q ≡ scaled_square q p
scaled_turned p q = natural_same _ _ _ _ (pos_scaled p q) (pos_scaled q p) (off-turned p q)

pub scale_turned : (p q : Point) → scale_of p q ≡ scale_of q p
scale_turned p q = natural_same _ _ _ _ (pos_scale p q) (pos_scale q p) (scale-turned p q)

pub reach_turned : (n d : ℕ) (P Q : Point → Type 0) → ReachFraction n d P Q → ReachFraction n d Q P
reach_turned n d P Q h = record {
  first = h.second;
  second = h.first;
  first_wide = h.second_wide;
  second_wide = h.first_wide;
  first_in = h.second_in;
  second_in = h.first_in;
  near = plain _ _ _ _ (scaled_turned h.first h.second) (scale_turned h.first h.second) h.near;
}
  where
    plain : (a b x y : ℕ) → a ≡ b → x ≡ y → d * a ≤ n * x → d * b ≤ n * y
    plain a b x y e f k = subst (λ (m : ℕ). d * m ≤ n * y) e (subst (λ (m : ℕ). d * a ≤ n * m) f k)

pub reach_within : (n d : ℕ) (P Q R S : Point → Type 0) → ((p : Point) → P p → R p) → ((q : Point) → Q q → S q) → ReachFraction n d P Q → ReachFraction n d R S
reach_within n d P Q R S first second h = record {
  first = h.first;
  second = h.second;
  first_wide = h.first_wide;
  second_wide = h.second_wide;
  first_in = first h.first h.first_in;
  second_in = second h.second h.second_in;
  near = h.near;
}

-- a shared point
pub meeting_least : (e f : Edge) (n d : ℕ) (node : Node) → n ≡ 0 → d ≡ 1 → IsMeeting e f (node_point node) → IsLeastFraction n d (IsOnEdge e) (IsOnEdge f)
meeting_least e f n d node none one meeting = record {
  reached = record {
    first = node_point node;
    second = node_point node;
    first_wide = wide;
    second_wide = wide;
    first_in = meeting.first;
    second_in = meeting.second;
    near = at_once n d (scaled_square (node_point node) (node_point node)) (scale_of (node_point node) (node_point node)) (no_distance (node_point node));
  };
  least = λ p q wide_p wide_q on_e on_f. none_nearer n (scale_of p q) (d * scaled_square p q) none;
}
  where
    wide : 0 < (node_point node).w
    wide = plain node.place.w node.place.positive
      where
        plain : (w : ℤ) → pos 0 <ℤ w → 0 < nat_abs w
        plain w h = omega (arith, ints)

    no_distance : (p : Point) → scaled_square p p ≡ 0
    no_distance p = natural_same _ 0 _ (pos 0) (pos_scaled p p) refl (plain p.x p.y (pos p.w))
      where
        plain : (x y w : ℤ) → (x *ℤ w -ℤ x *ℤ w) *ℤ (x *ℤ w -ℤ x *ℤ w) +ℤ (y *ℤ w -ℤ y *ℤ w) *ℤ (y *ℤ w -ℤ y *ℤ w) ≡ pos 0
        plain x y w = simp monomials (omega (arith, ints))

    at_once : (n d a s : ℕ) → a ≡ 0 → d * a ≤ n * s
    at_once n d a s h = rw h (omega arith)

    none_nearer : (n s m : ℕ) → n ≡ 0 → n * s ≤ m
    none_nearer n s m h = rw h (omega arith)

-- a fraction that is no more than another
pub far_lesser : (f g : SquaredFraction) (p q : Point) → IsNoMore f g → IsFar (pos (numerator_of g)) (pos g.denominator) p q → IsFar (pos (numerator_of f)) (pos f.denominator) p q
far_lesser f g p q h far =
    far_less (pos (numerator_of f)) (pos f.denominator) (pos (numerator_of g)) (pos g.denominator) p q (positive g.denominator g.positive) (not_negative f.denominator)
    (plain (numerator_of f) g.denominator (numerator_of g) f.denominator h) far
  where
    positive : (d : ℕ) → 0 < d → pos 0 <ℤ pos d
    positive d h = omega (arith, ints)

    not_negative : (d : ℕ) → pos 0 ≤ℤ pos d
    not_negative d = omega (arith, ints)

    plain : (a b c d : ℕ) → a * b ≤ c * d → (pos a *ℤ pos b) ≤ℤ (pos c *ℤ pos d)
    plain a b c d h = omega (arith, ints, pos_times a b, pos_times c d)

-- the lesser of two
pub record IsLesser (r f g : SquaredFraction) : Type 0 where
  pub one : (r ≡ f) ⊎ (r ≡ g)
  pub first : IsNoMore r f
  pub second : IsNoMore r g

pub by_one : (C : SquaredFraction → Type 0) (r f g : SquaredFraction) → (r ≡ f) ⊎ (r ≡ g) → C f → C g → C r
by_one C r f g (inl e) h k = subst C (sym e) h
by_one C r f g (inr e) h k = subst C (sym e) k

abbrev Reached : Edge → Edge → SquaredFraction → Type 0
Reached e f s = ReachFraction (numerator_of s) s.denominator (IsOnEdge e) (IsOnEdge f)

-- the least of the distances of the ends
pub ends_least : (e f : Edge) (a b c d first second r : SquaredFraction) → HaveNoMeeting e f
    → IsSquareOf a (IsAtVertex e.a) (IsOnEdge f) → IsSquareOf b (IsAtVertex e.b) (IsOnEdge f)
    → IsSquareOf c (IsAtVertex f.a) (IsOnEdge e) → IsSquareOf d (IsAtVertex f.b) (IsOnEdge e)
    → IsLesser first a b → IsLesser second c d → IsLesser r first second → IsSquareOf r (IsOnEdge e) (IsOnEdge f)
ends_least e f a b c d first second r none is_a is_b is_c is_d is_first is_second is_r = record {
  reached = by_one (Reached e f) r first second is_r.one
      (by_one (Reached e f) first a b is_first.one
      (reach_within (numerator_of a) a.denominator (IsAtVertex e.a) (IsOnEdge f) (IsOnEdge e) (IsOnEdge f) (λ p h. first_on e p (place_of e.a p h)) (λ q h. h) is_a.reached)
      (reach_within (numerator_of b) b.denominator (IsAtVertex e.b) (IsOnEdge f) (IsOnEdge e) (IsOnEdge f) (λ p h. last_on e p (place_of e.b p h)) (λ q h. h) is_b.reached))
      (by_one (Reached e f) second c d is_second.one
      (reach_turned (numerator_of c) c.denominator (IsOnEdge f) (IsOnEdge e)
      (reach_within (numerator_of c) c.denominator (IsAtVertex f.a) (IsOnEdge e) (IsOnEdge f) (IsOnEdge e) (λ p h. first_on f p (place_of f.a p h)) (λ q h. h) is_c.reached))
      (reach_turned (numerator_of d) d.denominator (IsOnEdge f) (IsOnEdge e)
      (reach_within (numerator_of d) d.denominator (IsAtVertex f.b) (IsOnEdge e) (IsOnEdge f) (IsOnEdge e) (λ p h. last_on f p (place_of f.b p h)) (λ q h. h) is_d.reached)));
  least = λ p q wide_p wide_q on_e on_f.
      from_far (numerator_of r) r.denominator p q (edges_far (pos (numerator_of r)) (pos r.denominator) e f (not_negative r.denominator) ends none p q wide_p wide_q on_e on_f);
}
  where
    not_negative : (d : ℕ) → pos 0 ≤ℤ pos d
    not_negative d = omega (arith, ints)

    from_vertex : (s : SquaredFraction) (v : Vertex) (g : Edge) (q : Point) → IsSquareOf s (IsAtVertex v) (IsOnEdge g) → 0 < q.w → is_on g q ≡ true → IsFar (pos (numerator_of s)) (pos s.denominator) (at v) q
    from_vertex s v g q is wide on = to_far (numerator_of s) s.denominator (at v) q (is.least (at v) q (omega arith) wide (at_itself v) on)

    ends : AreEndsFar (pos (numerator_of r)) (pos r.denominator) e f
    ends = record {
      start = λ q wide on. far_lesser r first (at e.a) q is_r.first (far_lesser first a (at e.a) q is_first.first (from_vertex a e.a f q is_a wide on));
      end = λ q wide on. far_lesser r first (at e.b) q is_r.first (far_lesser first b (at e.b) q is_first.second (from_vertex b e.b f q is_b wide on));
      from_start = λ p wide on. far_turned (pos (numerator_of r)) (pos r.denominator) (at f.a) p (far_lesser r second (at f.a) p is_r.second (far_lesser second c (at f.a) p is_second.first (from_vertex c f.a e p is_c wide on)));
      from_end = λ p wide on. far_turned (pos (numerator_of r)) (pos r.denominator) (at f.b) p (far_lesser r second (at f.b) p is_r.second (far_lesser second d (at f.b) p is_second.second (from_vertex d f.b e p is_d wide on)));
    }

-- two sets are at most a distance apart exactly where the least fraction is at most its square
module _ (P Q : Point → Type 0) (n d units : ℕ) (positive : 0 < d) (is : IsLeastFraction n d P Q) where
  within_from : n ≤ (units * units) * d → AreWithin units P Q
  within_from h = record {
    first = is.reached.first;
    second = is.reached.second;
    first_wide = is.reached.first_wide;
    second_wide = is.reached.second_wide;
    first_in = is.reached.first_in;
    second_in = is.reached.second_in;
    near = le_of_mul-le-mul_right {m = scaled_square is.reached.first is.reached.second} {n = (units * units) * scale_of is.reached.first is.reached.second} {k = d}
        (plain n d (units * units) (scaled_square is.reached.first is.reached.second) (scale_of is.reached.first is.reached.second) h is.reached.near) positive;
  }
    where
      plain : (n d u o s : ℕ) → n ≤ u * d → d * o ≤ n * s → o * d ≤ (u * s) * d
      plain n d u o s h k = let more = mul-le-mul_right {m = n} {n = u * d} s h in omega (arith, more, k)

  from_within : AreWithin units P Q → n ≤ (units * units) * d
  from_within w = le_of_mul-le-mul_right {m = n} {n = (units * units) * d} {k = scale_of w.first w.second}
      (plain n d (units * units) (scaled_square w.first w.second) (scale_of w.first w.second) (is.least w.first w.second w.first_wide w.second_wide w.first_in w.second_in) w.near)
      (wide_scale w.first w.second w.first_wide w.second_wide)
    where
      plain : (n d u o s : ℕ) → n * s ≤ d * o → o ≤ u * s → n * s ≤ (u * d) * s
      plain n d u o s h k = let more = mul-le-mul_right {m = o} {n = u * s} d k in omega (arith, more, h)

  pub within_by_fraction : (n ≤ (units * units) * d) ↔ AreWithin units P Q
  within_by_fraction = (within_from, from_within)
