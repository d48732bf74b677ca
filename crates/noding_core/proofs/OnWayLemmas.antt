-- The points between two points of an edge are on the edge.
use Rattle.std.proofs.Common.{◌≡◌, ◌<◌, ◌*◌, ◌+◌, ℕ, sym, subst, true, arith}
use Rattle.std.specs.Prelude.{ℤ, pos, ◌+ℤ◌, ◌*ℤ◌, ◌≤ℤ◌, ◌<ℤ◌, Bool, ◌&&◌}
use Rattle.std.specs.Ordering.{int_eq}
use Rattle.std.specs.Int.{int_min, int_max}
use Rattle.std.proofs.lemmas.Int.{ints, clamps, by_lt_z}
use Rattle.plane_core.specs.declared.edge.Edge.{Edge}
use Rattle.plane_core.specs.Points.{Point, is_on, is_between}
use Rattle.plane_core.proofs.CrossingLemmas.{level_of, along_x_of, along_y_of}
use Rattle.plane_core.proofs.Signs.{wide_z}
use Rattle.edge_index_core.proofs.BetweenLemmas.{IsIn, Up, Down, scaled_in, in_scaled, low_of, high_of}
use Rattle.noding_core.proofs.CrossLemmas.{mixed_columns, mixed_columns_below}
use Rattle.noding_core.proofs.PieceLemmas.{level_mix}
use Rattle.noding_core.proofs.WayLemmas.{IsOnWay}

-- what is between the least and the greatest of two numbers is between these
in_limits : (a b m z : ℤ) → (m *ℤ int_min a b) ≤ℤ z → z ≤ℤ (m *ℤ int_max a b) → IsIn (m *ℤ a) (m *ℤ b) z
in_limits a b m z low high = by_lt_z b a
    (λ down. Down (subst (λ (k : ℤ). (m *ℤ k) ≤ℤ z) (least_b down) low) (subst (λ (k : ℤ). z ≤ℤ (m *ℤ k)) (most_a down) high))
    (λ up. Up (subst (λ (k : ℤ). (m *ℤ k) ≤ℤ z) (least_a up) low) (subst (λ (k : ℤ). z ≤ℤ (m *ℤ k)) (most_b up) high))
  where
    least_b : b <ℤ a → int_min a b ≡ b
    least_b h = omega (arith, ints, clamps)

    most_a : b <ℤ a → int_max a b ≡ a
    most_a h = omega (arith, ints, clamps)

    least_a : a ≤ℤ b → int_min a b ≡ a
    least_a h = omega (arith, ints, clamps)

    most_b : a ≤ℤ b → int_max a b ≡ b
    most_b h = omega (arith, ints, clamps)

not_negative : (n : ℕ) → pos 0 ≤ℤ pos n
not_negative n = omega (arith, ints)

weight : (s w t v : ℕ) → pos (s * w + t * v) ≡ pos s *ℤ pos w +ℤ pos t *ℤ pos v
weight s w t v = omega (arith, ints)

between_mix : (a b : ℤ) (s w t v : ℕ) (y z : ℤ) → 0 < w → 0 < v → is_between a b w y ≡ true → is_between a b v z ≡ true → is_between a b (s * w + t * v) (pos s *ℤ y +ℤ pos t *ℤ z) ≡ true
between_mix a b s w t v y z wide_w wide_v h k =
    let first = scaled_in a b y w h in
    let last = scaled_in a b z v k in
    let low = mixed_columns (pos s) (pos t) (int_min a b) y (pos w) z (pos v) _ (not_negative s) (not_negative t) (weight s w t v)
    (low_of a b y (pos w) (wide_z w wide_w) first) (low_of a b z (pos v) (wide_z v wide_v) last) in
    let high = mixed_columns_below (pos s) (pos t) (int_max a b) y (pos w) z (pos v) _ (not_negative s) (not_negative t) (weight s w t v)
    (high_of a b y (pos w) (wide_z w wide_w) first) (high_of a b z (pos v) (wide_z v wide_v) last) in
    in_scaled a b (pos s *ℤ y +ℤ pos t *ℤ z) (s * w + t * v) (in_limits a b (pos (s * w + t * v)) (pos s *ℤ y +ℤ pos t *ℤ z) low high)

three : (z : ℤ) (t u : Bool) → z ≡ pos 0 → t ≡ true → u ≡ true → (int_eq z (pos 0) && t && u) ≡ true
three z t u h k l = grind (arith, ints)

pub on_way : (e : Edge) (p q z : Point) → 0 < p.w → 0 < q.w → is_on e p ≡ true → is_on e q ≡ true → IsOnWay p q z → is_on e z ≡ true
on_way e p q z wide_p wide_q on_p on_q way = subst (λ (x : Point). is_on e x ≡ true) (sym way.is)
    (three _ _ _ (level_mix e way.s p way.t q (level_of e p on_p) (level_of e q on_q))
    (between_mix e.a.x e.b.x way.s p.w way.t q.w p.x q.x wide_p wide_q (along_x_of e p on_p) (along_x_of e q on_q))
    (between_mix e.a.y e.b.y way.s p.w way.t q.w p.y q.y wide_p wide_q (along_y_of e p on_p) (along_y_of e q on_q)))
