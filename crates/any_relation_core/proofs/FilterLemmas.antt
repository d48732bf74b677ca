-- Geometries that share a point have boxes that meet, so a filter by boxes misses no pair of a join.
use Rattle.std.proofs.Common.{◌≡◌, arith, true, false}
use Rattle.std.specs.Prelude.{ℤ, pos, ◌+ℤ◌, ◌*ℤ◌, ◌<ℤ◌, ◌≤ℤ◌, int_lt, All}
use Rattle.std.proofs.lemmas.Int.{ints}
use Rattle.geom_core.specs.declared.span.Span.{Span}
use Rattle.geom_core.specs.declared.shape.Shape.{Shape}
use Rattle.geom_core.specs.Shapes.{x1, y1, x2, y2}
use Rattle.geom_core.specs.Cells.{line, IsWithin, Meets}
use Rattle.relation_core.specs.declared.relation.Relation.{Relation}
use Rattle.plane_core.specs.declared.rings.Rings.{Rings}
use Rattle.plane_core.specs.Figures.{Figure, IsGeometry}
use Rattle.plane_core.specs.Vertices.{vertices_of, HoldsVertex}
use Rattle.plane_core.specs.ProperRings.{IsGeometryOf}
use Rattle.plane_core.proofs.ScaleLemmas.{less_scaled}
use Rattle.noding_core.proofs.TestLemmas.{by_test}
use Rattle.noding_core.proofs.OrderLemmas.{wide_z}
use Rattle.shown_core.proofs.BeyondLemmas.{holds_all, aside_part}
use Rattle.shown_core.proofs.BeyondLemmas.IsAside.{Left as AsideLeft, Right as AsideRight, Low, High}
use Rattle.any_relation_core.specs.PlaneRelations.{HoldsOf, AreDisjoint, ForbidsDisjoint}

-- ---- boxes that lie apart

past : (k m n z : ℤ) → (k *ℤ m) <ℤ (k *ℤ n) → int_lt (k *ℤ m) z ≡ false → z <ℤ (k *ℤ n)
past k m n z h low = plain _ _ z h low
  where
    plain : (a b z : ℤ) → a <ℤ b → int_lt a z ≡ false → z <ℤ b
    plain a b z h low = grind (arith, ints)

more : (m n : ℤ) → int_lt m n ≡ true → m <ℤ n
more m n h = grind (arith, ints)

module _ (g h : Figure) (s t : Shape) (good_g : IsGeometry g) (good_h : IsGeometry h) (in_s : All (HoldsVertex s) (vertices_of g)) (in_t : All (HoldsVertex t) (vertices_of h)) where
  left_of : x2 s <ℤ x1 t → AreDisjoint g h
  left_of apart p wide in_g in_h =
      let up = wide_z p.w wide in
      by_test (int_lt (pos p.w *ℤ x2 s) p.x)
      (λ beyond. in_g (aside_part g s p good_g wide (holds_all s g in_s) (AsideRight (more _ _ beyond))))
      (λ not_beyond. in_h (aside_part h t p good_h wide (holds_all t h in_t) (AsideLeft (past (pos p.w) (x2 s) (x1 t) p.x (less_scaled (pos p.w) (x2 s) (x1 t) up apart) not_beyond))))

  below_it : y2 s <ℤ y1 t → AreDisjoint g h
  below_it apart p wide in_g in_h =
      let up = wide_z p.w wide in
      by_test (int_lt (pos p.w *ℤ y2 s) p.y)
      (λ beyond. in_g (aside_part g s p good_g wide (holds_all s g in_s) (High (more _ _ beyond))))
      (λ not_beyond. in_h (aside_part h t p good_h wide (holds_all t h in_t) (Low (past (pos p.w) (y2 s) (y1 t) p.y (less_scaled (pos p.w) (y2 s) (y1 t) up apart) not_beyond))))

turned : (g h : Figure) → AreDisjoint h g → AreDisjoint g h
turned g h apart p wide in_g in_h = apart p wide in_h in_g

-- ---- boxes that don't

not_more : (m n : ℤ) → int_lt m n ≡ false → n ≤ℤ m
not_more m n h = grind (arith, ints)

doubled : (m n : ℤ) → m ≤ℤ n → (m +ℤ m) ≤ℤ (n +ℤ n)
doubled m n h = grind (arith, ints)

still : (m : ℤ) → m ≤ℤ m
still m = grind (arith, ints)

spans_meet : (a b : Span) → int_lt a.hi b.lo ≡ false → int_lt b.hi a.lo ≡ false → (u : ℤ) × IsWithin a u × IsWithin b u
spans_meet a b h k =
    by_test (int_lt a.lo b.lo)
    (λ first. (line b.lo, (doubled _ _ (less_or_level _ _ (more _ _ first)), doubled _ _ (not_more _ _ h)), (doubled _ _ (still b.lo), doubled _ _ b.ordered)))
    (λ second. (line a.lo, (doubled _ _ (still a.lo), doubled _ _ a.ordered), (doubled _ _ (not_more _ _ second), doubled _ _ (not_more _ _ k))))
  where
    less_or_level : (m n : ℤ) → m <ℤ n → m ≤ℤ n
    less_or_level m n h = grind (arith, ints)

-- ---- the law

-- one of the boxes lies beyond the other
pub data AreApart (s t : Shape) : Type 0 where
  Left : x2 s <ℤ x1 t → AreApart s t
  Right : x2 t <ℤ x1 s → AreApart s t
  Below : y2 s <ℤ y1 t → AreApart s t
  Above : y2 t <ℤ y1 s → AreApart s t

pub meet_or_apart : (s t : Shape) → ¬ (AreApart s t) → Meets s t
meet_or_apart s t near =
    let (u, in_s, in_t) = spans_meet s.x t.x (by_test (int_lt (x2 s) (x1 t)) (λ k. absurd (near (Left (more _ _ k)))) (λ k. k)) (by_test (int_lt (x2 t) (x1 s)) (λ k. absurd (near (Right (more _ _ k)))) (λ k. k)) in
    let (v, up_s, up_t) = spans_meet s.y t.y (by_test (int_lt (y2 s) (y1 t)) (λ k. absurd (near (Below (more _ _ k)))) (λ k. k)) (by_test (int_lt (y2 t) (y1 s)) (λ k. absurd (near (Above (more _ _ k)))) (λ k. k)) in
    (u, v, (in_s, up_s), (in_t, up_t))

pub disjoint_apart : (g h : Figure) (s t : Shape) → IsGeometry g → IsGeometry h → All (HoldsVertex s) (vertices_of g) → All (HoldsVertex t) (vertices_of h) → AreApart s t → AreDisjoint g h
disjoint_apart g h s t good_g good_h in_s in_t (Left k) = left_of g h s t good_g good_h in_s in_t k
disjoint_apart g h s t good_g good_h in_s in_t (Right k) = turned g h (left_of h g t s good_h good_g in_t in_s k)
disjoint_apart g h s t good_g good_h in_s in_t (Below k) = below_it g h s t good_g good_h in_s in_t k
disjoint_apart g h s t good_g good_h in_s in_t (Above k) = turned g h (below_it h g t s good_h good_g in_t in_s k)

pub boxes_of_relation : (rings : Rings) (relation : Relation) (g h : Figure) (s t : Shape) → ForbidsDisjoint rings relation → IsGeometryOf rings g → IsGeometryOf rings h → All (HoldsVertex s) (vertices_of g) → All (HoldsVertex t) (vertices_of h) → HoldsOf relation g h → ¬ (AreApart s t)
boxes_of_relation rings relation g h s t forbids is_g is_h in_s in_t holds apart = forbids g h is_g is_h (disjoint_apart g h s t is_g.0 is_h.0 in_s in_t apart) holds
