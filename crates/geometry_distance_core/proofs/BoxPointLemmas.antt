-- The points of an edge lie in each box that holds it.
use Rattle.std.proofs.Common.{◌≡◌, ◌<◌, arith, true, subst, sym, ◌∙◌}
use Rattle.std.specs.Prelude.{ℕ, ℤ, pos, ◌*ℤ◌, ◌≤ℤ◌}
use Rattle.std.specs.Int.{int_min, int_max}
use Rattle.std.proofs.lemmas.Int.{ints}
use Rattle.geom_core.specs.declared.span.Span.{Span}
use Rattle.geom_core.specs.declared.shape.Shape.{Shape}
use Rattle.geom_core.specs.Cells.{line, Covers, IsIn}
use Rattle.geom_core.specs.Shapes.{x1, y1, x2, y2}
use Rattle.plane_core.specs.declared.edge.Edge.{Edge}
use Rattle.plane_core.specs.Points.{Point, is_on, is_between}
use Rattle.plane_core.proofs.Signs.{wide_z}
use Rattle.plane_core.proofs.ScaleLemmas.{no_less_scaled}
use Rattle.plane_core.proofs.CrossingLemmas.{along_x_of, along_y_of}
use Rattle.edge_index_core.specs.Bounds.{IsBoxOf}
use Rattle.edge_index_core.specs.Runs.{HoldsEdge}
use Rattle.edge_index_core.proofs.BetweenLemmas.{scaled_in, low_of, high_of}
use Rattle.distance_core.specs.ShapePoints.{HasNumber, HasPoint}
use Rattle.distance_core.specs.Distances.{IsSquaredDistance}
use Rattle.geometry_distance_core.specs.declared.nearest.Nearest.{Nearest}
use Rattle.geometry_distance_core.specs.NearestPairs.{IsPast}
use Rattle.geometry_distance_core.proofs.PairLemmas.{IsFar, is_far}

-- numbers between the ends of an interval
between_number : (s : Span) (a b z : ℤ) (w : ℕ) → 0 < w → s.lo ≡ int_min a b → s.hi ≡ int_max a b → is_between a b w z ≡ true → HasNumber s z w
between_number s a b z w wide lo hi h =
    let up = wide_z w wide in
    let in_ = scaled_in a b z w h in (
      subst (λ (l : ℤ). (pos w *ℤ l) ≤ℤ z) (sym lo) (low_of a b z (pos w) up in_),
      subst (λ (l : ℤ). z ≤ℤ (pos w *ℤ l)) (sym hi) (high_of a b z (pos w) up in_),
    )

pub on_in_box : (e : Edge) (s : Shape) (p : Point) → 0 < p.w → IsBoxOf e s → is_on e p ≡ true → HasPoint s p
on_in_box e s p wide box on = (
  between_number s.x e.a.x e.b.x p.x p.w wide box.first_x box.second_x (along_x_of e p on),
  between_number s.y e.a.y e.b.y p.y p.w wide box.first_y box.second_y (along_y_of e p on),
)

-- cells at the corners of a shape
halved : (m n : ℤ) → line m ≤ℤ line n → m ≤ℤ n
halved m n h = omega (arith, ints)

doubled : (m n : ℤ) → m ≤ℤ n → line m ≤ℤ line n
doubled m n h = omega (arith, ints)

same : (z : ℤ) → z ≤ℤ z
same z = omega (arith, ints)

low_cell : (s : Shape) → Covers s (line (x1 s)) (line (y1 s))
low_cell s = ((doubled _ _ (same (x1 s)), doubled _ _ s.x.ordered), (doubled _ _ (same (y1 s)), doubled _ _ s.y.ordered))

high_cell : (s : Shape) → Covers s (line (x2 s)) (line (y2 s))
high_cell s = ((doubled _ _ s.x.ordered, doubled _ _ (same (x2 s))), (doubled _ _ s.y.ordered, doubled _ _ (same (y2 s))))

trans : (k m n : ℤ) → k ≤ℤ m → m ≤ℤ n → k ≤ℤ n
trans k m n h l = omega (arith, ints)

wider_number : (a b : Span) (z : ℤ) (w : ℕ) → 0 < w → b.lo ≤ℤ a.lo → a.hi ≤ℤ b.hi → HasNumber a z w → HasNumber b z w
wider_number a b z w wide lo hi h =
    let up = wide_z w wide in (
      trans _ _ _ (no_less_scaled (pos w) b.lo a.lo up lo) h.0,
      trans _ _ _ h.1 (no_less_scaled (pos w) a.hi b.hi up hi),
    )

pub in_wider : (s t : Shape) (p : Point) → 0 < p.w → IsIn s t → HasPoint s p → HasPoint t p
in_wider s t p wide within h =
    let low = within (line (x1 s)) (line (y1 s)) (low_cell s) in
    let high = within (line (x2 s)) (line (y2 s)) (high_cell s) in (
      wider_number s.x t.x p.x p.w wide (halved _ _ low.0.0) (halved _ _ high.0.1) h.0,
      wider_number s.y t.y p.y p.w wide (halved _ _ low.1.0) (halved _ _ high.1.1) h.1,
    )

pub held_in_box : (e : Edge) (s : Shape) (p : Point) → 0 < p.w → HoldsEdge s e → is_on e p ≡ true → HasPoint s p
held_in_box e s p wide holds on = in_wider holds.own s p wide holds.within (on_in_box e holds.own p wide holds.own_is on)

-- points of two boxes whose squared distance is past
pub boxes_far : (nearest : Nearest) (n : ℕ) (s t : Shape) (p q : Point) → 0 < p.w → 0 < q.w → IsPast nearest n → IsSquaredDistance n (HasPoint s) (HasPoint t)
    → HasPoint s p → HasPoint t q → IsFar nearest p q
boxes_far nearest n s t p q wide_p wide_q past is in_s in_t = is_far nearest n p q wide_p wide_q past (is.least p q wide_p wide_q in_s in_t)
