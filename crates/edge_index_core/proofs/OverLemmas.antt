-- An edge over whose box a point isn't is neither on the point nor below it.
use Rattle.std.proofs.Common.{◌≡◌, ◌<◌, arith, refl, true, false}
use Rattle.std.specs.Prelude.{ℕ, ℤ, pos, ◌+ℤ◌, ◌-ℤ◌, ◌*ℤ◌, ◌≤ℤ◌, ◌<ℤ◌, Bool, int_le, int_lt, ◌&&◌}
use Rattle.std.specs.Int.{int_min}
use Rattle.std.proofs.lemmas.Int.{ints, clamps, by_lt_z}
use Rattle.geom_core.specs.declared.shape.Shape.{Shape}
use Rattle.geom_core.specs.Cells.{line, Covers, IsIn}
use Rattle.geom_core.specs.Shapes.{x1, y1, x2}
use Rattle.plane_core.specs.declared.edge.Edge.{Edge}
use Rattle.plane_core.specs.Points.{Point, side, is_on, is_below, is_at_or_below, is_from_to}
use Rattle.plane_core.specs.Boxes.{is_over}
use Rattle.plane_core.proofs.Ring.{monomials}
use Rattle.plane_core.proofs.Signs.{wide_z, weak, times_positive, times_not_negative}
use Rattle.plane_core.proofs.ScaleLemmas.{no_less_scaled}
use Rattle.plane_core.proofs.CheckLemmas.{and_first, and_second}
use Rattle.plane_core.proofs.CrossingLemmas.{le_true, true_le, along_x_of, along_y_of}
use Rattle.plane_core.proofs.FootLemmas.{by_below, by_at_or_below}
use Rattle.edge_index_core.specs.Bounds.{IsBoxOf}
use Rattle.edge_index_core.proofs.BetweenLemmas.{IsIn as IsBetween, Up, Down, scaled_in, low_of, high_of}

trans : (k m n : ℤ) → k ≤ℤ m → m ≤ℤ n → k ≤ℤ n
trans k m n h l = omega (arith, ints)

all_three : (r s t : Bool) → r ≡ true → s ≡ true → t ≡ true → (r && s && t) ≡ true
all_three r s t h k l = rw (h, k, l) refl

-- the edge has the point's x, and a point of it isn't above the point
record Reaches (e : Edge) (p : Point) : Type 0 where
  along : IsBetween (pos p.w *ℤ e.a.x) (pos p.w *ℤ e.b.x) p.x
  low : (pos p.w *ℤ int_min e.a.y e.b.y) ≤ℤ p.y

-- so the point is over the edge's box
over_box : (e : Edge) (p : Point) (s : Shape) → 0 < p.w → IsBoxOf e s → Reaches e p → is_over s p ≡ true
over_box e p s wide box h =
    let w = wide_z p.w wide in
    all_three _ _ _
    (le_true (pos p.w *ℤ x1 s) p.x (rw box.first_x (low_of e.a.x e.b.x p.x (pos p.w) w h.along)))
    (le_true p.x (pos p.w *ℤ x2 s) (rw box.second_x (high_of e.a.x e.b.x p.x (pos p.w) w h.along)))
    (le_true (pos p.w *ℤ y1 s) p.y (rw box.first_y h.low))

reach_on : (e : Edge) (p : Point) → 0 < p.w → is_on e p ≡ true → Reaches e p
reach_on e p wide on = record {
  along = scaled_in e.a.x e.b.x p.x p.w (along_x_of e p on);
  low = low_of e.a.y e.b.y p.y (pos p.w) (wide_z p.w wide) (scaled_in e.a.y e.b.y p.y p.w (along_y_of e p on));
}

-- w times the side, by the ways from both ends
ways : (w ax ay bx by x y : ℤ) →
    w *ℤ ((bx -ℤ ax) *ℤ (y -ℤ w *ℤ ay) -ℤ (by -ℤ ay) *ℤ (x -ℤ w *ℤ ax))
    ≡ (x -ℤ w *ℤ ax) *ℤ (y -ℤ w *ℤ by) +ℤ (w *ℤ bx -ℤ x) *ℤ (y -ℤ w *ℤ ay)
ways w ax ay bx by x y = simp monomials (omega (arith, ints))

-- below both ends, a point between them is on the lower side
lower : (u v m n : ℤ) → pos 0 ≤ℤ u → pos 0 <ℤ v → m <ℤ pos 0 → n <ℤ pos 0 → (u *ℤ m +ℤ v *ℤ n) <ℤ pos 0
lower u v m n hu hv hm hn =
    plain _ _ _ (ring u v m n) (times_not_negative u (pos 0 -ℤ m) hu (omega (arith, ints))) (times_positive v (pos 0 -ℤ n) hv (omega (arith, ints)))
  where
    ring : (u v m n : ℤ) → u *ℤ m +ℤ v *ℤ n ≡ pos 0 -ℤ (u *ℤ (pos 0 -ℤ m) +ℤ v *ℤ (pos 0 -ℤ n))
    ring u v m n = simp monomials (omega (arith, ints))

    plain : (t j k : ℤ) → t ≡ pos 0 -ℤ (j +ℤ k) → pos 0 ≤ℤ j → pos 0 <ℤ k → t <ℤ pos 0
    plain t j k e h l = omega (arith, ints)

-- the same, if the point lies between them the other way
upper : (u v m n : ℤ) → u <ℤ pos 0 → v ≤ℤ pos 0 → m <ℤ pos 0 → n <ℤ pos 0 → pos 0 <ℤ (u *ℤ m +ℤ v *ℤ n)
upper u v m n hu hv hm hn =
    plain _ _ _ (ring u v m n) (times_positive (pos 0 -ℤ u) (pos 0 -ℤ m) (omega (arith, ints)) (omega (arith, ints)))
    (times_not_negative (pos 0 -ℤ v) (pos 0 -ℤ n) (omega (arith, ints)) (omega (arith, ints)))
  where
    ring : (u v m n : ℤ) → u *ℤ m +ℤ v *ℤ n ≡ (pos 0 -ℤ u) *ℤ (pos 0 -ℤ m) +ℤ (pos 0 -ℤ v) *ℤ (pos 0 -ℤ n)
    ring u v m n = simp monomials (omega (arith, ints))

    plain : (t j k : ℤ) → t ≡ j +ℤ k → pos 0 <ℤ j → pos 0 ≤ℤ k → pos 0 <ℤ t
    plain t j k e h l = omega (arith, ints)

both_below : (w a b y : ℤ) → pos 0 <ℤ w → y <ℤ (w *ℤ int_min a b) → ((y -ℤ w *ℤ a) <ℤ pos 0) × ((y -ℤ w *ℤ b) <ℤ pos 0)
both_below w a b y hw h = (
  off _ _ _ h (no_less_scaled w _ _ hw (omega (arith, ints, clamps))),
  off _ _ _ h (no_less_scaled w _ _ hw (omega (arith, ints, clamps))),
)
  where
    off : (y m n : ℤ) → y <ℤ m → m ≤ℤ n → (y -ℤ n) <ℤ pos 0
    off y m n h k = omega (arith, ints)

low_right : (e : Edge) (p : Point) → 0 < p.w → (pos p.w *ℤ e.a.x) ≤ℤ p.x → p.x <ℤ (pos p.w *ℤ e.b.x) → pos 0 ≤ℤ side e p → (pos p.w *ℤ int_min e.a.y e.b.y) ≤ℤ p.y
low_right e p wide from to up = by_lt_z p.y (pos p.w *ℤ int_min e.a.y e.b.y)
    (λ under. let w = wide_z p.w wide in
    let ends = both_below (pos p.w) e.a.y e.b.y p.y w under in
    absurd (clash _ _ (ways (pos p.w) e.a.x e.a.y e.b.x e.b.y p.x p.y) (times_not_negative (pos p.w) (side e p) (weak _ _ w) up)
    (lower (p.x -ℤ pos p.w *ℤ e.a.x) (pos p.w *ℤ e.b.x -ℤ p.x) (p.y -ℤ pos p.w *ℤ e.b.y) (p.y -ℤ pos p.w *ℤ e.a.y) (not_less _ _ from) (more _ _ to) ends.1 ends.0)))
    (λ le. le)
  where
    clash : (s t : ℤ) → s ≡ t → pos 0 ≤ℤ s → t <ℤ pos 0 → ⊥
    clash s t e h k = omega (arith, ints)

    not_less : (m n : ℤ) → m ≤ℤ n → pos 0 ≤ℤ (n -ℤ m)
    not_less m n h = omega (arith, ints)

    more : (m n : ℤ) → m <ℤ n → pos 0 <ℤ (n -ℤ m)
    more m n h = omega (arith, ints)

low_left : (e : Edge) (p : Point) → 0 < p.w → (pos p.w *ℤ e.b.x) ≤ℤ p.x → p.x <ℤ (pos p.w *ℤ e.a.x) → side e p ≤ℤ pos 0 → (pos p.w *ℤ int_min e.a.y e.b.y) ≤ℤ p.y
low_left e p wide from to down = by_lt_z p.y (pos p.w *ℤ int_min e.a.y e.b.y)
    (λ under. let w = wide_z p.w wide in
    let ends = both_below (pos p.w) e.a.y e.b.y p.y w under in
    absurd (clash _ _ _ (ways (pos p.w) e.a.x e.a.y e.b.x e.b.y p.x p.y) (turned (pos p.w) (side e p)) (times_not_negative (pos p.w) (pos 0 -ℤ side e p) (weak _ _ w) (back _ down))
    (upper (p.x -ℤ pos p.w *ℤ e.a.x) (pos p.w *ℤ e.b.x -ℤ p.x) (p.y -ℤ pos p.w *ℤ e.b.y) (p.y -ℤ pos p.w *ℤ e.a.y) (less _ _ to) (not_more _ _ from) ends.1 ends.0)))
    (λ le. le)
  where
    turned : (w s : ℤ) → w *ℤ (pos 0 -ℤ s) ≡ pos 0 -ℤ w *ℤ s
    turned w s = simp monomials (omega (arith, ints))

    back : (s : ℤ) → s ≤ℤ pos 0 → pos 0 ≤ℤ (pos 0 -ℤ s)
    back s h = omega (arith, ints)

    clash : (s t m : ℤ) → s ≡ t → m ≡ pos 0 -ℤ s → pos 0 ≤ℤ m → pos 0 <ℤ t → ⊥
    clash s t m e f h k = omega (arith, ints)

    less : (m n : ℤ) → m <ℤ n → (m -ℤ n) <ℤ pos 0
    less m n h = omega (arith, ints)

    not_more : (m n : ℤ) → m ≤ℤ n → (m -ℤ n) ≤ℤ pos 0
    not_more m n h = omega (arith, ints)

true_lt : (m n : ℤ) → int_lt m n ≡ true → m <ℤ n
true_lt m n h = grind (arith, ints)

from_of : (a b z : ℤ) (w : ℕ) → is_from_to a b w z ≡ true → (pos w *ℤ a) ≤ℤ z
from_of a b z w h = true_le _ _ (and_first _ _ h)

to_of : (a b z : ℤ) (w : ℕ) → is_from_to a b w z ≡ true → z <ℤ (pos w *ℤ b)
to_of a b z w h = true_lt _ _ (and_second (int_le (pos w *ℤ a) z) _ h)

reach_right : (e : Edge) (p : Point) → 0 < p.w → is_from_to e.a.x e.b.x p.w p.x ≡ true → pos 0 ≤ℤ side e p → Reaches e p
reach_right e p wide range up =
    let from = from_of e.a.x e.b.x p.x p.w range in
    let to = to_of e.a.x e.b.x p.x p.w range in
    record { along = Up from (weak _ _ to); low = low_right e p wide from to up }

reach_left : (e : Edge) (p : Point) → 0 < p.w → is_from_to e.b.x e.a.x p.w p.x ≡ true → side e p ≤ℤ pos 0 → Reaches e p
reach_left e p wide range down =
    let from = from_of e.b.x e.a.x p.x p.w range in
    let to = to_of e.b.x e.a.x p.x p.w range in
    record { along = Down from (weak _ _ to); low = low_left e p wide from to down }

by_test : {P : Type 0} (t : Bool) → (t ≡ true → P) → (t ≡ false → P) → P
by_test true f g = f refl
by_test false f g = g refl

true_false : (t : Bool) → t ≡ true → t ≡ false → ⊥
true_false t h k = cc

-- an edge is neither on a point nor below it
pub record LiesClear (e : Edge) (p : Point) : Type 0 where
  pub on : is_on e p ≡ false
  pub below : is_below e p ≡ false
  pub at_or_below : is_at_or_below e p ≡ false

-- so it is with an edge over whose box the point isn't
pub lies_clear : (e : Edge) (p : Point) (s : Shape) → 0 < p.w → IsBoxOf e s → is_over s p ≡ false → LiesClear e p
lies_clear e p s wide box off = record {
  on = by_test (is_on e p) (λ t. absurd (not_reached (reach_on e p wide t))) (λ f. f);
  below = by_test (is_below e p)
      (λ t. absurd (not_reached
      (by_below e p wide t (λ range run up. reach_right e p wide range (weak _ _ up)) (λ range run down. reach_left e p wide range (weak _ _ down)))))
      (λ f. f);
  at_or_below = by_test (is_at_or_below e p)
      (λ t. absurd (not_reached
      (by_at_or_below e p wide t (λ range run up. reach_right e p wide range up) (λ range run down. reach_left e p wide range down))))
      (λ f. f);
}
  where
    not_reached : Reaches e p → ⊥
    not_reached h = true_false (is_over s p) (over_box e p s wide box h) off

-- cells at corners of a shape
halved : (m n : ℤ) → line m ≤ℤ line n → m ≤ℤ n
halved m n h = omega (arith, ints)

doubled : (m n : ℤ) → m ≤ℤ n → line m ≤ℤ line n
doubled m n h = omega (arith, ints)

least_cell : (s : Shape) → Covers s (line (x1 s)) (line (y1 s))
least_cell s = (
  (doubled _ _ (same (x1 s)), doubled _ _ s.x.ordered),
  (doubled _ _ (same (y1 s)), doubled _ _ s.y.ordered),
)
  where
    same : (z : ℤ) → z ≤ℤ z
    same z = omega (arith, ints)

right_cell : (s : Shape) → Covers s (line (x2 s)) (line (y1 s))
right_cell s = (
  (doubled _ _ s.x.ordered, doubled _ _ (same (x2 s))),
  (doubled _ _ (same (y1 s)), doubled _ _ s.y.ordered),
)
  where
    same : (z : ℤ) → z ≤ℤ z
    same z = omega (arith, ints)

-- a point over a shape is over each that contains it
corner_x : (a b : Shape) → IsIn a b → x1 b ≤ℤ x1 a
corner_x a b h = halved _ _ (h (line (x1 a)) (line (y1 a)) (least_cell a)).0.0

corner_y : (a b : Shape) → IsIn a b → y1 b ≤ℤ y1 a
corner_y a b h = halved _ _ (h (line (x1 a)) (line (y1 a)) (least_cell a)).1.0

corner_far : (a b : Shape) → IsIn a b → x2 a ≤ℤ x2 b
corner_far a b h = halved _ _ (h (line (x2 a)) (line (y1 a)) (right_cell a)).0.1

pub over_in : (a b : Shape) (p : Point) → 0 < p.w → IsIn a b → is_over a p ≡ true → is_over b p ≡ true
over_in a b p wide h over =
    let w = wide_z p.w wide in
    let both = and_first (int_le (pos p.w *ℤ x1 a) p.x && int_le p.x (pos p.w *ℤ x2 a)) _ over in
    all_three _ _ _
    (le_true _ _ (trans _ _ _ (no_less_scaled (pos p.w) (x1 b) (x1 a) w (corner_x a b h)) (true_le _ _ (and_first (int_le (pos p.w *ℤ x1 a) p.x) _ both))))
    (le_true _ _ (trans _ _ _ (true_le _ _ (and_second (int_le (pos p.w *ℤ x1 a) p.x) _ both)) (no_less_scaled (pos p.w) (x2 a) (x2 b) w (corner_far a b h))))
    (le_true _ _ (trans _ _ _ (no_less_scaled (pos p.w) (y1 b) (y1 a) w (corner_y a b h))
    (true_le _ _ (and_second (int_le (pos p.w *ℤ x1 a) p.x && int_le p.x (pos p.w *ℤ x2 a)) _ over))))

pub not_over_in : (a b : Shape) (p : Point) → 0 < p.w → IsIn a b → is_over b p ≡ false → is_over a p ≡ false
not_over_in a b p wide h off = by_test (is_over a p) (λ t. absurd (true_false (is_over b p) (over_in a b p wide h t) off)) (λ f. f)
