-- All points of a geometry that aren't exterior are in each box of its vertices, so geometries that
-- share such a point have boxes that meet.
use Rattle.std.proofs.Common.{◌≡◌, ◌≢◌, ◌<◌, arith, refl, sym, ap, ◌∙◌, true, false, List}
use Rattle.std.specs.Prelude.{ℕ, ℤ, pos, neg_ℤ, ◌*ℤ◌, ◌-ℤ◌, ◌+ℤ◌, ◌≤ℤ◌, ◌<ℤ◌, int_lt, int_le, Bool, ◌&&◌, ◌||◌, count_by, if◌then◌else◌}
use Rattle.std.specs.List.{flat_map}
use Rattle.std.proofs.lemmas.Int.{ints, by_lt_z}
use Rattle.geom_core.specs.declared.span.Span.{Span}
use Rattle.geom_core.specs.declared.shape.Shape.{Shape}
use Rattle.geom_core.specs.Shapes.{x1, y1, x2, y2}
use Rattle.geom_core.specs.Cells.{line, IsWithin, Meets}
use Rattle.plane_core.specs.declared.vertex.Vertex.{Vertex}
use Rattle.plane_core.specs.declared.edge.Edge.{Edge}
use Rattle.plane_core.specs.declared.part.Part.{Part}
use Rattle.plane_core.specs.declared.part.Part.TheVariants.{Interior, Exterior}
use Rattle.plane_core.specs.Points.{Point, side, is_below}
use Rattle.plane_core.specs.Figures.{Figure, Points, Lines, Areas, edges, edges_of, points_of, is_odd, part_of, IsGeometry}
use Rattle.plane_core.specs.PlaneMatrices.{IsInBoth, SharePoint}
use Rattle.plane_core.proofs.Ring.{monomials}
use Rattle.plane_core.proofs.Signs.{weak, times_positive, times_not_negative, positive_factor}
use Rattle.plane_core.proofs.ScaleLemmas.{no_less_scaled}
use Rattle.plane_core.proofs.OffLemmas.{less_off, more_off, low_test, high_test, columns_off, rows_off, not_at_column, not_at_row}
use Rattle.noding_core.specs.Nodes.{IsAmong}
use Rattle.noding_core.proofs.RingLemmas.{differ, rings_parity}
use Rattle.noding_core.proofs.AmongLemmas.{count_none}
use Rattle.noding_core.proofs.OffPartLemmas.{IsOffAll, off_part, off_part-is, off_part-none}

-- a vertex in a box, and a point
pub record HoldsVertex (s : Shape) (v : Vertex) : Type 0 where
  pub left : x1 s ≤ℤ v.x
  pub right : v.x ≤ℤ x2 s
  pub low : y1 s ≤ℤ v.y
  pub high : v.y ≤ℤ y2 s

pub record HoldsPoint (s : Shape) (p : Point) : Type 0 where
  pub left : (pos p.w *ℤ x1 s) ≤ℤ p.x
  pub right : p.x ≤ℤ (pos p.w *ℤ x2 s)
  pub low : (pos p.w *ℤ y1 s) ≤ℤ p.y
  pub high : p.y ≤ℤ (pos p.w *ℤ y2 s)

-- all vertices of a geometry in a box
pub record HoldsAll (s : Shape) (g : Figure) : Type 0 where
  pub firsts : (e : Edge) → IsAmong e (edges_of g) → HoldsVertex s e.a
  pub lasts : (e : Edge) → IsAmong e (edges_of g) → HoldsVertex s e.b
  pub points : (v : Vertex) → IsAmong v (points_of g) → HoldsVertex s v

-- over plain numbers
before : (w z a b : ℤ) → pos 0 <ℤ w → z <ℤ (w *ℤ a) → a ≤ℤ b → z <ℤ (w *ℤ b)
before w z a b hw h k = plain z (w *ℤ a) (w *ℤ b) h (no_less_scaled w a b hw k)
  where
    plain : (z m n : ℤ) → z <ℤ m → m ≤ℤ n → z <ℤ n
    plain z m n h k = omega (arith, ints)

behind : (w z a b : ℤ) → pos 0 <ℤ w → (w *ℤ a) <ℤ z → b ≤ℤ a → (w *ℤ b) <ℤ z
behind w z a b hw h k = plain z (w *ℤ a) (w *ℤ b) h (no_less_scaled w b a hw k)
  where
    plain : (z m n : ℤ) → m <ℤ z → n ≤ℤ m → n <ℤ z
    plain z m n h k = omega (arith, ints)

weighted : (w t m n u v : ℤ) → pos 0 <ℤ w → w *ℤ t ≡ m *ℤ u +ℤ n *ℤ v → pos 0 <ℤ m → pos 0 ≤ℤ n → pos 0 <ℤ u → pos 0 <ℤ v → pos 0 <ℤ t
weighted w t m n u v hw e hm hn hu hv = positive_factor w t hw (plain (m *ℤ u) (n *ℤ v) (w *ℤ t) e (times_positive m u hm hu) (times_not_negative n v hn (weak _ _ hv)))
  where
    plain : (a b c : ℤ) → c ≡ a +ℤ b → pos 0 <ℤ a → pos 0 ≤ℤ b → pos 0 <ℤ c
    plain a b c e h k = omega (arith, ints)

-- the side of an edge from its two ends
from_ends : (a b c d x y w : ℤ) → w *ℤ ((c -ℤ a) *ℤ (y -ℤ w *ℤ b) -ℤ (d -ℤ b) *ℤ (x -ℤ w *ℤ a)) ≡ (w *ℤ c -ℤ x) *ℤ (y -ℤ w *ℤ b) +ℤ (x -ℤ w *ℤ a) *ℤ (y -ℤ w *ℤ d)
from_ends a b c d x y w = simp monomials (omega (arith, ints))

from_ends_back : (a b c d x y w : ℤ) → w *ℤ neg_ℤ ((c -ℤ a) *ℤ (y -ℤ w *ℤ b) -ℤ (d -ℤ b) *ℤ (x -ℤ w *ℤ a)) ≡ (w *ℤ a -ℤ x) *ℤ (y -ℤ w *ℤ d) +ℤ (x -ℤ w *ℤ c) *ℤ (y -ℤ w *ℤ b)
from_ends_back a b c d x y w = simp monomials (omega (arith, ints))

from_ends_low : (a b c d x y w : ℤ) → w *ℤ neg_ℤ ((c -ℤ a) *ℤ (y -ℤ w *ℤ b) -ℤ (d -ℤ b) *ℤ (x -ℤ w *ℤ a)) ≡ (w *ℤ c -ℤ x) *ℤ (w *ℤ b -ℤ y) +ℤ (x -ℤ w *ℤ a) *ℤ (w *ℤ d -ℤ y)
from_ends_low a b c d x y w = simp monomials (omega (arith, ints))

from_ends_low_back : (a b c d x y w : ℤ) → w *ℤ ((c -ℤ a) *ℤ (y -ℤ w *ℤ b) -ℤ (d -ℤ b) *ℤ (x -ℤ w *ℤ a)) ≡ (w *ℤ a -ℤ x) *ℤ (w *ℤ d -ℤ y) +ℤ (x -ℤ w *ℤ c) *ℤ (w *ℤ b -ℤ y)
from_ends_low_back a b c d x y w = simp monomials (omega (arith, ints))

apart : (m n : ℤ) → m <ℤ n → pos 0 <ℤ (n -ℤ m)
apart m n h = omega (arith, ints)

no_less : (m n : ℤ) → m ≤ℤ n → pos 0 ≤ℤ (n -ℤ m)
no_less m n h = omega (arith, ints)

-- tests over plain numbers: a and b are the columns of the ends, z of the point
pub both_left : (a b z s : ℤ) → z <ℤ a → z <ℤ b → ((int_le a z && int_lt z b) && int_lt (pos 0) s || (int_le b z && int_lt z a) && int_lt s (pos 0)) ≡ false
both_left a b z s h k = grind (arith, ints)

pub both_right : (a b z s : ℤ) → a <ℤ z → b <ℤ z → ((int_le a z && int_lt z b) && int_lt (pos 0) s || (int_le b z && int_lt z a) && int_lt s (pos 0)) ≡ false
both_right a b z s h k = grind (arith, ints)

test_left : (a b z s : ℤ) → z <ℤ a → z <ℤ b → ((int_le a z && int_lt z b) && int_lt (pos 0) s || (int_le b z && int_lt z a) && int_lt s (pos 0)) ≡ differ (int_le a z) (int_le b z)
test_left a b z s h k = both_left a b z s h k ∙ grind (arith, ints)

test_right : (a b z s : ℤ) → a ≤ℤ z → b ≤ℤ z → ((int_le a z && int_lt z b) && int_lt (pos 0) s || (int_le b z && int_lt z a) && int_lt s (pos 0)) ≡ differ (int_le a z) (int_le b z)
test_right a b z s h k = grind (arith, ints)

test_first : (a b z s : ℤ) → a ≤ℤ z → z <ℤ b → pos 0 <ℤ s → ((int_le a z && int_lt z b) && int_lt (pos 0) s || (int_le b z && int_lt z a) && int_lt s (pos 0)) ≡ differ (int_le a z) (int_le b z)
test_first a b z s h k l = grind (arith, ints)

test_second : (a b z s : ℤ) → b ≤ℤ z → z <ℤ a → pos 0 <ℤ neg_ℤ s → ((int_le a z && int_lt z b) && int_lt (pos 0) s || (int_le b z && int_lt z a) && int_lt s (pos 0)) ≡ differ (int_le a z) (int_le b z)
test_second a b z s h k l = grind (arith, ints)

low_right : (a b z s : ℤ) → a ≤ℤ z → b ≤ℤ z → ((int_le a z && int_lt z b) && int_lt (pos 0) s || (int_le b z && int_lt z a) && int_lt s (pos 0)) ≡ false
low_right a b z s h k = grind (arith, ints)

low_first : (a b z s : ℤ) → a ≤ℤ z → z <ℤ b → pos 0 <ℤ neg_ℤ s → ((int_le a z && int_lt z b) && int_lt (pos 0) s || (int_le b z && int_lt z a) && int_lt s (pos 0)) ≡ false
low_first a b z s h k l = grind (arith, ints)

low_second : (a b z s : ℤ) → b ≤ℤ z → z <ℤ a → pos 0 <ℤ s → ((int_le a z && int_lt z b) && int_lt (pos 0) s || (int_le b z && int_lt z a) && int_lt s (pos 0)) ≡ false
low_second a b z s h k l = grind (arith, ints)

-- a point lower than both ends of an edge isn't above the edge
pub not_below_low : (e : Edge) (p : Point) → pos 0 <ℤ pos p.w → p.y <ℤ (pos p.w *ℤ e.a.y) → p.y <ℤ (pos p.w *ℤ e.b.y) → is_below e p ≡ false
not_below_low e p wide h k =
    by_lt_z p.x (pos p.w *ℤ e.a.x)
    (λ left. by_lt_z p.x (pos p.w *ℤ e.b.x)
    (λ also. both_left (pos p.w *ℤ e.a.x) (pos p.w *ℤ e.b.x) p.x (side e p) left also)
    (λ right. low_second (pos p.w *ℤ e.a.x) (pos p.w *ℤ e.b.x) p.x (side e p) right left
    (weighted (pos p.w) (side e p) _ _ _ _ wide (from_ends_low_back e.a.x e.a.y e.b.x e.b.y p.x p.y (pos p.w)) (apart _ _ left) (no_less _ _ right) (apart _ _ k) (apart _ _ h))))
    (λ right. by_lt_z p.x (pos p.w *ℤ e.b.x)
    (λ left. low_first (pos p.w *ℤ e.a.x) (pos p.w *ℤ e.b.x) p.x (side e p) right left
    (weighted (pos p.w) (neg_ℤ (side e p)) _ _ _ _ wide (from_ends_low e.a.x e.a.y e.b.x e.b.y p.x p.y (pos p.w)) (apart _ _ left) (no_less _ _ right) (apart _ _ h) (apart _ _ k)))
    (λ also. low_right (pos p.w *ℤ e.a.x) (pos p.w *ℤ e.b.x) p.x (side e p) right also))

-- one higher than both is above it where just one of the ends isn't right of it
pub below_high : (e : Edge) (p : Point) → pos 0 <ℤ pos p.w → (pos p.w *ℤ e.a.y) <ℤ p.y → (pos p.w *ℤ e.b.y) <ℤ p.y → is_below e p ≡ differ (int_le (pos p.w *ℤ e.a.x) p.x) (int_le (pos p.w *ℤ e.b.x) p.x)
below_high e p wide h k =
    by_lt_z p.x (pos p.w *ℤ e.a.x)
    (λ left. by_lt_z p.x (pos p.w *ℤ e.b.x)
    (λ also. test_left (pos p.w *ℤ e.a.x) (pos p.w *ℤ e.b.x) p.x (side e p) left also)
    (λ right. test_second (pos p.w *ℤ e.a.x) (pos p.w *ℤ e.b.x) p.x (side e p) right left
    (weighted (pos p.w) (neg_ℤ (side e p)) _ _ _ _ wide (from_ends_back e.a.x e.a.y e.b.x e.b.y p.x p.y (pos p.w)) (apart _ _ left) (no_less _ _ right) (apart _ _ k) (apart _ _ h))))
    (λ right. by_lt_z p.x (pos p.w *ℤ e.b.x)
    (λ left. test_first (pos p.w *ℤ e.a.x) (pos p.w *ℤ e.b.x) p.x (side e p) right left
    (weighted (pos p.w) (side e p) _ _ _ _ wide (from_ends e.a.x e.a.y e.b.x e.b.y p.x p.y (pos p.w)) (apart _ _ left) (no_less _ _ right) (apart _ _ h) (apart _ _ k)))
    (λ also. test_right (pos p.w *ℤ e.a.x) (pos p.w *ℤ e.b.x) p.x (side e p) right also))

-- rings pass below a point higher than all of them an even number of times
none_odd : {A : Type 0} (xs : List A) → is_odd (count_by (λ (x : A). false) xs) ≡ false
none_odd xs = ap is_odd (count_none (λ x. false) xs (λ x k. refl))

differ_false : (t u : Bool) → t ≡ u → differ t false ≡ u
differ_false true u h = h
differ_false false u h = h

high_exterior : (g : Figure) (p : Point) → IsGeometry g → ((e : Edge) → IsAmong e (edges_of g) → is_below e p ≡ differ (int_le (pos p.w *ℤ e.a.x) p.x) (int_le (pos p.w *ℤ e.b.x) p.x))
    → off_part g (λ e. is_below e p) ≡ Exterior
high_exterior (Points vs) p good h = refl
high_exterior (Lines paths) p good h = refl
high_exterior (Areas rings) p good h = ap (λ (t : Bool). if t then Interior else Exterior)
    (rings_parity (λ e. is_below e p) (λ e. false) (λ v. int_le (pos p.w *ℤ v.x) p.x) rings good.1 (λ e k. differ_false (is_below e p) _ (h e k)) ∙ none_odd (flat_map edges rings))

-- a point outside a box of the vertices is exterior
pub left_exterior : (g : Figure) (s : Shape) (p : Point) → IsGeometry g → pos 0 <ℤ pos p.w → HoldsAll s g → p.x <ℤ (pos p.w *ℤ x1 s) → part_of g p ≡ Exterior
left_exterior g s p good wide all h = off_part-is g p good off ∙ off_part-none g (λ e. is_below e p)
    (λ e k. both_left (pos p.w *ℤ e.a.x) (pos p.w *ℤ e.b.x) p.x (side e p) (before (pos p.w) p.x (x1 s) e.a.x wide h (all.firsts e k).left) (before (pos p.w) p.x (x1 s) e.b.x wide h (all.lasts e k).left))
  where
    off : IsOffAll (edges_of g) (points_of g) p
    off = record {
      edges = λ e k. columns_off e p (low_test (pos p.w *ℤ e.a.x) (pos p.w *ℤ e.b.x) p.x (before (pos p.w) p.x (x1 s) e.a.x wide h (all.firsts e k).left) (before (pos p.w) p.x (x1 s) e.b.x wide h (all.lasts e k).left));
      points = λ v k. not_at_column v p (less_off _ _ (before (pos p.w) p.x (x1 s) v.x wide h (all.points v k).left));
    }

pub right_exterior : (g : Figure) (s : Shape) (p : Point) → IsGeometry g → pos 0 <ℤ pos p.w → HoldsAll s g → (pos p.w *ℤ x2 s) <ℤ p.x → part_of g p ≡ Exterior
right_exterior g s p good wide all h = off_part-is g p good off ∙ off_part-none g (λ e. is_below e p)
    (λ e k. both_right (pos p.w *ℤ e.a.x) (pos p.w *ℤ e.b.x) p.x (side e p) (behind (pos p.w) p.x (x2 s) e.a.x wide h (all.firsts e k).right) (behind (pos p.w) p.x (x2 s) e.b.x wide h (all.lasts e k).right))
  where
    off : IsOffAll (edges_of g) (points_of g) p
    off = record {
      edges = λ e k. columns_off e p (high_test (pos p.w *ℤ e.a.x) (pos p.w *ℤ e.b.x) p.x (behind (pos p.w) p.x (x2 s) e.a.x wide h (all.firsts e k).right) (behind (pos p.w) p.x (x2 s) e.b.x wide h (all.lasts e k).right));
      points = λ v k. not_at_column v p (more_off _ _ (behind (pos p.w) p.x (x2 s) v.x wide h (all.points v k).right));
    }

pub low_exterior : (g : Figure) (s : Shape) (p : Point) → IsGeometry g → pos 0 <ℤ pos p.w → HoldsAll s g → p.y <ℤ (pos p.w *ℤ y1 s) → part_of g p ≡ Exterior
low_exterior g s p good wide all h = off_part-is g p good off ∙ off_part-none g (λ e. is_below e p)
    (λ e k. not_below_low e p wide (before (pos p.w) p.y (y1 s) e.a.y wide h (all.firsts e k).low) (before (pos p.w) p.y (y1 s) e.b.y wide h (all.lasts e k).low))
  where
    off : IsOffAll (edges_of g) (points_of g) p
    off = record {
      edges = λ e k. rows_off e p (low_test (pos p.w *ℤ e.a.y) (pos p.w *ℤ e.b.y) p.y (before (pos p.w) p.y (y1 s) e.a.y wide h (all.firsts e k).low) (before (pos p.w) p.y (y1 s) e.b.y wide h (all.lasts e k).low));
      points = λ v k. not_at_row v p (less_off _ _ (before (pos p.w) p.y (y1 s) v.y wide h (all.points v k).low));
    }

pub high_outside : (g : Figure) (s : Shape) (p : Point) → IsGeometry g → pos 0 <ℤ pos p.w → HoldsAll s g → (pos p.w *ℤ y2 s) <ℤ p.y → part_of g p ≡ Exterior
high_outside g s p good wide all h = off_part-is g p good off ∙ high_exterior g p good
    (λ e k. below_high e p wide (behind (pos p.w) p.y (y2 s) e.a.y wide h (all.firsts e k).high) (behind (pos p.w) p.y (y2 s) e.b.y wide h (all.lasts e k).high))
  where
    off : IsOffAll (edges_of g) (points_of g) p
    off = record {
      edges = λ e k. rows_off e p (high_test (pos p.w *ℤ e.a.y) (pos p.w *ℤ e.b.y) p.y (behind (pos p.w) p.y (y2 s) e.a.y wide h (all.firsts e k).high) (behind (pos p.w) p.y (y2 s) e.b.y wide h (all.lasts e k).high));
      points = λ v k. not_at_row v p (more_off _ _ (behind (pos p.w) p.y (y2 s) v.y wide h (all.points v k).high));
    }

pub part_in_box : (g : Figure) (s : Shape) (p : Point) → IsGeometry g → 0 < p.w → HoldsAll s g → part_of g p ≢ Exterior → HoldsPoint s p
part_in_box g s p good wide all inside = record {
  left = by_lt_z p.x (pos p.w *ℤ x1 s) (λ h. absurd (inside (left_exterior g s p good up all h))) (λ h. h);
  right = by_lt_z (pos p.w *ℤ x2 s) p.x (λ h. absurd (inside (right_exterior g s p good up all h))) (λ h. h);
  low = by_lt_z p.y (pos p.w *ℤ y1 s) (λ h. absurd (inside (low_exterior g s p good up all h))) (λ h. h);
  high = by_lt_z (pos p.w *ℤ y2 s) p.y (λ h. absurd (inside (high_outside g s p good up all h))) (λ h. h);
}
  where
    up : pos 0 <ℤ pos p.w
    up = omega (arith, ints)

-- two spans with a common number have a common cell
span_cell : (a b : Span) (w z : ℤ) → pos 0 <ℤ w → (w *ℤ a.lo) ≤ℤ z → z ≤ℤ (w *ℤ a.hi) → (w *ℤ b.lo) ≤ℤ z → z ≤ℤ (w *ℤ b.hi) → (u : ℤ) × IsWithin a u × IsWithin b u
span_cell a b w z hw al ah bl bh =
    let first : a.lo ≤ℤ b.hi = ordered a.lo b.hi (trans _ _ _ al bh) in
    let second : b.lo ≤ℤ a.hi = ordered b.lo a.hi (trans _ _ _ bl ah) in
    let a_ordered = a.ordered in
    let b_ordered = b.ordered in
    by_lt_z a.lo b.lo
    (λ h. (line b.lo, (omega (arith, ints), omega (arith, ints)), (omega (arith, ints), omega (arith, ints))))
    (λ h. (line a.lo, (omega (arith, ints), omega (arith, ints)), (omega (arith, ints), omega (arith, ints))))
  where
    trans : (k m n : ℤ) → k ≤ℤ m → m ≤ℤ n → k ≤ℤ n
    trans k m n h l = omega (arith, ints)

    clash : (m n : ℤ) → m ≤ℤ n → n <ℤ m → ⊥
    clash m n h k = omega (arith, ints)

    scaled : (m n : ℤ) → n <ℤ m → (w *ℤ n) <ℤ (w *ℤ m)
    scaled m n h = plain (w *ℤ n) (w *ℤ m) (w *ℤ (m -ℤ n)) (simp monomials (omega (arith, ints))) (times_positive w (m -ℤ n) hw (apart n m h))
      where
        plain : (k l d : ℤ) → d ≡ l -ℤ k → pos 0 <ℤ d → k <ℤ l
        plain k l d e g = omega (arith, ints)

    ordered : (m n : ℤ) → (w *ℤ m) ≤ℤ (w *ℤ n) → m ≤ℤ n
    ordered m n h = by_lt_z n m (λ less. absurd (clash (w *ℤ m) (w *ℤ n) h (scaled m n less))) (λ k. k)

-- so a shared point that is exterior to neither shows that the boxes meet
pub boxes_meet : (g h : Figure) (s t : Shape) (i j : Part) → IsGeometry g → IsGeometry h → HoldsAll s g → HoldsAll t h → i ≢ Exterior → j ≢ Exterior → SharePoint (IsInBoth g h i j) → Meets s t
boxes_meet g h s t i j good_g good_h all_g all_h in_g in_h (p, wide, is) =
    let a = part_in_box g s p good_g wide all_g (λ e. in_g (sym is.first ∙ e)) in
    let b = part_in_box h t p good_h wide all_h (λ e. in_h (sym is.second ∙ e)) in
    let x = span_cell s.x t.x (pos p.w) p.x (up p.w wide) a.left a.right b.left b.right in
    let y = span_cell s.y t.y (pos p.w) p.y (up p.w wide) a.low a.high b.low b.high in
    (x.0, y.0, (x.1, y.1), (x.2, y.2))
  where
    up : (n : ℕ) → 0 < n → pos 0 <ℤ pos n
    up n h = omega (arith, ints)
