-- Points, segments from either end, and rings through the corners of a rectangle from any corner and
-- either way round.
use Rattle.std.proofs.Common.{◌≡◌, arith, refl, ap, ◌∙◌, sym, inl, inr, [], ◌∷◌, subst, cond}
use Rattle.std.specs.Prelude.{ℤ, ℕ, pos, ◌+◌, ◌-ℤ◌, ◌<ℤ◌, int_lt, int_le, Bool, true, false, ◌&&◌, ◌||◌, if◌then◌else◌}
use Rattle.std.specs.Ordering.{int_eq}
use Rattle.std.proofs.lemmas.Int.{ints}
use Rattle.geom_core.specs.declared.shape.Shape.{Shape}
use Rattle.geom_core.specs.declared.span.Span.{Span}
use Rattle.geom_core.specs.Cells.{line}
use Rattle.geom_core.specs.Shapes.{dim_of, span_dim}
use Rattle.plane_core.specs.declared.vertex.Vertex.{Vertex}
use Rattle.plane_core.specs.declared.edge.Edge.{Edge}
use Rattle.plane_core.specs.declared.part.Part.{Part}
use Rattle.plane_core.specs.declared.part.Part.TheVariants.{Interior, Boundary, Exterior}
use Rattle.plane_core.specs.Points.{Point, is_on, is_below, is_at}
use Rattle.plane_core.specs.Figures.{Points, Lines, Areas, part_of, is_odd}
use Rattle.agreement_core.specs.Agreement.{IsInCell, IsCellOf, HasPartsOf}
use Rattle.agreement_core.specs.BoxFigures.{AreEndsOf, AreOpposite, GoesRound}
use Rattle.agreement_core.proofs.BoxLemmas.{between_lines, from_line_to, level_on, upright_on, rightward_below, leftward_below, upright_below}
use Rattle.agreement_core.proofs.FigureLemmas.{on_ring, ring_part_of, line_part_of, moved_part, one_long, two_long, ring_case, point_has_parts, line_has_parts}

pub or_swap : (a b : Bool) → (a || b) ≡ (b || a)
or_swap true true = refl
or_swap true false = refl
or_swap false true = refl
or_swap false false = refl

-- of four facts, the first and the third exchanged, the second and the fourth, and the first put last
flip13 : (a b c d : Bool) → (a || (b || (c || (d || false)))) ≡ (c || (b || (a || (d || false))))
flip13 true b true d = refl
flip13 true true false d = refl
flip13 true false false d = refl
flip13 false true true d = refl
flip13 false true false d = refl
flip13 false false true d = refl
flip13 false false false d = refl

flip24 : (a b c d : Bool) → (a || (b || (c || (d || false)))) ≡ (a || (d || (c || (b || false))))
flip24 true b c d = refl
flip24 false true c true = refl
flip24 false true true false = refl
flip24 false true false false = refl
flip24 false false true true = refl
flip24 false false true false = refl
flip24 false false false true = refl
flip24 false false false false = refl

first_last : (a b c d : Bool) → (a || (b || (c || (d || false)))) ≡ (b || (c || (d || (a || false))))
first_last true true c d = refl
first_last true false true d = refl
first_last true false false true = refl
first_last true false false false = refl
first_last false b c d = refl

-- ---- ends in either order

ends_swapped : (n : Span) (a b : ℤ) → AreEndsOf n a b → AreEndsOf n b a
ends_swapped n a b (inl e) = inr (e.1, e.0)
ends_swapped n a b (inr e) = inl (e.1, e.0)

ends_differ : (n : Span) (a b : ℤ) → AreEndsOf n a b → n.lo <ℤ n.hi → ¬ (b -ℤ a ≡ pos 0)
ends_differ n a b (inl e) long same = let lo = e.0 in let hi = e.1 in omega (arith, ints, lo, hi, long, same)
ends_differ n a b (inr e) long same = let hi = e.0 in let lo = e.1 in omega (arith, ints, lo, hi, long, same)

-- an edge parallel to the first axis, whose ends are those of an interval, passes below the points
-- above it
level_below : (n : Span) (e : Edge) (p : Point) (u v : ℤ) → IsInCell p u v → e.a.y ≡ e.b.y → AreEndsOf n e.a.x e.b.x → n.lo <ℤ n.hi
    → is_below e p ≡ (from_line_to n.lo n.hi u && int_lt (line e.a.y) v)
level_below n e p u v cell level (inl ends) long =
    rightward_below e p u v cell level (less e.a.x e.b.x n.lo n.hi ends.0 ends.1 long)
    ∙ ap (λ (z : ℤ). from_line_to z e.b.x u && int_lt (line e.a.y) v) ends.0 ∙ ap (λ (z : ℤ). from_line_to n.lo z u && int_lt (line e.a.y) v) ends.1
  where
    less : (x z y w : ℤ) → x ≡ y → z ≡ w → y <ℤ w → x <ℤ z
    less x z y w e f h = omega (arith, ints, e, f, h)
level_below n e p u v cell level (inr ends) long =
    leftward_below e p u v cell level (less e.b.x e.a.x n.lo n.hi ends.1 ends.0 long)
    ∙ ap (λ (z : ℤ). from_line_to z e.a.x u && int_lt (line e.a.y) v) ends.1 ∙ ap (λ (z : ℤ). from_line_to n.lo z u && int_lt (line e.a.y) v) ends.0
  where
    less : (x z y w : ℤ) → x ≡ y → z ≡ w → y <ℤ w → x <ℤ z
    less x z y w e f h = omega (arith, ints, e, f, h)

-- ---- the ring of a rectangle with its ends in any order

exchanged_x : (vc ub vd ua m n k l : Bool) → n ≡ m → l ≡ k
    → ((vc && n) || ((ua && k) || ((vd && m) || ((ub && l) || false)))) ≡ ((vc && m) || ((ub && k) || ((vd && n) || ((ua && l) || false))))
exchanged_x vc ub vd ua m n k l e f = rw (e, f) (flip24 (vc && m) (ua && k) (vd && m) (ub && k))

ring_exchanged_x : (a b c d u v : ℤ) → on_ring b a c d u v ≡ on_ring a b c d u v
ring_exchanged_x a b c d u v =
    exchanged_x (int_eq v c) (int_eq u b) (int_eq v d) (int_eq u a) (int_le a u && int_le u b || int_le b u && int_le u a) (int_le b u && int_le u a || int_le a u && int_le u b)
    (int_le c v && int_le v d || int_le d v && int_le v c) (int_le d v && int_le v c || int_le c v && int_le v d) (or_swap (int_le b u && int_le u a) (int_le a u && int_le u b))
    (or_swap (int_le d v && int_le v c) (int_le c v && int_le v d))

exchanged_y : (vc ub vd ua m n k l : Bool) → n ≡ m → l ≡ k
    → ((vd && m) || ((ub && l) || ((vc && n) || ((ua && k) || false)))) ≡ ((vc && m) || ((ub && k) || ((vd && n) || ((ua && l) || false))))
exchanged_y vc ub vd ua m n k l e f = rw (e, f) (flip13 (vd && m) (ub && k) (vc && m) (ua && k))

ring_exchanged_y : (a b c d u v : ℤ) → on_ring a b d c u v ≡ on_ring a b c d u v
ring_exchanged_y a b c d u v =
    exchanged_y (int_eq v c) (int_eq u b) (int_eq v d) (int_eq u a) (int_le a u && int_le u b || int_le b u && int_le u a) (int_le b u && int_le u a || int_le a u && int_le u b)
    (int_le c v && int_le v d || int_le d v && int_le v c) (int_le d v && int_le v c || int_le c v && int_le v d) (or_swap (int_le b u && int_le u a) (int_le a u && int_le u b))
    (or_swap (int_le d v && int_le v c) (int_le c v && int_le v d))

-- on the ring between these lines, whichever of them come first
ring_between : (m n : Span) (p r q t u v : ℤ) → AreEndsOf m p r → AreEndsOf n q t
    → on_ring (line p) (line r) (line q) (line t) u v ≡ on_ring (line m.lo) (line m.hi) (line n.lo) (line n.hi) u v
ring_between m n p r q t u v (inl x) (inl y) = rw (x.0, x.1, y.0, y.1) refl
ring_between m n p r q t u v (inr x) (inl y) = rw (x.0, x.1, y.0, y.1) (ring_exchanged_x (line m.lo) (line m.hi) (line n.lo) (line n.hi) u v)
ring_between m n p r q t u v (inl x) (inr y) = rw (x.0, x.1, y.0, y.1) (ring_exchanged_y (line m.lo) (line m.hi) (line n.lo) (line n.hi) u v)
ring_between m n p r q t u v (inr x) (inr y) =
    rw (x.0, x.1, y.0, y.1)
    (ring_exchanged_x (line m.lo) (line m.hi) (line n.hi) (line n.lo) u v ∙ ring_exchanged_y (line m.lo) (line m.hi) (line n.lo) (line n.hi) u v)

-- by whether a point is on the ring, and which of the two level sides pass below it
abbrev part_by : Bool → Bool → Bool → Part
part_by o b c = if o then Boundary else (if is_odd (0 + cond b 1 0 + 0 + cond c 1 0 + 0) then Interior else Exterior)

sides_exchanged : (o b c : Bool) → part_by o c b ≡ part_by o b c
sides_exchanged true b c = refl
sides_exchanged false true true = refl
sides_exchanged false true false = refl
sides_exchanged false false true = refl
sides_exchanged false false false = refl

part_between : (s : Shape) (q t u v : ℤ) → s.x.lo <ℤ s.x.hi → s.y.lo <ℤ s.y.hi → AreEndsOf s.y q t → (o b c : Bool)
    → o ≡ on_ring (line s.x.lo) (line s.x.hi) (line s.y.lo) (line s.y.hi) u v
    → b ≡ (from_line_to s.x.lo s.x.hi u && int_lt (line q) v) → c ≡ (from_line_to s.x.lo s.x.hi u && int_lt (line t) v) → IsCellOf s (part_by o b c) u v
part_between s q t u v long high (inl y) o b c on low upper =
    ring_case s u v long high o b c on (low ∙ ap (λ (z : ℤ). from_line_to s.x.lo s.x.hi u && int_lt (line z) v) y.0)
    (upper ∙ ap (λ (z : ℤ). from_line_to s.x.lo s.x.hi u && int_lt (line z) v) y.1)
part_between s q t u v long high (inr y) o b c on low upper =
    moved_part s u v (part_by o b c) (part_by o c b) (sides_exchanged o c b)
    (ring_case s u v long high o c b on (upper ∙ ap (λ (z : ℤ). from_line_to s.x.lo s.x.hi u && int_lt (line z) v) y.1)
    (low ∙ ap (λ (z : ℤ). from_line_to s.x.lo s.x.hi u && int_lt (line z) v) y.0))

-- a ring whose first side is parallel to the first axis
level_first : (s : Shape) (a b c d e : Vertex) → a.y ≡ b.y → b.x ≡ c.x → c.y ≡ d.y → d.x ≡ a.x → e.x ≡ a.x → e.y ≡ a.y → AreOpposite s a c
    → s.x.lo <ℤ s.x.hi → s.y.lo <ℤ s.y.hi → (p : Point) (u v : ℤ) → IsInCell p u v
    → IsCellOf s (part_of (Areas ((a ∷ b ∷ c ∷ d ∷ e ∷ []) ∷ [])) p) u v
level_first s a b c d e ab bc cd da ex ey ends long high p u v cell =
    let x_ends : AreEndsOf s.x a.x b.x = subst (AreEndsOf s.x a.x) (sym bc) ends.along_x in
    let x_back : AreEndsOf s.x c.x d.x = subst (AreEndsOf s.x c.x) (sym da) (ends_swapped s.x a.x c.x ends.along_x) in
    let y_ends : AreEndsOf s.y b.y c.y = subst (λ (z : ℤ). AreEndsOf s.y z c.y) ab ends.along_y in
    let y_back : AreEndsOf s.y d.y e.y =
    subst (AreEndsOf s.y d.y) (sym ey) (subst (λ (z : ℤ). AreEndsOf s.y z a.y) cd (ends_swapped s.y a.y c.y ends.along_y)) in
    let bottom = level_on (record { a = a; b = b }) p u v cell ab (ends_differ s.x a.x b.x x_ends long) in
    let right = upright_on (record { a = b; b = c }) p u v cell bc (ends_differ s.y b.y c.y y_ends high) in
    let top = level_on (record { a = c; b = d }) p u v cell cd (ends_differ s.x c.x d.x x_back long) in
    let left = upright_on (record { a = d; b = e }) p u v cell (da ∙ sym ex) (ends_differ s.y d.y e.y y_back high) in
    let low = level_below s.x (record { a = a; b = b }) p u v cell ab x_ends long in
    let none = upright_below (record { a = b; b = c }) p u v cell bc in
    let upper = level_below s.x (record { a = c; b = d }) p u v cell cd x_back long in
    let none_left = upright_below (record { a = d; b = e }) p u v cell (da ∙ sym ex) in
    moved_part s u v _ _ (rw (bottom, right, top, left, low, none, upper, none_left, bc, sym ab, sym cd, da, ey) refl)
    (part_between s a.y c.y u v long high ends.along_y (on_ring (line a.x) (line c.x) (line a.y) (line c.y) u v) _ _
    (ring_between s.x s.y a.x c.x a.y c.y u v ends.along_x ends.along_y) refl refl)

-- a ring has the same parts from its next corner on
counted_last : (i j k l : ℕ) → 0 + i + j + k + l ≡ 0 + j + k + l + i
counted_last i j k l = omega arith

abbrev part_counted : Bool → ℕ → Part
part_counted o n = if o then Boundary else (if is_odd n then Interior else Exterior)

turned_part : (o1 o2 o3 o4 b1 b2 b3 b4 : Bool) → ring_part_of o1 o2 o3 o4 b1 b2 b3 b4 ≡ ring_part_of o2 o3 o4 o1 b2 b3 b4 b1
turned_part o1 o2 o3 o4 b1 b2 b3 b4 =
    ap (λ (o : Bool). part_counted o (0 + cond b1 1 0 + cond b2 1 0 + cond b3 1 0 + cond b4 1 0)) (first_last o1 o2 o3 o4)
    ∙ ap (part_counted (o2 || (o3 || (o4 || (o1 || false))))) (counted_last (cond b1 1 0) (cond b2 1 0) (cond b3 1 0) (cond b4 1 0))

from_next : (a b c d e : Vertex) (p : Point) → e.x ≡ a.x → e.y ≡ a.y
    → part_of (Areas ((a ∷ b ∷ c ∷ d ∷ e ∷ []) ∷ [])) p ≡ part_of (Areas ((b ∷ c ∷ d ∷ e ∷ b ∷ []) ∷ [])) p
from_next a b c d e p ex ey =
    turned_part (is_on (record { a = a; b = b }) p) (is_on (record { a = b; b = c }) p) (is_on (record { a = c; b = d }) p) (is_on (record { a = d; b = e }) p)
    (is_below (record { a = a; b = b }) p) (is_below (record { a = b; b = c }) p) (is_below (record { a = c; b = d }) p) (is_below (record { a = d; b = e }) p)
    ∙ rw (ex, ey) refl

-- whose sides are parallel to the axes in turn
pub ring_has_parts : (s : Shape) (a b c d e : Vertex) → GoesRound a b c d e → AreOpposite s a c → dim_of s ≡ 2 → HasPartsOf s (Areas ((a ∷ b ∷ c ∷ d ∷ e ∷ []) ∷ []))
ring_has_parts s a b c d e round ends two = elim round.sides as (λ _. HasPartsOf s (Areas ((a ∷ b ∷ c ∷ d ∷ e ∷ []) ∷ []))) [
  | inl t ↦ record { parts = λ p u v cell. level_first s a b c d e t.0 t.1 t.2 t.3 round.end_x round.end_y ends long.0 long.1 p u v cell }
  | inr t ↦
      let next : AreOpposite s b d = record {
        along_x = subst (λ (z : ℤ). AreEndsOf s.x z d.x) t.0 (subst (AreEndsOf s.x a.x) t.2 ends.along_x);
        along_y = subst (λ (z : ℤ). AreEndsOf s.y z d.y) (sym t.1) (subst (AreEndsOf s.y c.y) (sym t.3) (ends_swapped s.y a.y c.y ends.along_y));
      } in
      record {
        parts = λ p u v cell. moved_part s u v _ _ (from_next a b c d e p round.end_x round.end_y)
            (level_first s b c d e b t.1 t.2 (t.3 ∙ sym round.end_y) (round.end_x ∙ t.0) refl refl next long.0 long.1 p u v cell);
      }
]
  where
    long : (s.x.lo <ℤ s.x.hi) × (s.y.lo <ℤ s.y.hi)
    long = two_long s two

-- ---- segments from either end

between_swapped : (a b u : ℤ) → between_lines a b u ≡ between_lines b a u
between_swapped a b u = or_swap (int_le (line a) u && int_le u (line b)) (int_le (line b) u && int_le u (line a))

-- an edge along an axis has the same points from either end
level_swapped : (a b : Vertex) (p : Point) (u v : ℤ) → IsInCell p u v → a.y ≡ b.y → ¬ (b.x -ℤ a.x ≡ pos 0) → ¬ (a.x -ℤ b.x ≡ pos 0)
    → is_on (record { a = a; b = b }) p ≡ is_on (record { a = b; b = a }) p
level_swapped a b p u v cell level long back =
    level_on (record { a = a; b = b }) p u v cell level long
    ∙ ap (λ (z : ℤ). int_eq v (line z) && between_lines a.x b.x u) level
    ∙ ap (λ (t : Bool). int_eq v (line b.y) && t) (between_swapped a.x b.x u)
    ∙ sym (level_on (record { a = b; b = a }) p u v cell (sym level) back)

upright_swapped : (a b : Vertex) (p : Point) (u v : ℤ) → IsInCell p u v → a.x ≡ b.x → ¬ (b.y -ℤ a.y ≡ pos 0) → ¬ (a.y -ℤ b.y ≡ pos 0)
    → is_on (record { a = a; b = b }) p ≡ is_on (record { a = b; b = a }) p
upright_swapped a b p u v cell upright high back =
    upright_on (record { a = a; b = b }) p u v cell upright high
    ∙ ap (λ (z : ℤ). int_eq u (line z) && between_lines a.y b.y v) upright
    ∙ ap (λ (t : Bool). int_eq u (line b.x) && t) (between_swapped a.y b.y v)
    ∙ sym (upright_on (record { a = b; b = a }) p u v cell (sym upright) back)

ends_counted : (a b o : Bool) → line_part_of a b o ≡ line_part_of b a o
ends_counted true true o = refl
ends_counted true false o = refl
ends_counted false true o = refl
ends_counted false false o = refl

from_other_end : (s : Shape) (a b : Vertex) (p : Point) (u v : ℤ) → is_on (record { a = a; b = b }) p ≡ is_on (record { a = b; b = a }) p
    → IsCellOf s (part_of (Lines ((b ∷ a ∷ []) ∷ [])) p) u v → IsCellOf s (part_of (Lines ((a ∷ b ∷ []) ∷ [])) p) u v
from_other_end s a b p u v same cell =
    moved_part s u v (line_part_of (is_at a p) (is_at b p) (is_on (record { a = a; b = b }) p)) (line_part_of (is_at b p) (is_at a p) (is_on (record { a = b; b = a }) p))
    (ends_counted (is_at a p) (is_at b p) (is_on (record { a = a; b = b }) p) ∙ ap (line_part_of (is_at b p) (is_at a p)) same) cell

-- both ends of an interval without length
flat_end : (n : Span) (a b : ℤ) → AreEndsOf n a b → n.lo ≡ n.hi → (a ≡ n.lo) × (b ≡ n.hi)
flat_end n a b (inl e) flat = e
flat_end n a b (inr e) flat = (e.0 ∙ sym flat, e.1 ∙ flat)

level_segment : (s : Shape) (a b : Vertex) → dim_of s ≡ 1 → s.x.lo <ℤ s.x.hi → (a.y ≡ s.y.lo) × (b.y ≡ s.y.hi) → s.y.lo ≡ s.y.hi → AreEndsOf s.x a.x b.x
    → HasPartsOf s (Lines ((a ∷ b ∷ []) ∷ []))
level_segment s a b one long y flat (inl x) = line_has_parts s a b (record { first = x.0; second = y.0 }) (record { first = x.1; second = y.1 }) one
level_segment s a b one long y flat (inr x) =
    let back = line_has_parts s b a (record { first = x.1; second = y.1 ∙ sym flat }) (record { first = x.0; second = y.0 ∙ flat }) one in
    record {
      parts = λ p u v cell. from_other_end s a b p u v
          (level_swapped a b p u v cell (y.0 ∙ flat ∙ sym y.1) (ends_differ s.x a.x b.x (inr x) long) (ends_differ s.x b.x a.x (inl (x.1, x.0)) long)) (back.parts p u v cell);
    }

upright_segment : (s : Shape) (a b : Vertex) → dim_of s ≡ 1 → s.y.lo <ℤ s.y.hi → (a.x ≡ s.x.lo) × (b.x ≡ s.x.hi) → s.x.lo ≡ s.x.hi → AreEndsOf s.y a.y b.y
    → HasPartsOf s (Lines ((a ∷ b ∷ []) ∷ []))
upright_segment s a b one high x flat (inl y) = line_has_parts s a b (record { first = x.0; second = y.0 }) (record { first = x.1; second = y.1 }) one
upright_segment s a b one high x flat (inr y) =
    let back = line_has_parts s b a (record { first = x.1 ∙ sym flat; second = y.1 }) (record { first = x.0 ∙ flat; second = y.0 }) one in
    record {
      parts = λ p u v cell. from_other_end s a b p u v
          (upright_swapped a b p u v cell (x.0 ∙ flat ∙ sym x.1) (ends_differ s.y a.y b.y (inr y) high) (ends_differ s.y b.y a.y (inl (y.1, y.0)) high)) (back.parts p u v cell);
    }

pub segment_has_parts : (s : Shape) (a b : Vertex) → AreOpposite s a b → dim_of s ≡ 1 → HasPartsOf s (Lines ((a ∷ b ∷ []) ∷ []))
segment_has_parts s a b ends one =
    elim (one_long s one) as (λ _. HasPartsOf s (Lines ((a ∷ b ∷ []) ∷ []))) [
      | inl h ↦ level_segment s a b one h.0 (flat_end s.y a.y b.y ends.along_y h.1) h.1 ends.along_x
      | inr h ↦ upright_segment s a b one h.0 (flat_end s.x a.x b.x ends.along_x h.1) h.1 ends.along_y
    ]

-- ---- points

pub point_parts : (s : Shape) (a : Vertex) → AreOpposite s a a → dim_of s ≡ 0 → HasPartsOf s (Points (a ∷ []))
point_parts s a ends flat =
    point_has_parts s a (record { first = least s.x a.x ends.along_x (flat_first (span_dim s.x) (span_dim s.y) flat); second = least s.y a.y ends.along_y (flat_second (span_dim s.x) (span_dim s.y) flat) }) flat
  where
    flat_first : (m n : ℕ) → m + n ≡ 0 → m ≡ 0
    flat_first m n h = omega (arith, h)

    flat_second : (m n : ℕ) → m + n ≡ 0 → n ≡ 0
    flat_second m n h = omega (arith, h)

    least : (n : Span) (z : ℤ) → AreEndsOf n z z → span_dim n ≡ 0 → z ≡ n.lo
    least n z (inl e) h = e.0
    least n z (inr e) h = e.1
