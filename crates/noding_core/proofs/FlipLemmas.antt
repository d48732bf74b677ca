-- An edge from its other end has the same points and lies below the same points, so each edge can be
-- taken from its lesser end.
use Rattle.std.proofs.Common.{◌≡◌, ◌⊎◌, inl, inr, refl, sym, true, false, arith}
use Rattle.std.specs.Prelude.{ℤ, pos, neg_ℤ, ◌*ℤ◌, ◌-ℤ◌, ◌≤ℤ◌, Bool, ◌&&◌, ◌||◌, int_lt, int_le}
use Rattle.std.specs.Ordering.{int_eq}
use Rattle.std.proofs.lemmas.Int.{ints, by_lt_z}
use Rattle.plane_core.specs.declared.edge.Edge.{Edge}
use Rattle.plane_core.specs.declared.vertex.Vertex.{Vertex}
use Rattle.plane_core.specs.Points.{Point, at, side, is_on, is_at, is_below, is_at_or_below, is_from_to, run, rise, turn_of}
use Rattle.plane_core.specs.Figures.{HasLength}
use Rattle.plane_core.proofs.Ring.{monomials, one-times}
use Rattle.noding_core.proofs.LineLemmas.{IsForward, Rightward, Vertical}

abbrev pub flip : Edge → Edge
flip e = record { a = e.b; b = e.a }

pub side-flip : (e : Edge) (p : Point) → side (flip e) p ≡ neg_ℤ (side e p)
side-flip e p = plain e.a.x e.a.y e.b.x e.b.y p.x p.y (pos p.w)
  where
    plain : (ax ay bx by x y w : ℤ) → (ax -ℤ bx) *ℤ (y -ℤ w *ℤ by) -ℤ (ay -ℤ by) *ℤ (x -ℤ w *ℤ bx) ≡ neg_ℤ ((bx -ℤ ax) *ℤ (y -ℤ w *ℤ ay) -ℤ (by -ℤ ay) *ℤ (x -ℤ w *ℤ ax))
    plain ax ay bx by x y w = simp monomials (omega (arith, ints))

pub turn_of-flip : (e f : Edge) → turn_of e (flip f) ≡ neg_ℤ (turn_of e f)
turn_of-flip e f = plain (run e) (rise e) f.a.x f.a.y f.b.x f.b.y
  where
    plain : (r d ax ay bx by : ℤ) → r *ℤ (ay -ℤ by) -ℤ (ax -ℤ bx) *ℤ d ≡ neg_ℤ (r *ℤ (by -ℤ ay) -ℤ (bx -ℤ ax) *ℤ d)
    plain r d ax ay bx by = simp monomials (omega (arith, ints))

pub turn_of-turned : (e f : Edge) → turn_of f e ≡ neg_ℤ (turn_of e f)
turn_of-turned e f = plain (run e) (rise e) (run f) (rise f)
  where
    plain : (r d s c : ℤ) → s *ℤ d -ℤ r *ℤ c ≡ neg_ℤ (r *ℤ c -ℤ s *ℤ d)
    plain r d s c = simp monomials (omega (arith, ints))

or_turned : (t u : Bool) → (t || u) ≡ (u || t)
or_turned true true = refl
or_turned true false = refl
or_turned false true = refl
or_turned false false = refl

zero_turned : (s : ℤ) → int_eq (neg_ℤ s) (pos 0) ≡ int_eq s (pos 0)
zero_turned s = grind (arith, ints)

more_turned : (s : ℤ) → int_lt (pos 0) (neg_ℤ s) ≡ int_lt s (pos 0)
more_turned s = grind (arith, ints)

less_turned : (s : ℤ) → int_lt (neg_ℤ s) (pos 0) ≡ int_lt (pos 0) s
less_turned s = grind (arith, ints)

at_least_turned : (s : ℤ) → int_le (pos 0) (neg_ℤ s) ≡ int_le s (pos 0)
at_least_turned s = grind (arith, ints)

at_most_turned : (s : ℤ) → int_le (neg_ℤ s) (pos 0) ≡ int_le (pos 0) s
at_most_turned s = grind (arith, ints)

on_turned : (s s' : ℤ) (t u v x : Bool) → s' ≡ neg_ℤ s → (int_eq s' (pos 0) && (t || u) && (v || x)) ≡ (int_eq s (pos 0) && (u || t) && (x || v))
on_turned s s' t u v x e = rw (e, zero_turned s, or_turned t u, or_turned v x)

below_turned : (s s' : ℤ) (t u : Bool) → s' ≡ neg_ℤ s → (t && int_lt (pos 0) s' || u && int_lt s' (pos 0)) ≡ (u && int_lt (pos 0) s || t && int_lt s (pos 0))
below_turned s s' t u e = rw (e, more_turned s, less_turned s) (or_turned (t && int_lt s (pos 0)) (u && int_lt (pos 0) s))

at_or_below_turned : (s s' : ℤ) (t u : Bool) → s' ≡ neg_ℤ s → (t && int_le (pos 0) s' || u && int_le s' (pos 0)) ≡ (u && int_le (pos 0) s || t && int_le s (pos 0))
at_or_below_turned s s' t u e = rw (e, at_least_turned s, at_most_turned s) (or_turned (t && int_le s (pos 0)) (u && int_le (pos 0) s))

pub is_on-flip : (e : Edge) (p : Point) → is_on (flip e) p ≡ is_on e p
is_on-flip e p = on_turned (side e p) (side (flip e) p)
    (int_le (pos p.w *ℤ e.b.x) p.x && int_le p.x (pos p.w *ℤ e.a.x)) (int_le (pos p.w *ℤ e.a.x) p.x && int_le p.x (pos p.w *ℤ e.b.x))
    (int_le (pos p.w *ℤ e.b.y) p.y && int_le p.y (pos p.w *ℤ e.a.y)) (int_le (pos p.w *ℤ e.a.y) p.y && int_le p.y (pos p.w *ℤ e.b.y))
    (side-flip e p)

pub is_below-flip : (e : Edge) (p : Point) → is_below (flip e) p ≡ is_below e p
is_below-flip e p = below_turned (side e p) (side (flip e) p) (is_from_to e.b.x e.a.x p.w p.x) (is_from_to e.a.x e.b.x p.w p.x) (side-flip e p)

pub is_at_or_below-flip : (e : Edge) (p : Point) → is_at_or_below (flip e) p ≡ is_at_or_below e p
is_at_or_below-flip e p = at_or_below_turned (side e p) (side (flip e) p) (is_from_to e.b.x e.a.x p.w p.x) (is_from_to e.a.x e.b.x p.w p.x) (side-flip e p)

-- an edge or the same edge flipped begins at its lesser end
pub forward_or_flipped : (e : Edge) → HasLength e → IsForward e ⊎ IsForward (flip e)
forward_or_flipped e h = by_lt_z e.a.x e.b.x (λ r. inl (Rightward r))
    (λ no. by_lt_z e.b.x e.a.x (λ l. inr (Rightward l))
    (λ on. let x : e.a.x ≡ e.b.x = same _ _ no on in
    by_lt_z e.a.y e.b.y (λ u. inl (Vertical x u))
    (λ low. by_lt_z e.b.y e.a.y (λ d. inr (Vertical (sym x) d)) (λ high. absurd (h (x, same _ _ low high))))))
  where
    same : (m n : ℤ) → n ≤ℤ m → m ≤ℤ n → m ≡ n
    same m n h k = omega (arith, ints)

pub is_at-itself : (v : Vertex) → is_at v (at v) ≡ true
is_at-itself v = plain v.x v.y (pos 1 *ℤ v.x) (pos 1 *ℤ v.y) (one-times v.x) (one-times v.y)
  where
    plain : (x y u v : ℤ) → u ≡ x → v ≡ y → (int_eq x u && int_eq y v) ≡ true
    plain x y u v h k = grind (arith, ints)

pub first_level : (e : Edge) → side e (at e.a) ≡ pos 0
first_level e = plain e.a.x e.a.y (run e) (rise e)
  where
    plain : (x y r d : ℤ) → r *ℤ (y -ℤ pos 1 *ℤ y) -ℤ d *ℤ (x -ℤ pos 1 *ℤ x) ≡ pos 0
    plain x y r d = simp monomials (omega (arith, ints))

pub last_level : (e : Edge) → side e (at e.b) ≡ pos 0
last_level e = plain e.a.x e.a.y e.b.x e.b.y
  where
    plain : (ax ay bx by : ℤ) → (bx -ℤ ax) *ℤ (by -ℤ pos 1 *ℤ ay) -ℤ (by -ℤ ay) *ℤ (bx -ℤ pos 1 *ℤ ax) ≡ pos 0
    plain ax ay bx by = simp monomials (omega (arith, ints))
