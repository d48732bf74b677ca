-- The tests of axis-parallel edges at a point are comparisons of its cell with grid lines.
use Rattle.std.proofs.Common.{◌≡◌, arith, refl, ap, ◌∙◌, sym}
use Rattle.std.specs.Prelude.{ℤ, ℕ, pos, ◌*ℤ◌, ◌-ℤ◌, ◌≤ℤ◌, ◌<ℤ◌, int_lt, int_le, Bool, true, false, ◌&&◌, ◌||◌}
use Rattle.std.specs.Ordering.{int_eq}
use Rattle.std.proofs.lemmas.Int.{ints, by_lt_z}
use Rattle.geom_core.specs.Cells.{line}
use Rattle.plane_core.specs.declared.vertex.Vertex.{Vertex}
use Rattle.plane_core.specs.declared.edge.Edge.{Edge}
use Rattle.plane_core.specs.Points.{Point, side, run, rise, is_on, is_below, is_between, is_from_to, is_at}
use Rattle.plane_core.proofs.Ring.{monomials}
use Rattle.agreement_core.specs.Agreement.{IsInCell}
use Rattle.agreement_core.proofs.AxisLemmas.{Lies, lies, le_before, le_behind, lt_before, same_at, lt_times, same_times}

-- between two grid lines, or on one
abbrev pub between_lines : ℤ → ℤ → ℤ → Bool
between_lines a b u = int_le (line a) u && int_le u (line b) || int_le (line b) u && int_le u (line a)

pub is_between-cell : (a b z : ℤ) (w : ℕ) (u : ℤ) → Lies z w u a → Lies z w u b → is_between a b w z ≡ between_lines a b u
is_between-cell a b z w u h k =
    rw (le_behind z w u a h, le_before z w u b k, le_behind z w u b k, le_before z w u a h) refl

pub is_at-cell : (a : Vertex) (p : Point) (u v : ℤ) → IsInCell p u v → is_at a p ≡ int_eq u (line a.x) && int_eq v (line a.y)
is_at-cell a p u v c =
    rw (same_at p.x p.w u a.x (lies p.x p.w u a.x c.wide c.along_x), same_at p.y p.w v a.y (lies p.y p.w v a.y c.wide c.along_y)) refl

-- a number that is one of the ends lies between them
at_between : (a b u : ℤ) → a ≡ b → (int_eq u (line a) && between_lines a b u) ≡ int_eq u (line a)
at_between a b u e = rw (sym e) (plain (line a) u)
  where
    plain : (a u : ℤ) → (int_eq u a && (int_le a u && int_le u a || int_le a u && int_le u a)) ≡ int_eq u a
    plain a u = grind (arith, ints)

and_swap : (a b c : Bool) → (a && c) ≡ a → (a && b && c) ≡ (a && b)
and_swap true true c h = h
and_swap true false c h = refl
and_swap false b c h = refl

and_last : (a b c : Bool) → (a && b) ≡ a → (a && b && c) ≡ (a && c)
and_last true true c h = refl
and_last true false c h = absurd (no h)
  where
    no : ¬ (false ≡ true)
    no e = grind (arith, ints)
and_last false b c h = refl

level_side : (e : Edge) (p : Point) → rise e ≡ pos 0 → side e p ≡ run e *ℤ (p.y -ℤ pos p.w *ℤ e.a.y)
level_side e p h = plain (run e) (rise e) (p.y -ℤ pos p.w *ℤ e.a.y) (p.x -ℤ pos p.w *ℤ e.a.x) h
  where
    plain : (r s y x : ℤ) → s ≡ pos 0 → r *ℤ y -ℤ s *ℤ x ≡ r *ℤ y
    plain r s y x h = rw h (simp monomials (omega (arith, ints)))

upright_side : (e : Edge) (p : Point) → run e ≡ pos 0 → side e p ≡ (pos 0 -ℤ rise e) *ℤ (p.x -ℤ pos p.w *ℤ e.a.x)
upright_side e p h = plain (run e) (rise e) (p.y -ℤ pos p.w *ℤ e.a.y) (p.x -ℤ pos p.w *ℤ e.a.x) h
  where
    plain : (r s y x : ℤ) → r ≡ pos 0 → r *ℤ y -ℤ s *ℤ x ≡ (pos 0 -ℤ s) *ℤ x
    plain r s y x h = rw h (simp monomials (omega (arith, ints)))

-- a factor that isn't 0
same_any : (z : ℤ) (w : ℕ) (u c r : ℤ) → ¬ (r ≡ pos 0) → Lies z w u c → int_eq (r *ℤ (z -ℤ pos w *ℤ c)) (pos 0) ≡ int_eq u (line c)
same_any z w u c r h l =
    by_lt_z (pos 0) r (λ more. same_times z w u c r more l)
    (λ rest. turned (pos 0 -ℤ r) (less r h rest))
  where
    less : (r : ℤ) → ¬ (r ≡ pos 0) → r ≤ℤ pos 0 → pos 0 <ℤ (pos 0 -ℤ r)
    less r h rest = grind (arith, ints, h, rest)

    negated : (r y : ℤ) → int_eq (r *ℤ y) (pos 0) ≡ int_eq ((pos 0 -ℤ r) *ℤ y) (pos 0)
    negated r y = let e : (pos 0 -ℤ r) *ℤ y ≡ pos 0 -ℤ r *ℤ y = simp monomials (omega (arith, ints)) in rw e (plain (r *ℤ y))
      where
        plain : (m : ℤ) → int_eq m (pos 0) ≡ int_eq (pos 0 -ℤ m) (pos 0)
        plain m = grind (arith, ints)

    turned : (s : ℤ) → pos 0 <ℤ (pos 0 -ℤ r) → int_eq (r *ℤ (z -ℤ pos w *ℤ c)) (pos 0) ≡ int_eq u (line c)
    turned s more = negated r (z -ℤ pos w *ℤ c) ∙ same_times z w u c (pos 0 -ℤ r) more l

pub level_on : (e : Edge) (p : Point) (u v : ℤ) → IsInCell p u v → e.a.y ≡ e.b.y → ¬ (run e ≡ pos 0)
    → is_on e p ≡ int_eq v (line e.a.y) && between_lines e.a.x e.b.x u
level_on e p u v c level long =
    let along_x = λ (n : ℤ). lies p.x p.w u n c.wide c.along_x in
    let along_y = λ (n : ℤ). lies p.y p.w v n c.wide c.along_y in
    let s : int_eq (side e p) (pos 0) ≡ int_eq v (line e.a.y) =
    ap (λ (z : ℤ). int_eq z (pos 0)) (level_side e p (flat level)) ∙ same_any p.y p.w v e.a.y (run e) long (along_y e.a.y) in
    rw (s, is_between-cell e.a.x e.b.x p.x p.w u (along_x e.a.x) (along_x e.b.x), is_between-cell e.a.y e.b.y p.y p.w v (along_y e.a.y) (along_y e.b.y))
    (and_swap _ _ _ (at_between e.a.y e.b.y v level))
  where
    flat : e.a.y ≡ e.b.y → rise e ≡ pos 0
    flat h = omega (arith, ints, h)

pub upright_on : (e : Edge) (p : Point) (u v : ℤ) → IsInCell p u v → e.a.x ≡ e.b.x → ¬ (rise e ≡ pos 0)
    → is_on e p ≡ int_eq u (line e.a.x) && between_lines e.a.y e.b.y v
upright_on e p u v c upright high =
    let along_x = λ (n : ℤ). lies p.x p.w u n c.wide c.along_x in
    let along_y = λ (n : ℤ). lies p.y p.w v n c.wide c.along_y in
    let s : int_eq (side e p) (pos 0) ≡ int_eq u (line e.a.x) =
    ap (λ (z : ℤ). int_eq z (pos 0)) (upright_side e p (flat upright))
    ∙ same_any p.x p.w u e.a.x (pos 0 -ℤ rise e) (λ e. high (zero e)) (along_x e.a.x) in
    rw (s, is_between-cell e.a.x e.b.x p.x p.w u (along_x e.a.x) (along_x e.b.x), is_between-cell e.a.y e.b.y p.y p.w v (along_y e.a.y) (along_y e.b.y))
    (and_last _ _ _ (at_between e.a.x e.b.x u upright))
  where
    flat : e.a.x ≡ e.b.x → run e ≡ pos 0
    flat h = omega (arith, ints, h)

    zero : pos 0 -ℤ rise e ≡ pos 0 → rise e ≡ pos 0
    zero h = omega (arith, ints, h)

-- from one grid line to before another
abbrev pub from_line_to : ℤ → ℤ → ℤ → Bool
from_line_to a b u = int_le (line a) u && int_lt u (line b)

is_from_to-cell : (a b z : ℤ) (w : ℕ) (u : ℤ) → Lies z w u a → Lies z w u b → is_from_to a b w z ≡ from_line_to a b u
is_from_to-cell a b z w u h k = rw (le_behind z w u a h, lt_before z w u b k) refl

below_right : (a b c : Bool) (d : Bool) → d ≡ false → (a && b || d && c) ≡ (a && b)
below_right true true c d h = refl
below_right true false c d h = rw h refl
below_right false b c d h = rw h refl

empty_way : (a b u : ℤ) → a <ℤ b → from_line_to b a u ≡ false
empty_way a b u h = plain (line a) (line b) u (omega (arith, ints, h))
  where
    plain : (a b u : ℤ) → a <ℤ b → (int_le b u && int_lt u a) ≡ false
    plain a b u h = grind (arith, ints)

below_left : (a b c d : Bool) → a ≡ false → (a && b || c && d) ≡ (c && d)
below_left a b c d h = rw h refl

pub rightward_below : (e : Edge) (p : Point) (u v : ℤ) → IsInCell p u v → e.a.y ≡ e.b.y → e.a.x <ℤ e.b.x
    → is_below e p ≡ from_line_to e.a.x e.b.x u && int_lt (line e.a.y) v
rightward_below e p u v c level right =
    let along_x = λ (n : ℤ). lies p.x p.w u n c.wide c.along_x in
    let along_y = λ (n : ℤ). lies p.y p.w v n c.wide c.along_y in
    let s : int_lt (pos 0) (side e p) ≡ int_lt (line e.a.y) v =
    ap (λ (z : ℤ). int_lt (pos 0) z) (level_side e p (flat level)) ∙ lt_times p.y p.w v e.a.y (run e) (long right) (along_y e.a.y) in
    rw (s, is_from_to-cell e.a.x e.b.x p.x p.w u (along_x e.a.x) (along_x e.b.x), is_from_to-cell e.b.x e.a.x p.x p.w u (along_x e.b.x) (along_x e.a.x))
    (below_right (from_line_to e.a.x e.b.x u) (int_lt (line e.a.y) v) (int_lt (side e p) (pos 0)) _ (empty_way e.a.x e.b.x u right))
  where
    flat : e.a.y ≡ e.b.y → rise e ≡ pos 0
    flat h = omega (arith, ints, h)

    long : e.a.x <ℤ e.b.x → pos 0 <ℤ run e
    long h = omega (arith, ints, h)

pub leftward_below : (e : Edge) (p : Point) (u v : ℤ) → IsInCell p u v → e.a.y ≡ e.b.y → e.b.x <ℤ e.a.x
    → is_below e p ≡ from_line_to e.b.x e.a.x u && int_lt (line e.a.y) v
leftward_below e p u v c level left =
    let along_x = λ (n : ℤ). lies p.x p.w u n c.wide c.along_x in
    let along_y = λ (n : ℤ). lies p.y p.w v n c.wide c.along_y in
    let s : int_lt (side e p) (pos 0) ≡ int_lt (line e.a.y) v =
    ap (λ (z : ℤ). int_lt z (pos 0)) (level_side e p (flat level)) ∙ negated (run e) (p.y -ℤ pos p.w *ℤ e.a.y)
    ∙ lt_times p.y p.w v e.a.y (pos 0 -ℤ run e) (long left) (along_y e.a.y) in
    rw (s, is_from_to-cell e.a.x e.b.x p.x p.w u (along_x e.a.x) (along_x e.b.x), is_from_to-cell e.b.x e.a.x p.x p.w u (along_x e.b.x) (along_x e.a.x))
    (below_left _ (int_lt (pos 0) (side e p)) (from_line_to e.b.x e.a.x u) (int_lt (line e.a.y) v) (empty_way e.b.x e.a.x u left))
  where
    flat : e.a.y ≡ e.b.y → rise e ≡ pos 0
    flat h = omega (arith, ints, h)

    long : e.b.x <ℤ e.a.x → pos 0 <ℤ (pos 0 -ℤ run e)
    long h = omega (arith, ints, h)

    negated : (r y : ℤ) → int_lt (r *ℤ y) (pos 0) ≡ int_lt (pos 0) ((pos 0 -ℤ r) *ℤ y)
    negated r y = let e : (pos 0 -ℤ r) *ℤ y ≡ pos 0 -ℤ r *ℤ y = simp monomials (omega (arith, ints)) in rw e (plain (r *ℤ y))
      where
        plain : (m : ℤ) → int_lt m (pos 0) ≡ int_lt (pos 0) (pos 0 -ℤ m)
        plain m = grind (arith, ints)

pub upright_below : (e : Edge) (p : Point) (u v : ℤ) → IsInCell p u v → e.a.x ≡ e.b.x → is_below e p ≡ false
upright_below e p u v c upright =
    let along_x = λ (n : ℤ). lies p.x p.w u n c.wide c.along_x in
    rw (is_from_to-cell e.a.x e.b.x p.x p.w u (along_x e.a.x) (along_x e.b.x), is_from_to-cell e.b.x e.a.x p.x p.w u (along_x e.b.x) (along_x e.a.x))
    (neither (from_line_to e.a.x e.b.x u) (from_line_to e.b.x e.a.x u) _ _ (no_way e.a.x e.b.x u upright) (no_way e.b.x e.a.x u (sym upright)))
  where
    no_way : (a b u : ℤ) → a ≡ b → from_line_to a b u ≡ false
    no_way a b u h = rw (sym h) (plain (line a) u)
      where
        plain : (a u : ℤ) → (int_le a u && int_lt u a) ≡ false
        plain a u = grind (arith, ints)

    neither : (a b c d : Bool) → a ≡ false → b ≡ false → (a && c || b && d) ≡ false
    neither a b c d h k = rw (h, k) refl
