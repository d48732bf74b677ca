-- The parts of a point and of a line along an axis are those of their shapes, and so are those of a
-- rectangle, by which of its edges a point is on, and which pass below it.
use Rattle.std.proofs.Common.{◌≡◌, ◌≤◌, arith, refl, ap, ◌∙◌, sym, inl, inr, [], ◌∷◌, subst, cond}
use Rattle.std.specs.Prelude.{ℤ, ℕ, pos, ◌+◌, ◌-ℤ◌, ◌≤ℤ◌, ◌<ℤ◌, ◌⊎◌, int_lt, int_le, Bool, true, false, ◌&&◌, ◌||◌, if◌then◌else◌}
use Rattle.std.specs.Ordering.{int_eq}
use Rattle.std.proofs.lemmas.Int.{ints}
use Rattle.geom_core.specs.declared.shape.Shape.{Shape}
use Rattle.geom_core.specs.declared.span.Span.{Span}
use Rattle.geom_core.specs.Cells.{line, IsWithin, IsInner}
use Rattle.geom_core.specs.Shapes.{x1, y1, x2, y2, dim_of, span_dim}
use Rattle.plane_core.specs.declared.vertex.Vertex.{Vertex}
use Rattle.plane_core.specs.declared.edge.Edge.{Edge}
use Rattle.plane_core.specs.declared.part.Part.{Part}
use Rattle.plane_core.specs.declared.part.Part.TheVariants.{Interior, Boundary, Exterior}
use Rattle.plane_core.specs.Points.{Point, is_on, is_at}
use Rattle.plane_core.specs.Figures.{Points, Lines, is_odd}
use Rattle.agreement_core.specs.Agreement.{IsInCell, IsCellOf, HasPartsOf}
use Rattle.agreement_core.specs.BoxFigures.{StandsAt}
use Rattle.agreement_core.proofs.BoxLemmas.{between_lines, from_line_to, is_at-cell, level_on, upright_on}

-- ---- intervals without length and with one

pub flat_span : (s : Span) → span_dim s ≡ 0 → s.lo ≡ s.hi
flat_span s h = grind (arith, ints, h, s.ordered)

pub long_span : (s : Span) → span_dim s ≡ 1 → s.lo <ℤ s.hi
long_span s h = grind (arith, ints, h)

-- ---- points

-- inner just at the one line
point_inner : (s : Span) (u : ℤ) → s.lo ≡ s.hi → u ≡ line s.lo → IsInner s u
point_inner s u e h = inr (e, h)

point_within : (s : Span) (u : ℤ) → s.lo ≡ s.hi → IsWithin s u → u ≡ line s.lo
point_within s u e h = omega (arith, ints, e, h)

point_part : (s : Shape) (u v : ℤ) → s.x.lo ≡ s.x.hi → s.y.lo ≡ s.y.hi
    → (t : Bool) → t ≡ (int_eq u (line s.x.lo) && int_eq v (line s.y.lo)) → IsCellOf s (if t then Interior else Exterior) u v
point_part s u v ex ey true h =
    let at_ = both (line s.x.lo) (line s.y.lo) u v (sym h) in
    (point_inner s.x u ex at_.0, point_inner s.y v ey at_.1)
  where
    both : (a b u v : ℤ) → (int_eq u a && int_eq v b) ≡ true → (u ≡ a) × (v ≡ b)
    both a b u v h = (grind (arith, ints, h), grind (arith, ints, h))
point_part s u v ex ey false h = λ c. neither (line s.x.lo) (line s.y.lo) u v (point_within s.x u ex c.0) (point_within s.y v ey c.1) (sym h)
  where
    neither : (a b u v : ℤ) → u ≡ a → v ≡ b → ¬ ((int_eq u a && int_eq v b) ≡ false)
    neither a b u v e f h = grind (arith, ints, e, f, h)

or_false : (t : Bool) → (t || false) ≡ t
or_false true = refl
or_false false = refl

flat_first : (m n : ℕ) → m + n ≡ 0 → m ≡ 0
flat_first m n h = omega (arith, h)

flat_second : (m n : ℕ) → m + n ≡ 0 → n ≡ 0
flat_second m n h = omega (arith, h)

pub point_has_parts : (s : Shape) (a : Vertex) → StandsAt (x1 s) (y1 s) a → dim_of s ≡ 0 → HasPartsOf s (Points (a ∷ []))
point_has_parts s a stands flat = record {
  parts = λ p u v c.
      let t : (is_at a p || false) ≡ (int_eq u (line s.x.lo) && int_eq v (line s.y.lo)) =
      or_false (is_at a p) ∙ is_at-cell a p u v c
      ∙ ap (λ (z : ℤ). int_eq u (line z) && int_eq v (line a.y)) stands.first ∙ ap (λ (z : ℤ). int_eq u (line s.x.lo) && int_eq v (line z)) stands.second in
      point_part s u v (flat_span s.x (flat_first (span_dim s.x) (span_dim s.y) flat)) (flat_span s.y (flat_second (span_dim s.x) (span_dim s.y) flat))
      (is_at a p || false) t;
}

-- ---- lines along an axis

-- the parts of the cells of two intervals
abbrev IsProductPart : Span → Span → Part → ℤ → ℤ → Type 0
IsProductPart m n Interior p q = IsInner m p × IsInner n q
IsProductPart m n Boundary p q = (IsWithin m p × IsWithin n q) × ¬ (IsInner m p × IsInner n q)
IsProductPart m n Exterior p q = ¬ (IsWithin m p × IsWithin n q)

turned : (m n : Span) (i : Part) (p q : ℤ) → IsProductPart m n i p q → IsProductPart n m i q p
turned m n Interior p q h = (h.1, h.0)
turned m n Boundary p q h = ((h.0.1, h.0.0), λ k. h.1 (k.1, k.0))
turned m n Exterior p q h = λ k. h (k.1, k.0)

-- by how many ends are at the point, and whether it is on the line
abbrev pub line_part_of : Bool → Bool → Bool → Part
line_part_of a b o = if is_odd (0 + (cond a 1 0 + cond b 1 0)) then Boundary else (if o || false then Interior else Exterior)

end_of_line : (m n : Span) (p q : ℤ) → m.lo <ℤ m.hi → n.lo ≡ n.hi → (p ≡ line m.lo) ⊎ (p ≡ line m.hi) → q ≡ line n.lo → IsProductPart m n Boundary p q
end_of_line m n p q h e at_end level =
    ((within p at_end, (omega (arith, ints, level), omega (arith, ints, level, e))), λ k. not_inner p at_end k.0)
  where
    within : (p : ℤ) → (p ≡ line m.lo) ⊎ (p ≡ line m.hi) → IsWithin m p
    within p (inl f) = (omega (arith, ints, f), omega (arith, ints, f, h))
    within p (inr f) = (omega (arith, ints, f, h), omega (arith, ints, f))

    not_inner : (p : ℤ) → (p ≡ line m.lo) ⊎ (p ≡ line m.hi) → ¬ (IsInner m p)
    not_inner p (inl f) (inl k) = omega (arith, ints, f, k)
    not_inner p (inr f) (inl k) = omega (arith, ints, f, k)
    not_inner p f (inr k) = omega (arith, ints, h, k)

line_case : (m n : Span) (p q : ℤ) → m.lo <ℤ m.hi → n.lo ≡ n.hi → (a b o : Bool)
    → a ≡ (int_eq p (line m.lo) && int_eq q (line n.lo)) → b ≡ (int_eq p (line m.hi) && int_eq q (line n.lo))
    → o ≡ (int_eq q (line n.lo) && between_lines m.lo m.hi p) → IsProductPart m n (line_part_of a b o) p q
line_case m n p q h e true true o ha hb ho =
    absurd (apart (line m.lo) (line m.hi) p (int_eq q (line n.lo)) (omega (arith, ints, h)) (sym ha) (sym hb))
  where
    apart : (a b p : ℤ) (t : Bool) → a <ℤ b → (int_eq p a && t) ≡ true → (int_eq p b && t) ≡ true → ⊥
    apart a b p t h k l = grind (arith, ints, h, k, l)
line_case m n p q h e true false o ha hb ho =
    let at_ = both (line m.lo) (line n.lo) p q (sym ha) in end_of_line m n p q h e (inl at_.0) at_.1
  where
    both : (a b u v : ℤ) → (int_eq u a && int_eq v b) ≡ true → (u ≡ a) × (v ≡ b)
    both a b u v h = (grind (arith, ints, h), grind (arith, ints, h))
line_case m n p q h e false true o ha hb ho =
    let at_ = both (line m.hi) (line n.lo) p q (sym hb) in end_of_line m n p q h e (inr at_.0) at_.1
  where
    both : (a b u v : ℤ) → (int_eq u a && int_eq v b) ≡ true → (u ≡ a) × (v ≡ b)
    both a b u v h = (grind (arith, ints, h), grind (arith, ints, h))
line_case m n p q h e false false true ha hb ho =
    let s = strictly (line m.lo) (line m.hi) (line n.lo) p q (omega (arith, ints, h)) (sym ha) (sym hb) (sym ho) in
    (inl (s.0, s.1), inr (e, s.2))
  where
    strictly : (a b c p q : ℤ) → a <ℤ b → (int_eq p a && int_eq q c) ≡ false → (int_eq p b && int_eq q c) ≡ false
        → (int_eq q c && (int_le a p && int_le p b || int_le b p && int_le p a)) ≡ true → (a <ℤ p) × (p <ℤ b) × (q ≡ c)
    strictly a b c p q h k l o = (grind (arith, ints, h, k, l, o), grind (arith, ints, h, k, l, o), grind (arith, ints, h, k, l, o))
line_case m n p q h e false false false ha hb ho =
    λ c. outside (line m.lo) (line m.hi) (line n.lo) p q (sym ho) c.0.0 c.0.1 (omega (arith, ints, c, e))
  where
    outside : (a b c p q : ℤ) → (int_eq q c && (int_le a p && int_le p b || int_le b p && int_le p a)) ≡ false → a ≤ℤ p → p ≤ℤ b → ¬ (q ≡ c)
    outside a b c p q o h k e = grind (arith, ints, o, h, k, e)

pub moved_part : (s : Shape) (u v : ℤ) (i j : Part) → i ≡ j → IsCellOf s j u v → IsCellOf s i u v
moved_part s u v i j e h = subst (λ k. IsCellOf s k u v) (sym e) h

product_cell : (s : Shape) (i : Part) (u v : ℤ) → IsProductPart s.x s.y i u v → IsCellOf s i u v
product_cell s Interior u v h = h
product_cell s Boundary u v h = h
product_cell s Exterior u v h = h

-- one of two intervals has a length
pub one_long : (s : Shape) → dim_of s ≡ 1 → ((s.x.lo <ℤ s.x.hi) × (s.y.lo ≡ s.y.hi)) ⊎ ((s.y.lo <ℤ s.y.hi) × (s.x.lo ≡ s.x.hi))
one_long s h = choose (by_dim s.x) (by_dim s.y)
  where
    by_dim : (n : Span) → (span_dim n ≡ 0) ⊎ (span_dim n ≡ 1)
    by_dim n = grind (arith, ints)

    choose : (span_dim s.x ≡ 0) ⊎ (span_dim s.x ≡ 1) → (span_dim s.y ≡ 0) ⊎ (span_dim s.y ≡ 1)
        → ((s.x.lo <ℤ s.x.hi) × (s.y.lo ≡ s.y.hi)) ⊎ ((s.y.lo <ℤ s.y.hi) × (s.x.lo ≡ s.x.hi))
    choose (inl a) (inl b) = absurd (omega (arith, h, a, b))
    choose (inr a) (inl b) = inl (long_span s.x a, flat_span s.y b)
    choose (inl a) (inr b) = inr (long_span s.y b, flat_span s.x a)
    choose (inr a) (inr b) = absurd (omega (arith, h, a, b))

swapped_and : (a b : Bool) → (a && b) ≡ (b && a)
swapped_and true true = refl
swapped_and true false = refl
swapped_and false true = refl
swapped_and false false = refl

at_stand : (a : Vertex) (x y : ℤ) → StandsAt x y a → (p : Point) (u v : ℤ) → IsInCell p u v → is_at a p ≡ (int_eq u (line x) && int_eq v (line y))
at_stand a x y h p u v c =
    is_at-cell a p u v c ∙ ap (λ (z : ℤ). int_eq u (line z) && int_eq v (line a.y)) h.first
    ∙ ap (λ (z : ℤ). int_eq u (line x) && int_eq v (line z)) h.second

level_parts : (s : Shape) (a b : Vertex) → StandsAt (x1 s) (y1 s) a → StandsAt (x2 s) (y2 s) b → s.x.lo <ℤ s.x.hi → s.y.lo ≡ s.y.hi
    → HasPartsOf s (Lines ((a ∷ b ∷ []) ∷ []))
level_parts s a b ha hb long flat = record {
  parts = λ p u v c.
      let e : Edge = record { a = a; b = b } in
      let level : a.y ≡ b.y = ha.second ∙ flat ∙ sym hb.second in
      let on : is_on e p ≡ (int_eq v (line s.y.lo) && between_lines s.x.lo s.x.hi u) =
      level_on e p u v c level (run_some a.x b.x s.x.lo s.x.hi ha.first hb.first long)
      ∙ ap (λ (z : ℤ). int_eq v (line z) && between_lines a.x b.x u) ha.second
      ∙ ap (λ (z : ℤ). int_eq v (line s.y.lo) && between_lines z b.x u) ha.first
      ∙ ap (λ (z : ℤ). int_eq v (line s.y.lo) && between_lines s.x.lo z u) hb.first in
      let second : is_at b p ≡ (int_eq u (line s.x.hi) && int_eq v (line s.y.lo)) =
      at_stand b s.x.hi s.y.hi hb p u v c ∙ ap (λ (z : ℤ). int_eq u (line s.x.hi) && int_eq v (line z)) (sym flat) in
      product_cell s _ u v
      (line_case s.x s.y u v long flat (is_at a p) (is_at b p) (is_on e p) (at_stand a s.x.lo s.y.lo ha p u v c) second on);
}
  where
    run_some : (x z y w : ℤ) → x ≡ y → z ≡ w → y <ℤ w → ¬ (z -ℤ x ≡ pos 0)
    run_some x z y w e f h g = omega (arith, ints, e, f, h, g)

upright_parts : (s : Shape) (a b : Vertex) → StandsAt (x1 s) (y1 s) a → StandsAt (x2 s) (y2 s) b → s.y.lo <ℤ s.y.hi → s.x.lo ≡ s.x.hi
    → HasPartsOf s (Lines ((a ∷ b ∷ []) ∷ []))
upright_parts s a b ha hb long flat = record {
  parts = λ p u v c.
      let e : Edge = record { a = a; b = b } in
      let upright : a.x ≡ b.x = ha.first ∙ flat ∙ sym hb.first in
      let on : is_on e p ≡ (int_eq u (line s.x.lo) && between_lines s.y.lo s.y.hi v) =
      upright_on e p u v c upright (rise_some a.y b.y s.y.lo s.y.hi ha.second hb.second long)
      ∙ ap (λ (z : ℤ). int_eq u (line z) && between_lines a.y b.y v) ha.first
      ∙ ap (λ (z : ℤ). int_eq u (line s.x.lo) && between_lines z b.y v) ha.second
      ∙ ap (λ (z : ℤ). int_eq u (line s.x.lo) && between_lines s.y.lo z v) hb.second in
      let first : is_at a p ≡ (int_eq v (line s.y.lo) && int_eq u (line s.x.lo)) =
      at_stand a s.x.lo s.y.lo ha p u v c ∙ swapped_and (int_eq u (line s.x.lo)) (int_eq v (line s.y.lo)) in
      let second : is_at b p ≡ (int_eq v (line s.y.hi) && int_eq u (line s.x.lo)) =
      at_stand b s.x.hi s.y.hi hb p u v c ∙ ap (λ (z : ℤ). int_eq u (line z) && int_eq v (line s.y.hi)) (sym flat)
      ∙ swapped_and (int_eq u (line s.x.lo)) (int_eq v (line s.y.hi)) in
      product_cell s _ u v
      (turned s.y s.x (line_part_of (is_at a p) (is_at b p) (is_on e p)) v u
      (line_case s.y s.x v u long flat (is_at a p) (is_at b p) (is_on e p) first second on));
}
  where
    rise_some : (x z y w : ℤ) → x ≡ y → z ≡ w → y <ℤ w → ¬ (z -ℤ x ≡ pos 0)
    rise_some x z y w e f h g = omega (arith, ints, e, f, h, g)

pub line_has_parts : (s : Shape) (a b : Vertex) → StandsAt (x1 s) (y1 s) a → StandsAt (x2 s) (y2 s) b → dim_of s ≡ 1
    → HasPartsOf s (Lines ((a ∷ b ∷ []) ∷ []))
line_has_parts s a b ha hb one =
    elim (one_long s one) as (λ _. HasPartsOf s (Lines ((a ∷ b ∷ []) ∷ []))) [
      | inl h ↦ level_parts s a b ha hb h.0 h.1
      | inr h ↦ upright_parts s a b ha hb h.0 h.1
    ]

-- ---- rectangles

-- by which of the four edges the point is on, and which pass below it
abbrev pub ring_part_of : Bool → Bool → Bool → Bool → Bool → Bool → Bool → Bool → Part
ring_part_of o1 o2 o3 o4 b1 b2 b3 b4 =
    if o1 || (o2 || (o3 || (o4 || false))) then Boundary
    else (if is_odd (0 + cond b1 1 0 + cond b2 1 0 + cond b3 1 0 + cond b4 1 0) then Interior else Exterior)

-- on the ring from (a, c) to (b, d)
abbrev pub on_ring : ℤ → ℤ → ℤ → ℤ → ℤ → ℤ → Bool
on_ring a b c d u v =
    (int_eq v c && (int_le a u && int_le u b || int_le b u && int_le u a))
    || ((int_eq u b && (int_le c v && int_le v d || int_le d v && int_le v c))
    || ((int_eq v d && (int_le b u && int_le u a || int_le a u && int_le u b))
    || ((int_eq u a && (int_le d v && int_le v c || int_le c v && int_le v d)) || false)))

one_of : (p q : Bool) → (p || q) ≡ true → (p ≡ true) ⊎ (q ≡ true)
one_of true q h = inl refl
one_of false q h = inr h

first_true : (p q : Bool) → (p && q) ≡ true → p ≡ true
first_true true q h = refl
first_true false q h = h

or_false_true : (p : Bool) → (p || false) ≡ true → p ≡ true
or_false_true true h = refl
or_false_true false h = h

same : (p q : ℤ) → int_eq p q ≡ true → p ≡ q
same p q h = grind (arith, ints, h)

ring_boundary : (s : Shape) (u v : ℤ) → s.x.lo <ℤ s.x.hi → s.y.lo <ℤ s.y.hi
    → on_ring (line s.x.lo) (line s.x.hi) (line s.y.lo) (line s.y.hi) u v ≡ true → IsCellOf s Boundary u v
ring_boundary s u v h k o =
    let f = covered (line s.x.lo) (line s.x.hi) (line s.y.lo) (line s.y.hi) u v (omega (arith, ints, h)) (omega (arith, ints, k)) o in
    (((f.0, f.1), (f.2, f.3)), λ i. not_inner i.0 i.1 f.4)
  where
    covered : (a b c d u v : ℤ) → a <ℤ b → c <ℤ d → on_ring a b c d u v ≡ true
        → (a ≤ℤ u) × (u ≤ℤ b) × (c ≤ℤ v) × (v ≤ℤ d) × ((u ≡ a) ⊎ ((u ≡ b) ⊎ ((v ≡ c) ⊎ (v ≡ d))))
    covered a b c d u v h k o = (
      grind (arith, ints, h, k, o),
      grind (arith, ints, h, k, o),
      grind (arith, ints, h, k, o),
      grind (arith, ints, h, k, o),
      which a b c d u v (int_le a u && int_le u b || int_le b u && int_le u a) (int_le c v && int_le v d || int_le d v && int_le v c)
          (int_le b u && int_le u a || int_le a u && int_le u b) (int_le d v && int_le v c || int_le c v && int_le v d) o,
    )
      where
        which : (a b c d u v : ℤ) (r s t n : Bool) → ((int_eq v c && r) || ((int_eq u b && s) || ((int_eq v d && t) || ((int_eq u a && n) || false)))) ≡ true
            → (u ≡ a) ⊎ ((u ≡ b) ⊎ ((v ≡ c) ⊎ (v ≡ d)))
        which a b c d u v r s t n o =
            elim (one_of (int_eq v c && r) ((int_eq u b && s) || ((int_eq v d && t) || ((int_eq u a && n) || false))) o) as (λ _. (u ≡ a) ⊎ ((u ≡ b) ⊎ ((v ≡ c) ⊎ (v ≡ d)))) [
              | inl bottom ↦ inr (inr (inl (same v c (first_true (int_eq v c) r bottom))))
              | inr more ↦ elim (one_of (int_eq u b && s) ((int_eq v d && t) || ((int_eq u a && n) || false)) more) as (λ _. (u ≡ a) ⊎ ((u ≡ b) ⊎ ((v ≡ c) ⊎ (v ≡ d)))) [
                | inl right ↦ inr (inl (same u b (first_true (int_eq u b) s right)))
                | inr rest ↦ elim (one_of (int_eq v d && t) ((int_eq u a && n) || false) rest) as (λ _. (u ≡ a) ⊎ ((u ≡ b) ⊎ ((v ≡ c) ⊎ (v ≡ d)))) [
                  | inl top ↦ inr (inr (inr (same v d (first_true (int_eq v d) t top))))
                  | inr left ↦ inl (same u a (first_true (int_eq u a) n (or_false_true (int_eq u a && n) left)))
                ]
              ]
            ]

    inner : (n : Span) (q : ℤ) → n.lo <ℤ n.hi → IsInner n q → (line n.lo <ℤ q) × (q <ℤ line n.hi)
    inner n q h (inl i) = (i.0, i.1)
    inner n q h (inr i) = absurd (omega (arith, ints, h, i))

    not_inner : IsInner s.x u → IsInner s.y v → ¬ ((u ≡ line s.x.lo) ⊎ ((u ≡ line s.x.hi) ⊎ ((v ≡ line s.y.lo) ⊎ (v ≡ line s.y.hi))))
    not_inner i j e =
        let x = inner s.x u h i in
        let y = inner s.y v k j in
        apart (line s.x.lo) (line s.x.hi) (line s.y.lo) (line s.y.hi) u v x.0 x.1 y.0 y.1 e
      where
        apart : (a b c d u v : ℤ) → a <ℤ u → u <ℤ b → c <ℤ v → v <ℤ d → (u ≡ a) ⊎ ((u ≡ b) ⊎ ((v ≡ c) ⊎ (v ≡ d))) → ⊥
        apart a b c d u v h k l m (inl e) = omega (arith, ints, h, e)
        apart a b c d u v h k l m (inr (inl e)) = omega (arith, ints, k, e)
        apart a b c d u v h k l m (inr (inr (inl e))) = omega (arith, ints, l, e)
        apart a b c d u v h k l m (inr (inr (inr e))) = omega (arith, ints, m, e)

ring_inside : (s : Shape) (u v : ℤ) → s.x.lo <ℤ s.x.hi → s.y.lo <ℤ s.y.hi
    → on_ring (line s.x.lo) (line s.x.hi) (line s.y.lo) (line s.y.hi) u v ≡ false
    → (from_line_to s.x.lo s.x.hi u && int_lt (line s.y.lo) v) ≡ true → (from_line_to s.x.lo s.x.hi u && int_lt (line s.y.hi) v) ≡ false
    → IsCellOf s Interior u v
ring_inside s u v h k o low high =
    let f = strictly (line s.x.lo) (line s.x.hi) (line s.y.lo) (line s.y.hi) u v (omega (arith, ints, h)) (omega (arith, ints, k)) o low high in
    (inl (f.0, f.1), inl (f.2, f.3))
  where
    strictly : (a b c d u v : ℤ) → a <ℤ b → c <ℤ d → on_ring a b c d u v ≡ false
        → ((int_le a u && int_lt u b) && int_lt c v) ≡ true → ((int_le a u && int_lt u b) && int_lt d v) ≡ false
        → (a <ℤ u) × (u <ℤ b) × (c <ℤ v) × (v <ℤ d)
    strictly a b c d u v h k o low high =
        (grind (arith, ints, h, k, o, low, high), grind (arith, ints, h, k, o, low, high), grind (arith, ints, h, k, o, low, high), grind (arith, ints, h, k, o, low, high))

ring_outside : (s : Shape) (u v : ℤ) → s.x.lo <ℤ s.x.hi → s.y.lo <ℤ s.y.hi
    → on_ring (line s.x.lo) (line s.x.hi) (line s.y.lo) (line s.y.hi) u v ≡ false
    → (from_line_to s.x.lo s.x.hi u && int_lt (line s.y.lo) v) ≡ (from_line_to s.x.lo s.x.hi u && int_lt (line s.y.hi) v)
    → IsCellOf s Exterior u v
ring_outside s u v h k o same =
    λ c. outside (line s.x.lo) (line s.x.hi) (line s.y.lo) (line s.y.hi) u v (omega (arith, ints, h)) (omega (arith, ints, k)) o same c.0.0 c.0.1 c.1.0 c.1.1
  where
    outside : (a b c d u v : ℤ) → a <ℤ b → c <ℤ d → on_ring a b c d u v ≡ false
        → ((int_le a u && int_lt u b) && int_lt c v) ≡ ((int_le a u && int_lt u b) && int_lt d v)
        → a ≤ℤ u → u ≤ℤ b → c ≤ℤ v → v ≤ℤ d → ⊥
    outside a b c d u v h k o same l m n p = grind (arith, ints, h, k, o, same, l, m, n, p)

pub ring_case : (s : Shape) (u v : ℤ) → s.x.lo <ℤ s.x.hi → s.y.lo <ℤ s.y.hi → (o b1 b3 : Bool)
    → o ≡ on_ring (line s.x.lo) (line s.x.hi) (line s.y.lo) (line s.y.hi) u v
    → b1 ≡ (from_line_to s.x.lo s.x.hi u && int_lt (line s.y.lo) v) → b3 ≡ (from_line_to s.x.lo s.x.hi u && int_lt (line s.y.hi) v)
    → IsCellOf s (if o then Boundary else (if is_odd (0 + cond b1 1 0 + 0 + cond b3 1 0 + 0) then Interior else Exterior)) u v
ring_case s u v h k true b1 b3 ho hb hc = ring_boundary s u v h k (sym ho)
ring_case s u v h k false true false ho hb hc = ring_inside s u v h k (sym ho) (sym hb) (sym hc)
ring_case s u v h k false true true ho hb hc = ring_outside s u v h k (sym ho) (sym hb ∙ hc)
ring_case s u v h k false false false ho hb hc = ring_outside s u v h k (sym ho) (sym hb ∙ hc)
ring_case s u v h k false false true ho hb hc =
    absurd (above (line s.y.lo) (line s.y.hi) v (from_line_to s.x.lo s.x.hi u) (omega (arith, ints, k)) (sym hb) (sym hc))
  where
    above : (c d v : ℤ) (t : Bool) → c <ℤ d → (t && int_lt c v) ≡ false → (t && int_lt d v) ≡ true → ⊥
    above c d v t h k l = grind (arith, ints, h, k, l)

pub two_long : (s : Shape) → dim_of s ≡ 2 → (s.x.lo <ℤ s.x.hi) × (s.y.lo <ℤ s.y.hi)
two_long s h = (
  long_span s.x (first (span_dim s.x) (span_dim s.y) (at_most_one s.x) (at_most_one s.y) h),
  long_span s.y (second (span_dim s.x) (span_dim s.y) (at_most_one s.x) (at_most_one s.y) h),
)
  where
    at_most_one : (n : Span) → span_dim n ≤ 1
    at_most_one n = grind (arith, ints)

    first : (m n : ℕ) → m ≤ 1 → n ≤ 1 → m + n ≡ 2 → m ≡ 1
    first m n a b e = omega (arith, a, b, e)

    second : (m n : ℕ) → m ≤ 1 → n ≤ 1 → m + n ≡ 2 → n ≡ 1
    second m n a b e = omega (arith, a, b, e)
