-- Two triples of the same place are in the same parts.
use Rattle.std.proofs.Common.{◌≡◌, ◌<◌, ◌*◌, ◌+◌, arith, refl, ap, ◌∙◌, sym, cond, List, [], ◌∷◌}
use Rattle.std.specs.Prelude.{ℤ, ℕ, ◌*ℤ◌, pos, Bool, count_by, sum_by, if◌then◌else◌}
use Rattle.std.specs.List.{list_any, flat_map}
use Rattle.std.proofs.lemmas.Int.{ints}
use Rattle.plane_core.specs.declared.vertex.Vertex.{Vertex}
use Rattle.plane_core.specs.declared.edge.Edge.{Edge}
use Rattle.plane_core.specs.declared.part.Part.TheVariants.{Interior, Boundary, Exterior}
use Rattle.plane_core.specs.Points.{Point, is_on, is_below, is_at_or_below, is_at, IsSamePlace}
use Rattle.plane_core.specs.Figures.{Figure, Points, Lines, Areas, edges, is_odd, last_count, end_count, lines_part, areas_part, part_of, part_above}
use Rattle.plane_core.proofs.ScaleLemmas.{scaled, is_on-scaled, is_below-scaled, is_at_or_below-scaled, is_at-scaled}

last_count-scaled : (vs : List Vertex) (k : ℕ) (p : Point) → 0 < k → last_count vs (scaled k p) ≡ last_count vs p
last_count-scaled [] k p h = refl
last_count-scaled (a ∷ []) k p h = ap (λ (t : Bool). cond t 1 0) (is_at-scaled a k p h)
last_count-scaled (a ∷ b ∷ rest) k p h = last_count-scaled (b ∷ rest) k p h

end_count-scaled : (vs : List Vertex) (k : ℕ) (p : Point) → 0 < k → end_count (scaled k p) vs ≡ end_count p vs
end_count-scaled [] k p h = refl
end_count-scaled (a ∷ rest) k p h =
    ap (λ (t : Bool). cond t 1 0 + last_count (a ∷ rest) (scaled k p)) (is_at-scaled a k p h)
    ∙ ap (λ (n : ℕ). cond (is_at a p) 1 0 + n) (last_count-scaled (a ∷ rest) k p h)

on_all : (k : ℕ) (p : Point) → 0 < k → ◌≡◌ {A = Edge → Bool} (λ e. is_on e (scaled k p)) (λ e. is_on e p)
on_all k p h = λ i e. is_on-scaled e k p h i

below_all : (k : ℕ) (p : Point) → 0 < k → ◌≡◌ {A = Edge → Bool} (λ e. is_below e (scaled k p)) (λ e. is_below e p)
below_all k p h = λ i e. is_below-scaled e k p h i

at_or_below_all : (k : ℕ) (p : Point) → 0 < k → ◌≡◌ {A = Edge → Bool} (λ e. is_at_or_below e (scaled k p)) (λ e. is_at_or_below e p)
at_or_below_all k p h = λ i e. is_at_or_below-scaled e k p h i

at_all : (k : ℕ) (p : Point) → 0 < k → ◌≡◌ {A = Vertex → Bool} (λ v. is_at v (scaled k p)) (λ v. is_at v p)
at_all k p h = λ i v. is_at-scaled v k p h i

ends_all : (k : ℕ) (p : Point) → 0 < k → end_count (scaled k p) ≡ end_count p
ends_all k p h = λ i vs. end_count-scaled vs k p h i

areas_part-scaled : (es : List Edge) (k : ℕ) (p : Point) → 0 < k → areas_part es (scaled k p) ≡ areas_part es p
areas_part-scaled es k p h =
    ap (λ (f : Edge → Bool). if list_any f es then Boundary else (if is_odd (count_by (λ e. is_below e (scaled k p)) es) then Interior else Exterior)) (on_all k p h)
    ∙ ap (λ (f : Edge → Bool). if list_any (λ e. is_on e p) es then Boundary else (if is_odd (count_by f es) then Interior else Exterior)) (below_all k p h)

lines_part-scaled : (paths : List (List Vertex)) (es : List Edge) (k : ℕ) (p : Point) → 0 < k → lines_part paths es (scaled k p) ≡ lines_part paths es p
lines_part-scaled paths es k p h =
    ap (λ (f : List Vertex → ℕ). if is_odd (sum_by f paths) then Boundary else (if list_any (λ e. is_on e (scaled k p)) es then Interior else Exterior)) (ends_all k p h)
    ∙ ap (λ (f : Edge → Bool). if is_odd (sum_by (end_count p) paths) then Boundary else (if list_any f es then Interior else Exterior)) (on_all k p h)

pub part_of-scaled : (g : Figure) (k : ℕ) (p : Point) → 0 < k → part_of g (scaled k p) ≡ part_of g p
part_of-scaled (Points vs) k p h = ap (λ (f : Vertex → Bool). if list_any f vs then Interior else Exterior) (at_all k p h)
part_of-scaled (Lines paths) k p h = lines_part-scaled paths (flat_map edges paths) k p h
part_of-scaled (Areas rings) k p h = areas_part-scaled (flat_map edges rings) k p h

pub part_above-scaled : (g : Figure) (k : ℕ) (p : Point) → 0 < k → part_above g (scaled k p) ≡ part_above g p
part_above-scaled (Points vs) k p h = refl
part_above-scaled (Lines paths) k p h = refl
part_above-scaled (Areas rings) k p h =
    ap (λ (f : Edge → Bool). if is_odd (count_by f (flat_map edges rings)) then Interior else Exterior) (at_or_below_all k p h)

-- scaled by each other's w, two triples of one place are one triple
pub scaled_same : (p q : Point) → IsSamePlace p q → scaled q.w p ≡ scaled p.w q
scaled_same p q e = λ i. record {
  x = turned p.x (pos q.w) q.x (pos p.w) e.0 i;
  y = turned p.y (pos q.w) q.y (pos p.w) e.1 i;
  w = product p.w q.w i;
}
  where
    turned : (a b c d : ℤ) → a *ℤ b ≡ c *ℤ d → b *ℤ a ≡ d *ℤ c
    turned a b c d e = omega (arith, ints)

    product : (m n : ℕ) → n * m ≡ m * n
    product m n = omega arith

pub is_on-same_place : (e : Edge) (p q : Point) → 0 < p.w → 0 < q.w → IsSamePlace p q → is_on e p ≡ is_on e q
is_on-same_place e p q wp wq h =
    sym (is_on-scaled e q.w p wq) ∙ ap (is_on e) (scaled_same p q h) ∙ is_on-scaled e p.w q wp

pub is_at-same_place : (v : Vertex) (p q : Point) → 0 < p.w → 0 < q.w → IsSamePlace p q → is_at v p ≡ is_at v q
is_at-same_place v p q wp wq h =
    sym (is_at-scaled v q.w p wq) ∙ ap (is_at v) (scaled_same p q h) ∙ is_at-scaled v p.w q wp

pub part_of-same_place : (g : Figure) (p q : Point) → 0 < p.w → 0 < q.w → IsSamePlace p q → part_of g p ≡ part_of g q
part_of-same_place g p q wp wq h =
    sym (part_of-scaled g q.w p wq) ∙ ap (part_of g) (scaled_same p q h) ∙ part_of-scaled g p.w q wp

pub part_above-same_place : (g : Figure) (p q : Point) → 0 < p.w → 0 < q.w → IsSamePlace p q → part_above g p ≡ part_above g q
part_above-same_place g p q wp wq h =
    sym (part_above-scaled g q.w p wq) ∙ ap (part_above g) (scaled_same p q h) ∙ part_above-scaled g p.w q wp
