-- The paths of a geometry with one path, and the corners of a shape by the least and the greatest
-- coordinates.
use Rattle.std.proofs.Common.{◌≡◌, arith, refl, ap, ◌∙◌, sym, inl, inr, List, [], ◌∷◌, length, subst, slice_index_or}
use Rattle.std.specs.Prelude.{ℤ, ◌⊎◌, ◌<◌, ◌≤◌, Option, Some, None, IfSome}
use Rattle.std.specs.Int.{int_min, int_max}
use Rattle.std.proofs.lemmas.Int.{ints}
use Rattle.geom_core.specs.declared.shape.Shape.{Shape}
use Rattle.geom_core.specs.declared.span.Span.{Span}
use Rattle.geom_core.specs.Shapes.{HasCorners, dim_of as box_dim}
use Rattle.plane_core.specs.declared.vertex.Vertex.{Vertex}
use Rattle.plane_core.specs.Figures.{Figure, Points, Lines, Areas, dim_of}
use Rattle.plane_core.specs.Vertices.{paths_in}
use Rattle.agreement_core.specs.Agreement.{HasPartsOf}
use Rattle.agreement_core.specs.BoxFigures.{AreEndsOf, AreOpposite, GoesRound}
use Rattle.agreement_core.proofs.CornerLemmas.{point_parts, segment_has_parts, ring_has_parts}

in_order : (a b : ℤ) → ((a ≡ int_min a b) × (b ≡ int_max a b)) ⊎ ((a ≡ int_max a b) × (b ≡ int_min a b))
in_order a b = grind (arith, ints)

pub ends_in_order : (n : Span) (a b : ℤ) → n.lo ≡ int_min a b → n.hi ≡ int_max a b → AreEndsOf n a b
ends_in_order n a b lo hi = elim (in_order a b) [
  | inl e ↦ inl (e.0 ∙ sym lo, e.1 ∙ sym hi)
  | inr e ↦ inr (e.0 ∙ sym hi, e.1 ∙ sym lo)
]

pub opposite : (s : Shape) (a b : Vertex) → HasCorners (int_min a.x b.x) (int_min a.y b.y) (int_max a.x b.x) (int_max a.y b.y) s → AreOpposite s a b
opposite s a b corners = record {
  along_x = ends_in_order s.x a.x b.x corners.first_x corners.second_x;
  along_y = ends_in_order s.y a.y b.y corners.first_y corners.second_y;
}

-- a value of two numbers that were passed on
pub of_passed : (f : ℤ → ℤ → ℤ) (x y s t : ℤ) → s ≡ x → t ≡ y → f s t ≡ f x y
of_passed f x y s t is_x is_y = ap (λ (z : ℤ). f z t) is_x ∙ ap (f x) is_y

only_path : (paths : List (List Vertex)) (path : List Vertex) → length paths ≡ 1 → slice_index_or paths 0 path ≡ path → paths ≡ path ∷ []
only_path [] path one is = absurd (omega (arith, one))
only_path (p ∷ []) path one is = let same : p ≡ path = is in ap (λ (q : List Vertex). q ∷ []) same
only_path (p ∷ q ∷ rest) path one is = absurd (omega (arith, one))

pub as_points : (g : Figure) (path : List Vertex) → length (paths_in g) ≡ 1 → slice_index_or (paths_in g) 0 path ≡ path → dim_of g ≡ 0 → g ≡ Points path
as_points (Points vs) path one is flat = let same : vs ≡ path = is in ap Points same
as_points (Lines paths) path one is flat = absurd (omega (arith, flat))
as_points (Areas rings) path one is flat = absurd (omega (arith, flat))

pub as_lines : (g : Figure) (path : List Vertex) → length (paths_in g) ≡ 1 → slice_index_or (paths_in g) 0 path ≡ path → dim_of g ≡ 1 → g ≡ Lines (path ∷ [])
as_lines (Points vs) path one is line = absurd (omega (arith, line))
as_lines (Lines paths) path one is line = ap Lines (only_path paths path one is)
as_lines (Areas rings) path one is line = absurd (omega (arith, line))

pub as_areas : (g : Figure) (path : List Vertex) → length (paths_in g) ≡ 1 → slice_index_or (paths_in g) 0 path ≡ path → (dim_of g ≡ 0 → ⊥) → (dim_of g ≡ 1 → ⊥)
    → g ≡ Areas (path ∷ [])
as_areas (Points vs) path one is no_points no_lines = absurd (no_points refl)
as_areas (Lines paths) path one is no_points no_lines = absurd (no_lines refl)
as_areas (Areas rings) path one is no_points no_lines = ap Areas (only_path rings path one is)

-- ---- lists of one, two and five vertices

one_vertex : (vs : List Vertex) (a : Vertex) → 1 ≤ length vs → length vs < 2 → a ≡ slice_index_or vs 0 a → vs ≡ a ∷ []
one_vertex [] a many few is_a = absurd (omega (arith, many))
one_vertex (p ∷ []) a many few is_a = let same : a ≡ p = is_a in ap (λ (v : Vertex). v ∷ []) (sym same)
one_vertex (p ∷ q ∷ rest) a many few is_a = absurd (omega (arith, few))

two_vertices : (vs : List Vertex) (a b : Vertex) → 2 ≤ length vs → length vs < 3 → a ≡ slice_index_or vs 0 a → b ≡ slice_index_or vs 1 b → vs ≡ a ∷ b ∷ []
two_vertices [] a b many few is_a is_b = absurd (omega (arith, many))
two_vertices (p ∷ []) a b many few is_a is_b = absurd (omega (arith, many))
two_vertices (p ∷ q ∷ []) a b many few is_a is_b =
    let first : a ≡ p = is_a in
    let second : b ≡ q = is_b in
    ap (λ (v : Vertex). v ∷ q ∷ []) (sym first) ∙ ap (λ (v : Vertex). a ∷ v ∷ []) (sym second)
two_vertices (p ∷ q ∷ r ∷ rest) a b many few is_a is_b = absurd (omega (arith, few))

five_vertices : (vs : List Vertex) (a b c d e : Vertex) → 5 ≤ length vs → length vs < 6 → a ≡ slice_index_or vs 0 a → b ≡ slice_index_or vs 1 b → c ≡ slice_index_or vs 2 c
    → d ≡ slice_index_or vs 3 d → e ≡ slice_index_or vs 4 e → vs ≡ a ∷ b ∷ c ∷ d ∷ e ∷ []
five_vertices [] a b c d e many few is_a is_b is_c is_d is_e = absurd (omega (arith, many))
five_vertices (p ∷ []) a b c d e many few is_a is_b is_c is_d is_e = absurd (omega (arith, many))
five_vertices (p ∷ q ∷ []) a b c d e many few is_a is_b is_c is_d is_e = absurd (omega (arith, many))
five_vertices (p ∷ q ∷ r ∷ []) a b c d e many few is_a is_b is_c is_d is_e = absurd (omega (arith, many))
five_vertices (p ∷ q ∷ r ∷ s ∷ []) a b c d e many few is_a is_b is_c is_d is_e = absurd (omega (arith, many))
five_vertices (p ∷ q ∷ r ∷ s ∷ t ∷ []) a b c d e many few is_a is_b is_c is_d is_e =
    let first : a ≡ p = is_a in
    let second : b ≡ q = is_b in
    let third : c ≡ r = is_c in
    let fourth : d ≡ s = is_d in
    let fifth : e ≡ t = is_e in
    ap (λ (v : Vertex). v ∷ q ∷ r ∷ s ∷ t ∷ []) (sym first) ∙ ap (λ (v : Vertex). a ∷ v ∷ r ∷ s ∷ t ∷ []) (sym second)
    ∙ ap (λ (v : Vertex). a ∷ b ∷ v ∷ s ∷ t ∷ []) (sym third) ∙ ap (λ (v : Vertex). a ∷ b ∷ c ∷ v ∷ t ∷ []) (sym fourth)
    ∙ ap (λ (v : Vertex). a ∷ b ∷ c ∷ d ∷ v ∷ []) (sym fifth)
five_vertices (p ∷ q ∷ r ∷ s ∷ t ∷ u ∷ rest) a b c d e many few is_a is_b is_c is_d is_e = absurd (omega (arith, few))

-- ---- the shapes of single paths

pub point_box : (vs : List Vertex) (a : Vertex) (found : Option Shape) → 1 ≤ length vs → length vs < 2 → a ≡ slice_index_or vs 0 a
    → IfSome found (λ s. AreOpposite s a a) → IfSome found (λ s. box_dim s ≡ 0) → IfSome found (λ s. HasPartsOf s (Points vs))
point_box vs a None many few is_a ends flat = tt
point_box vs a (Some s) many few is_a ends flat =
    subst (λ (ps : List Vertex). HasPartsOf s (Points ps)) (sym (one_vertex vs a many few is_a))
    (point_parts s a ends flat)

pub segment_box : (vs : List Vertex) (a b : Vertex) (found : Option Shape) → 2 ≤ length vs → length vs < 3 → a ≡ slice_index_or vs 0 a → b ≡ slice_index_or vs 1 b
    → IfSome found (λ s. AreOpposite s a b) → IfSome found (λ s. box_dim s ≡ 1) → IfSome found (λ s. HasPartsOf s (Lines (vs ∷ [])))
segment_box vs a b None many few is_a is_b ends one = tt
segment_box vs a b (Some s) many few is_a is_b ends one =
    subst (λ (path : List Vertex). HasPartsOf s (Lines (path ∷ []))) (sym (two_vertices vs a b many few is_a is_b)) (segment_has_parts s a b ends one)

pub ring_box : (vs : List Vertex) (a b c d e : Vertex) (found : Option Shape) → 5 ≤ length vs → length vs < 6 → a ≡ slice_index_or vs 0 a → b ≡ slice_index_or vs 1 b
    → c ≡ slice_index_or vs 2 c → d ≡ slice_index_or vs 3 d → e ≡ slice_index_or vs 4 e → GoesRound a b c d e
    → IfSome found (λ s. AreOpposite s a c) → IfSome found (λ s. box_dim s ≡ 2) → IfSome found (λ s. HasPartsOf s (Areas (vs ∷ [])))
ring_box vs a b c d e None many few is_a is_b is_c is_d is_e round ends two = tt
ring_box vs a b c d e (Some s) many few is_a is_b is_c is_d is_e round ends two =
    subst (λ (ring : List Vertex). HasPartsOf s (Areas (ring ∷ []))) (sym (five_vertices vs a b c d e many few is_a is_b is_c is_d is_e)) (ring_has_parts s a b c d e round ends two)

-- a shape with the parts of a figure has those of an equal one
pub of_same : (found : Option Shape) (f g : Figure) → g ≡ f → IfSome found (λ s. HasPartsOf s f) → IfSome found (λ s. HasPartsOf s g)
of_same found f g same parts = subst (λ (h : Figure). IfSome found (λ s. HasPartsOf s h)) (sym same) parts
