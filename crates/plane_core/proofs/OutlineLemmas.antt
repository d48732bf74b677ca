-- The parts by an outline are those of the geometry.
use Rattle.std.proofs.Common.{◌≡◌, ◌+◌, ◌<◌, ◌≤◌, Bool, true, false, ◌||◌, arith, refl, ap, sym, ◌∙◌, cond, List, [], ◌∷◌}
use Rattle.std.specs.Prelude.{ℕ, count_by, sum_by, nat_lt, if◌then◌else◌}
use Rattle.std.specs.List.{list_any, flat_map}
use Rattle.std.proofs.lemmas.Bool.Decides.{nat_tests}
use Rattle.std.proofs.lemmas.List.Sums.{sum_by-cons, sum_by-append}
use Rattle.plane_core.specs.declared.vertex.Vertex.{Vertex}
use Rattle.plane_core.specs.declared.edge.Edge.{Edge}
use Rattle.plane_core.specs.declared.part.Part.TheVariants.{Interior, Boundary, Exterior}
use Rattle.plane_core.specs.declared.outline.Kind.{Kind}
use Rattle.plane_core.specs.declared.outline.Kind.TheVariants.{Points as Dots, Lines as Polylines, Areas as Rings}
use Rattle.plane_core.specs.declared.outline.Outline.{Outline}
use Rattle.plane_core.specs.Points.{Point, is_on, is_at}
use Rattle.plane_core.specs.Figures.{Figure, edges, part_of, part_above, points_part, is_odd, end_count, last_count, last_or}
use Rattle.plane_core.specs.Figures.Figure.{Points, Lines, Areas}
use Rattle.plane_core.specs.Outlines.{IsOutlineOf, path_ends, count_at, part_by, above_by, outline_part, outline_above}

-- an item passes a test if and only if at least one does
pub any_count : {T : Type 0} (f : T → Bool) (xs : List T) → list_any f xs ≡ nat_lt 0 (count_by f xs)
any_count f [] = refl
any_count f (x ∷ xs) = plain (f x) (list_any f xs) (count_by f xs) (count_by f (x ∷ xs)) (any_count f xs) (sum_by-cons (λ y. cond {A = ℕ} (f y) 1 0) x xs)
  where
    plain : (t s : Bool) (n m : ℕ) → s ≡ nat_lt 0 n → m ≡ cond {A = ℕ} t 1 0 + n → (t || s) ≡ nat_lt 0 m
    plain true s n m h e = positive m n e
      where
        positive : (m n : ℕ) → m ≡ 1 + n → true ≡ nat_lt 0 m
        positive m n e = grind (arith, nat_tests)
    plain false s n m h e = rw (e ∙ from_zero n) h
      where
        from_zero : (n : ℕ) → 0 + n ≡ n
        from_zero n = omega arith

-- single points by their number at a point
pub some_here : (vs : List Vertex) (p : Point) (here : ℕ) → here ≡ count_at vs p → 0 < here → Interior ≡ points_part vs p
some_here vs p here is h = rw (any_count (λ v. is_at v p) vs, sym is) (plain here h)
  where
    plain : (n : ℕ) → 0 < n → Interior ≡ (if nat_lt 0 n then Interior else Exterior)
    plain n h = grind (arith, nat_tests)

pub none_here : (vs : List Vertex) (p : Point) (here : ℕ) → here ≡ count_at vs p → here ≤ 0 → Exterior ≡ points_part vs p
none_here vs p here is h = rw (any_count (λ v. is_at v p) vs, sym is) (plain here h)
  where
    plain : (n : ℕ) → n ≤ 0 → Exterior ≡ (if nat_lt 0 n then Interior else Exterior)
    plain n h = grind (arith, nat_tests)

last_end : (a : Vertex) (rest : List Vertex) (p : Point) → last_count (a ∷ rest) p ≡ cond (is_at (last_or a rest) p) 1 0
last_end a [] p = refl
last_end a (b ∷ rest) p = last_end b rest p

two_ends : (path : List Vertex) (p : Point) → count_by (λ v. is_at v p) (path_ends path) ≡ end_count p path
two_ends [] p = refl
two_ends (a ∷ rest) p =
    let f : Vertex → ℕ = λ v. cond (is_at v p) 1 0 in
    sum_by-cons f a (last_or a rest ∷ [])
    ∙ ap (λ (n : ℕ). f a + n) (sum_by-cons f (last_or a rest) [] ∙ add_zero (f (last_or a rest)) ∙ sym (last_end a rest p))
  where
    add_zero : (n : ℕ) → n + 0 ≡ n
    add_zero n = omega arith

all_ends : (paths : List (List Vertex)) (p : Point) → count_by (λ v. is_at v p) (flat_map path_ends paths) ≡ sum_by (end_count p) paths
all_ends [] p = refl
all_ends (path ∷ paths) p =
    sum_by-append (λ v. cond (is_at v p) 1 0) (path_ends path) (flat_map path_ends paths)
    ∙ ap (λ (n : ℕ). n + count_by (λ v. is_at v p) (flat_map path_ends paths)) (two_ends path p)
    ∙ ap (λ (n : ℕ). end_count p path + n) (all_ends paths p)
    ∙ sym (sum_by-cons (end_count p) path paths)

pub outline_part-is : (g : Figure) (o : Outline) (p : Point) → IsOutlineOf g o → outline_part o p ≡ part_of g p
outline_part-is (Points vs) o p h =
    ap (λ (k : Kind). part_by k o.ends.items o.edges.items p) h.kind
    ∙ ap (λ (vs : List Vertex). part_by Dots vs o.edges.items p) h.ends
outline_part-is (Lines paths) o p h =
    ap (λ (k : Kind). part_by k o.ends.items o.edges.items p) h.kind
    ∙ ap (λ (vs : List Vertex). part_by Polylines vs o.edges.items p) h.ends
    ∙ ap (λ (es : List Edge). part_by Polylines (flat_map path_ends paths) es p) h.edges
    ∙ ap (λ (n : ℕ). if is_odd n then Boundary else (if list_any (λ e. is_on e p) (flat_map edges paths) then Interior else Exterior)) (all_ends paths p)
outline_part-is (Areas rings) o p h =
    ap (λ (k : Kind). part_by k o.ends.items o.edges.items p) h.kind
    ∙ ap (λ (es : List Edge). part_by Rings o.ends.items es p) h.edges

pub outline_above-is : (g : Figure) (o : Outline) (p : Point) → IsOutlineOf g o → outline_above o p ≡ part_above g p
outline_above-is (Points vs) o p h = ap (λ (k : Kind). above_by k o.edges.items p) h.kind
outline_above-is (Lines paths) o p h = ap (λ (k : Kind). above_by k o.edges.items p) h.kind
outline_above-is (Areas rings) o p h =
    ap (λ (k : Kind). above_by k o.edges.items p) h.kind ∙ ap (λ (es : List Edge). above_by Rings es p) h.edges
