-- The bounding box of vertices, and the paths that have them.
use Rattle.std.proofs.Common.{◌≡◌, ◌≤◌, ◌<◌, ◌+◌, ◌-◌, ℕ, arith, refl, sym, subst, ap, ◌∙◌, List, [], ◌∷◌, ◌++◌, length, get_or, take, drop, All, suc, zero}
use Rattle.std.specs.Prelude.{ℤ, Option, None, IsSome}
use Rattle.std.specs.List.{flat_map, slice_range}
use Rattle.std.proofs.lemmas.Int.{ints}
use Rattle.std.proofs.lemmas.List.{take_more, take_all, append-nil, take-append-drop, drop-drop}
use Rattle.std.proofs.lemmas.List.Elements.{All-append, All-cons, All-nil}
use Rattle.geom_core.specs.declared.shape.Shape.{Shape}
use Rattle.geom_core.specs.Cells.{line, IsIn}
use Rattle.geom_core.specs.Shapes.{AreCorners, HasCorners}
use Rattle.plane_core.specs.declared.vertex.Vertex.{Vertex}
use Rattle.plane_core.specs.declared.outline.Kind.{Kind}
use Rattle.plane_core.specs.declared.outline.Kind.TheVariants.{Points as Dots, Lines as Polylines, Areas as RingKind}
use Rattle.plane_core.specs.Figures.{Figure, edges, IsPath}
use Rattle.plane_core.specs.Stored.{paths_of, stored_figure, AreCuts, AreCutsFor, IsStored}
use Rattle.plane_core.specs.Vertices.{paths_in, vertices_of, start_of, HoldsVertex}
use Rattle.plane_core.proofs.StoredLemmas.{cuts_below}

-- ---- one vertex

corners_at : (v : Vertex) → AreCorners v.x v.y v.x v.y
corners_at v = record {
  along_x = omega (arith, ints);
  along_y = omega (arith, ints);
  first_x = v.x_in_range;
  first_y = v.y_in_range;
  second_x = v.x_in_range;
  second_y = v.y_in_range;
}

pub corners_as : (v : Vertex) (x y : ℤ) → x ≡ v.x → y ≡ v.y → AreCorners x y x y
corners_as v x y e f = rw (e, f) (corners_at v)

held_at : (p : Shape) (v : Vertex) → HasCorners v.x v.y v.x v.y p → HoldsVertex p v
held_at p v h = record {
  left = omega (arith, ints, h.first_x);
  right = omega (arith, ints, h.second_x);
  low = omega (arith, ints, h.first_y);
  high = omega (arith, ints, h.second_y);
}

held_in : (s t : Shape) (v : Vertex) → IsIn s t → HoldsVertex s v → HoldsVertex t v
held_in s t v within h =
    let k = within (line v.x) (line v.y) ((omega (arith, ints, h.left), omega (arith, ints, h.right)), (omega (arith, ints, h.low), omega (arith, ints, h.high))) in
    record {
      left = omega (arith, ints, k.0.0);
      right = omega (arith, ints, k.0.1);
      low = omega (arith, ints, k.1.0);
      high = omega (arith, ints, k.1.1);
    }

pub in_at : (p : Shape) (v : Vertex) (t : Shape) → HasCorners v.x v.y v.x v.y p → HoldsVertex t v → IsIn p t
in_at p v t h k = λ a b c. (
  (omega (arith, ints, h.first_x, k.left, c.0.0), omega (arith, ints, h.second_x, k.right, c.0.1)),
  (omega (arith, ints, h.first_y, k.low, c.1.0), omega (arith, ints, h.second_y, k.high, c.1.1)),
)

-- ---- one vertex more

pub vertex_held : (t : Shape) (vs : List Vertex) (i : ℕ) (v : Vertex) → i < length vs → v ≡ get_or vs i v → All (HoldsVertex t) vs → HoldsVertex t v
vertex_held t vs i v lt is h = subst (HoldsVertex t) (sym is) (h i v lt)

pub held_more : (s p t : Shape) (vs : List Vertex) (i : ℕ) (v : Vertex) → i < length vs → v ≡ get_or vs i v → IsIn s t → IsIn p t → HasCorners v.x v.y v.x v.y p
    → All (HoldsVertex s) (take i vs) → All (HoldsVertex t) (take (i + 1) vs)
held_more s p t vs i v lt is wide own at h =
    let front : All (HoldsVertex t) (take i vs) = λ k d below. held_in s t (get_or (take i vs) k d) wide (h k d below) in
    let here : All (HoldsVertex t) (v ∷ []) = All-cons (HoldsVertex t) v [] (held_in p t v own (held_at p v at)) (All-nil (HoldsVertex t)) in
    subst (λ (xs : List Vertex). All (HoldsVertex t) xs) (sym (take_more vs i v lt ∙ ap (λ (x : Vertex). take i vs ++ x ∷ []) (sym is)))
    (All-append (HoldsVertex t) (take i vs) (v ∷ []) front here)

pub held_none : (t : Shape) (vs : List Vertex) → All (HoldsVertex t) (take 0 vs)
held_none t vs = All-nil (HoldsVertex t)

pub held_all : (t : Shape) (vs : List Vertex) (i : ℕ) → length vs ≤ i → All (HoldsVertex t) (take i vs) → All (HoldsVertex t) vs
held_all t vs i le h = subst (λ (xs : List Vertex). All (HoldsVertex t) xs) (take_all i vs le) h

-- ---- the vertices of all paths

no_vertex : (start : ℕ) (ends : List ℕ) → 0 < length (paths_of start ends []) → All IsPath (paths_of start ends []) → ⊥
no_vertex start [] some paths = none some
  where
    none : 0 < 0 → ⊥
    none h = omega arith
no_vertex start (end ∷ ends) some paths = none (end - start) start (paths 0 [] (omega arith)).long
  where
    none : (n m : ℕ) → 0 < length (edges (take n (drop m []))) → ⊥
    none zero zero h = omega arith
    none zero (suc m) h = omega arith
    none (suc n) zero h = omega arith
    none (suc n) (suc m) h = omega arith

some_vertex : (vs : List Vertex) (ends : List ℕ) → 0 < length (paths_of 0 ends vs) → All IsPath (paths_of 0 ends vs) → 0 < length vs
some_vertex [] ends some paths = absurd (no_vertex 0 ends some paths)
some_vertex (v ∷ vs) ends some paths = omega arith

pub has_vertex : (kind : Kind) (ends : List ℕ) (vs : List Vertex) → IsStored kind ends vs → 0 < length vs
has_vertex Dots ends vs h = h.geometry
has_vertex Polylines ends vs h = some_vertex vs ends h.geometry.0 h.geometry.1
has_vertex RingKind ends vs h = some_vertex vs ends h.geometry.0 (λ k d lt. (h.geometry.1 k d lt).path)

drop_all : {X : Type 0} (vs : List X) (n : ℕ) → n ≡ length vs → [] ≡ drop n vs
drop_all [] n e = rw e refl
drop_all (v ∷ vs) n e = rw e (drop_all vs (length vs) refl)

joined_from : (start : ℕ) (ends : List ℕ) (vs : List Vertex) → AreCuts start ends (length vs) → flat_map (λ path. path) (paths_of start ends vs) ≡ drop start vs
joined_from start [] vs h = drop_all vs start h
joined_from start (end ∷ ends) vs h =
    ap (λ (xs : List Vertex). slice_range vs start end ++ xs) (joined_from end ends vs h.1) ∙ seam start end vs h.0
  where
    seam : (m n : ℕ) (xs : List Vertex) → m ≤ n → take (n - m) (drop m xs) ++ drop n xs ≡ drop m xs
    seam m n xs le =
        let whole : m + (n - m) ≡ n = omega arith in
        ap (λ (k : ℕ). take (n - m) (drop m xs) ++ drop k xs) (sym whole)
        ∙ ap (λ (ys : List Vertex). take (n - m) (drop m xs) ++ ys) (sym (drop-drop (n - m) m xs))
        ∙ take-append-drop (n - m) (drop m xs)

pub all_vertices : (kind : Kind) (ends : List ℕ) (vs : List Vertex) → AreCutsFor kind ends (length vs) → vertices_of (stored_figure kind ends vs) ≡ vs
all_vertices Dots ends vs h = append-nil vs
all_vertices Polylines ends vs h = joined_from 0 ends vs h
all_vertices RingKind ends vs h = joined_from 0 ends vs h

-- the stored form of a geometry
pub vertices_are : (g : Figure) (kind : Kind) (ends : List ℕ) (vs ws : List Vertex) → g ≡ stored_figure kind ends vs → AreCutsFor kind ends (length vs) → ws ≡ vs
    → ws ≡ vertices_of g
vertices_are g kind ends vs ws is cuts same = same ∙ sym (all_vertices kind ends vs cuts) ∙ sym (ap vertices_of is)

-- ---- one path

count_from : (start : ℕ) (ends : List ℕ) (vs : List Vertex) → length (paths_of start ends vs) ≡ length ends
count_from start [] vs = refl
count_from start (end ∷ ends) vs = ap suc (count_from end ends vs)

pub lines_count : (kind : Kind) (ends : List ℕ) (vs : List Vertex) → kind ≡ Polylines → length ends ≡ length (paths_in (stored_figure kind ends vs))
lines_count kind ends vs is = rw is (sym (count_from 0 ends vs))

pub rings_count : (kind : Kind) (ends : List ℕ) (vs : List Vertex) → kind ≡ RingKind → length ends ≡ length (paths_in (stored_figure kind ends vs))
rings_count kind ends vs is = rw is (sym (count_from 0 ends vs))

pub among_lines : (kind : Kind) (ends : List ℕ) (vs : List Vertex) (i : ℕ) → kind ≡ Polylines → i < length (paths_in (stored_figure kind ends vs)) → i < length ends
among_lines kind ends vs i is h = rw (lines_count kind ends vs is) h

pub among_rings : (kind : Kind) (ends : List ℕ) (vs : List Vertex) (i : ℕ) → kind ≡ RingKind → i < length (paths_in (stored_figure kind ends vs)) → i < length ends
among_rings kind ends vs i is h = rw (rings_count kind ends vs is) h

-- the start of the path at an index, if the first begins at a given start
abbrev pub start_from : ℕ → List ℕ → ℕ → ℕ
start_from start ends zero = start
start_from start ends (suc i) = get_or ends i 0

is_start : (ends : List ℕ) (i : ℕ) → start_from 0 ends i ≡ start_of ends i
is_start ends zero = refl
is_start ends (suc i) = refl

path_from : (start : ℕ) (ends : List ℕ) (vs none : List Vertex) (i : ℕ) → i < length ends
    → slice_range vs (start_from start ends i) (get_or ends i 0) ≡ get_or (paths_of start ends vs) i none
path_from start [] vs none i lt = absurd (omega (arith, lt))
path_from start (end ∷ ends) vs none zero lt = refl
path_from start (end ∷ ends) vs none (suc zero) lt = path_from end ends vs none zero (omega (arith, lt))
path_from start (end ∷ ends) vs none (suc (suc i)) lt = path_from end ends vs none (suc i) (omega (arith, lt))

pub path_is : (ends : List ℕ) (vs : List Vertex) (start i : ℕ) → start ≡ start_of ends i → i < length ends
    → (none : List Vertex) → slice_range vs start (get_or ends i 0) ≡ get_or (paths_of 0 ends vs) i none
path_is ends vs start i is lt none =
    ap (λ (k : ℕ). slice_range vs k (get_or ends i 0)) (is ∙ sym (is_start ends i)) ∙ path_from 0 ends vs none i lt

start_below : (start : ℕ) (ends : List ℕ) (n i : ℕ) → i < length ends → AreCuts start ends n → start_from start ends i ≤ get_or ends i 0
start_below start [] n i lt h = absurd (omega (arith, lt))
start_below start (end ∷ ends) n zero lt h = h.0
start_below start (end ∷ ends) n (suc zero) lt h = start_below end ends n zero (omega (arith, lt)) h.1
start_below start (end ∷ ends) n (suc (suc i)) lt h = start_below end ends n (suc i) (omega (arith, lt)) h.1

pub before_end : (ends : List ℕ) (n start i : ℕ) → start ≡ start_of ends i → i < length ends → AreCuts 0 ends n → start ≤ get_or ends i 0
before_end ends n start i is lt h = rw (is ∙ sym (is_start ends i)) (start_below 0 ends n i lt h)

pub end_within : (start : ℕ) (ends : List ℕ) (n i : ℕ) → i < length ends → AreCuts start ends n → get_or ends i 0 ≤ n
end_within start [] n i lt h = absurd (omega (arith, lt))
end_within start (end ∷ ends) n zero lt h = cuts_below end ends n h.1
end_within start (end ∷ ends) n (suc i) lt h = end_within end ends n i (omega (arith, lt)) h.1

pub start_more : (ends : List ℕ) (i : ℕ) → 0 < i → get_or ends (i - 1) 0 ≡ start_of ends i
start_more ends zero lt = absurd (omega (arith, lt))
start_more ends (suc i) lt = let back : suc i - 1 ≡ i = omega arith in ap (λ (k : ℕ). get_or ends k 0) back

pub no_none : {X : Type 0} (o : Option X) → o ≡ None → IsSome o → ⊥
no_none o none some = cc
