-- Each vertex of a geometry is a point of it, so a box of all vertices of a geometry holds those of each geometry in it.
use Rattle.std.proofs.Common.{◌≡◌, ◌≢◌, ◌<◌, inl, inr, arith, refl, subst, true, false, List, [], ◌∷◌, length, get_or}
use Rattle.std.specs.Prelude.{Bool, All, if◌then◌else◌}
use Rattle.std.specs.List.{flat_map}
use Rattle.std.proofs.lemmas.Int.{ints}
use Rattle.geom_core.specs.declared.shape.Shape.{Shape}
use Rattle.plane_core.specs.declared.part.Part.TheVariants.{Interior, Boundary, Exterior}
use Rattle.plane_core.specs.declared.vertex.Vertex.{Vertex}
use Rattle.plane_core.specs.declared.edge.Edge.{Edge}
use Rattle.plane_core.specs.Points.{at, is_on, is_at}
use Rattle.plane_core.specs.Figures.{Figure, IsGeometry, IsPath, IsRing, edges, part_of}
use Rattle.plane_core.specs.Figures.Figure.{Points, Lines, Areas}
use Rattle.plane_core.specs.Vertices.{vertices_of, HoldsVertex}
use Rattle.noding_core.specs.Nodes.{IsAmong}
use Rattle.noding_core.proofs.AmongLemmas.{among_either, among_flat}
use Rattle.noding_core.proofs.BoxLemmas.{HoldsPoint, part_in_box}
use Rattle.noding_core.proofs.FlipLemmas.{is_at-itself}
use Rattle.noding_core.proofs.NodeLemmas.{all_among}
use Rattle.noding_core.proofs.OffPartLemmas.{first_on, last_on}
use Rattle.noding_core.proofs.ReadOffLemmas.{among_each}
use Rattle.noding_core.proofs.TurnLemmas.{get_among}
use Rattle.shown_core.proofs.BeyondLemmas.{holds_all}
use Rattle.shown_core.proofs.ShownLemmas.{any_among}
use Rattle.any_relation_core.specs.PlaneSets.{IsIn}

-- ---- a vertex is a point of its geometry

is_at_it : (u v : Vertex) → v ≡ u → is_at u (at v) ≡ true
is_at_it u v is = subst (λ (x : Vertex). is_at x (at v) ≡ true) is (is_at-itself v)

-- each vertex of a path is on one of its edges
edge_at : (path : List Vertex) (v : Vertex) → 0 < length (edges path) → IsAmong v path → (e : Edge) × IsAmong e (edges path) × (is_on e (at v) ≡ true)
edge_at [] v long one = absurd one
edge_at (a ∷ []) v long one = absurd (omega (arith, long))
edge_at (a ∷ b ∷ rest) v long (inl is) =
    let e : Edge = record { a = a; b = b } in
    (e, inl refl, first_on e (at v) (is_at_it a v is))
edge_at (a ∷ b ∷ rest) v long (inr (inl is)) =
    let e : Edge = record { a = a; b = b } in
    (e, inl refl, last_on e (at v) (is_at_it b v is))
edge_at (a ∷ b ∷ []) v long (inr (inr none)) = absurd none
edge_at (a ∷ b ∷ c ∷ rest) v long (inr (inr one)) =
    let found = edge_at (b ∷ c ∷ rest) v (omega arith) (inr one) in
    (found.0, inr found.1, found.2)

points_not_out : (here : Bool) → here ≡ true → (if here then Interior else Exterior) ≢ Exterior
points_not_out true is out = cc
points_not_out false is out = cc

lines_not_out : (odd on : Bool) → on ≡ true → (if odd then Boundary else (if on then Interior else Exterior)) ≢ Exterior
lines_not_out true on is out = cc
lines_not_out false true is out = cc
lines_not_out false false is out = cc

areas_not_out : (on odd : Bool) → on ≡ true → (if on then Boundary else (if odd then Interior else Exterior)) ≢ Exterior
areas_not_out true odd is out = cc
areas_not_out false odd is out = cc

on_some_edge : (paths : List (List Vertex)) (v : Vertex) → ((path : List Vertex) → IsAmong path paths → 0 < length (edges path))
    → IsAmong v (flat_map (λ (path : List Vertex). path) paths) → (e : Edge) × IsAmong e (flat_map edges paths) × (is_on e (at v) ≡ true)
on_some_edge paths v long one =
    let (path, within, held) = among_each (λ (path : List Vertex). path) paths v one in
    let (e, of_path, on) = edge_at path v (long path within) held in
    (e, among_flat edges path e paths within of_path, on)

vertex_not_out : (g : Figure) (v : Vertex) → IsGeometry g → IsAmong v (vertices_of g) → part_of g (at v) ≢ Exterior
vertex_not_out (Points vs) v good one = elim (among_either v vs [] one) [
  | inl held ↦ points_not_out _ (any_among (λ u. is_at u (at v)) vs v held (is_at-itself v))
  | inr none ↦ absurd none
]
vertex_not_out (Lines paths) v good one =
    let (e, held, on) = on_some_edge paths v (λ path k. (all_among IsPath path paths good.1 k).long) one in
    lines_not_out _ _ (any_among (λ f. is_on f (at v)) (flat_map edges paths) e held on)
vertex_not_out (Areas rings) v good one =
    let (e, held, on) = on_some_edge rings v (λ ring k. (all_among IsRing ring rings good.1 k).path.long) one in
    areas_not_out _ _ (any_among (λ f. is_on f (at v)) (flat_map edges rings) e held on)

-- ---- boxes of the vertices

vertex_held : (s : Shape) (v : Vertex) → HoldsPoint s (at v) → HoldsVertex s v
vertex_held s v held = record {
  left = omega (arith, ints, held.left);
  right = omega (arith, ints, held.right);
  low = omega (arith, ints, held.low);
  high = omega (arith, ints, held.high);
}

-- a box of the vertices of a geometry holds those of a geometry that lies in it
pub holds_inner : (g h : Figure) (s : Shape) → IsGeometry g → IsGeometry h → All (HoldsVertex s) (vertices_of h) → IsIn g h
    → All (HoldsVertex s) (vertices_of g)
holds_inner g h s good_g good_h all within = λ k d lt.
    let v = get_or (vertices_of g) k d in
    let here = vertex_not_out g v good_g (get_among (vertices_of g) k d lt) in
    vertex_held s v (part_in_box h s (at v) good_h (omega arith) (holds_all s h all) (within (at v) (omega arith) here))
