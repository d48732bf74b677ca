-- No two geometries are further apart than the greatest distance, since each has a vertex, and both vertices are in the
-- plane.
use Rattle.std.proofs.Common.{◌≡◌, ◌<◌, ◌≤◌, ◌*◌, arith, ap, refl, inl, true, List, [], ◌∷◌, length}
use Rattle.std.specs.Prelude.{ℤ, nat_abs, Bool, ◌||◌}
use Rattle.std.proofs.lemmas.Int.{ints}
use Rattle.geom_core.specs.Limits.{IsCoordinate}
use Rattle.plane_core.specs.declared.edge.Edge.{Edge}
use Rattle.plane_core.specs.declared.vertex.Vertex.{Vertex}
use Rattle.plane_core.specs.Points.{at, is_on, is_at}
use Rattle.plane_core.specs.Figures.{Figure, edges, edges_of, IsGeometry, IsPath, IsRing}
use Rattle.plane_core.specs.Figures.Figure.{Points, Lines, Areas}
use Rattle.noding_core.specs.Nodes.{IsAmong}
use Rattle.noding_core.proofs.AmongLemmas.{among_flat}
use Rattle.noding_core.proofs.FlipLemmas.{is_at-itself}
use Rattle.noding_core.proofs.NodeLemmas.{all_among}
use Rattle.noding_core.proofs.OffPartLemmas.{first_on}
use Rattle.distance_core.specs.Limits.{greatest_distance, greatest_gap}
use Rattle.distance_core.specs.Distances.{difference, scaled_square, scale_of, AreWithin}
use Rattle.distance_core.specs.ShapePoints.{IsPointOf}
use Rattle.distance_core.proofs.SquareLemmas.{square_bound}
use Rattle.geometry_distance_core.proofs.SkeletonLemmas.{skeleton_in, some_any}

-- a vertex that is a point of the geometry
record HasVertex (g : Figure) : Type 0 where
  vertex : Vertex
  is : IsPointOf g (at vertex)

either : (b c : Bool) → b ≡ true → (b || c) ≡ true
either b c h = ap (λ (t : Bool). t || c) h

by_edge : (g : Figure) (e : Edge) → IsAmong e (edges_of g) → HasVertex g
by_edge g e one = record {
  vertex = e.a;
  is = skeleton_in g (at e.a) (either _ _ (some_any (λ f. is_on f (at e.a)) e (edges_of g) one (first_on e (at e.a) (is_at-itself e.a))));
}

first_edge : (path : List Vertex) → 0 < length (edges path) → (e : Edge) × IsAmong e (edges path)
first_edge [] long = absurd (omega (arith, long))
first_edge (a ∷ []) long = absurd (omega (arith, long))
first_edge (a ∷ b ∷ rest) long = (record { a = a; b = b }, inl refl)

some_vertex : (g : Figure) → IsGeometry g → HasVertex g
some_vertex (Points []) good = absurd (omega (arith, good))
some_vertex (Points (v ∷ vs)) good = record {
  vertex = v;
  is = skeleton_in (Points (v ∷ vs)) (at v) (some_any (λ u. is_at u (at v)) v (v ∷ vs) (inl refl) (is_at-itself v));
}
some_vertex (Lines []) good = absurd (let none = good.0 in omega (arith, none))
some_vertex (Lines (path ∷ paths)) good =
    let e = first_edge path (all_among IsPath path (path ∷ paths) good.1 (inl refl)).long in
    by_edge (Lines (path ∷ paths)) e.0 (among_flat edges path e.0 (path ∷ paths) (inl refl) e.1)
some_vertex (Areas []) good = absurd (let none = good.0 in omega (arith, none))
some_vertex (Areas (ring ∷ rings)) good =
    let e = first_edge ring (all_among IsRing ring (ring ∷ rings) good.1 (inl refl)).path.long in
    by_edge (Areas (ring ∷ rings)) e.0 (among_flat edges ring e.0 (ring ∷ rings) (inl refl) e.1)

-- two coordinates differ by at most the side of the plane
coordinates_within : (x y : ℤ) → IsCoordinate x → IsCoordinate y → nat_abs (difference x 1 y 1) ≤ greatest_gap
coordinates_within x y in_x in_y = let a = in_x.0 in let b = in_x.1 in let c = in_y.0 in let d = in_y.1 in omega (arith, ints, a, b, c, d)

vertices_within : (v w : Vertex) → scaled_square (at v) (at w) ≤ (greatest_distance * greatest_distance) * scale_of (at v) (at w)
vertices_within v w =
    let along_x = square_bound _ (coordinates_within v.x w.x v.x_in_range w.x_in_range) in
    let along_y = square_bound _ (coordinates_within v.y w.y v.y_in_range w.y_in_range) in
    omega (arith, along_x, along_y)

pub within_greatest : (g h : Figure) → IsGeometry g → IsGeometry h → AreWithin greatest_distance (IsPointOf g) (IsPointOf h)
within_greatest g h good_g good_h =
    let v = some_vertex g good_g in
    let w = some_vertex h good_h in
    record {
      first = at v.vertex;
      second = at w.vertex;
      first_wide = omega arith;
      second_wide = omega arith;
      first_in = v.is;
      second_in = w.is;
      near = vertices_within v.vertex w.vertex;
    }
