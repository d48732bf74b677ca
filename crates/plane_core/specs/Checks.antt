-- The tests of whether vertices and the ends of paths form a geometry.
use Rattle.std.specs.Prelude.{ℕ, Bool, ◌&&◌, ◌==◌, not, true, nat_lt, nat_le, List, [], ◌∷◌, length}
use Rattle.std.specs.List.{list_all}
use Rattle.std.specs.Ordering.{int_eq}
use Rattle.plane_core.specs.declared.vertex.Vertex.{Vertex}
use Rattle.plane_core.specs.declared.edge.Edge.{Edge}
use Rattle.plane_core.specs.declared.outline.Kind.{Kind}
use Rattle.plane_core.specs.declared.outline.Kind.TheVariants.{Points as Dots}
use Rattle.plane_core.specs.declared.outline.Kind.TheVariants.{Lines as Polylines, Areas as Rings}
use Rattle.plane_core.specs.Figures.{edges, last_or}
use Rattle.plane_core.specs.Stored.{paths_of}

abbrev pub are_cuts : ℕ → List ℕ → ℕ → Bool
are_cuts start [] n = start == n
are_cuts start (end ∷ ends) n = nat_le start end && are_cuts end ends n

abbrev pub are_cuts_for : Kind → List ℕ → ℕ → Bool
are_cuts_for Dots ends n = true
are_cuts_for Polylines ends n = are_cuts 0 ends n
are_cuts_for Rings ends n = are_cuts 0 ends n

abbrev pub is_same_vertex : Vertex → Vertex → Bool
is_same_vertex v w = int_eq v.x w.x && int_eq v.y w.y

abbrev pub has_length : Edge → Bool
has_length e = not (is_same_vertex e.a e.b)

abbrev pub is_path : List Vertex → Bool
is_path path = list_all has_length (edges path) && nat_le 2 (length path)

abbrev pub is_closed : List Vertex → Bool
is_closed [] = true
is_closed (a ∷ rest) = is_same_vertex (last_or a rest) a

abbrev pub is_ring : List Vertex → Bool
is_ring ring = is_path ring && is_closed ring

abbrev pub is_filled : Kind → List ℕ → List Vertex → Bool
is_filled Dots ends vs = nat_lt 0 (length vs)
is_filled Polylines ends vs = nat_lt 0 (length ends) && list_all is_path (paths_of 0 ends vs)
is_filled Rings ends vs = nat_lt 0 (length ends) && list_all is_ring (paths_of 0 ends vs)

abbrev pub is_stored : Kind → List ℕ → List Vertex → Bool
is_stored kind ends vs = are_cuts_for kind ends (length vs) && is_filled kind ends vs
