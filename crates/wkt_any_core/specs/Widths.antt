-- The test of whether the vertices of a ring are on one line.
use Rattle.std.specs.Prelude.{Bool, true, false, not, pos, List, [], ◌∷◌}
use Rattle.std.specs.List.{list_all}
use Rattle.std.specs.Ordering.{int_eq}
use Rattle.plane_core.specs.declared.edge.Edge.{Edge}
use Rattle.plane_core.specs.declared.vertex.Vertex.{Vertex}
use Rattle.plane_core.specs.declared.outline.Kind.{Kind}
use Rattle.plane_core.specs.declared.outline.Kind.TheVariants.{Areas}
use Rattle.plane_core.specs.Points.{at, side}
use Rattle.plane_core.specs.declared.rings.Rings.{Rings}
use Rattle.plane_core.specs.declared.rings.Rings.TheVariants.{Proper}

abbrev pub is_level : Edge → Vertex → Bool
is_level e v = int_eq (side e (at v)) (pos 0)

-- some vertex is not on the line of the first two
abbrev pub is_wide : List Vertex → Bool
is_wide [] = false
is_wide (a ∷ []) = false
is_wide (a ∷ b ∷ rest) = not (list_all (is_level (record { a = a; b = b })) rest)

-- the test of whether a rule allows the paths, if they are rings
abbrev pub are_allowed : Kind → Rings → List (List Vertex) → Bool
are_allowed Areas Proper paths = list_all is_wide paths
are_allowed _ _ paths = true
