-- The canonical text of a geometry.
use Rattle.std.specs.Prelude.{◌==◌, ℕ, zero, suc, Bool, true, false, List, [], ◌∷◌, ◌++◌, length}
use Rattle.std.specs.Prelude.{codes, if◌then◌else◌}
use Rattle.std.specs.List.{flat_map}
use Rattle.plane_core.specs.declared.vertex.Vertex.{Vertex}
use Rattle.plane_core.specs.Figures.{Figure}
use Rattle.plane_core.specs.Figures.Figure.{Points, Lines, Areas}
use Rattle.number_core.specs.declared.scale.Scale.{Scale}
use Rattle.wkt_core.specs.Canonical.{pair}
use Rattle.wkt_any_core.specs.Drawing.{position_of}

-- items with a comma and a space between them
abbrev pub separated : {X : Type 0} → (X → List ℕ) → List X → List ℕ
separated spell [] = []
separated spell (x ∷ xs) = spell x ++ flat_map (λ y. codes ", " ++ spell y) xs

-- the separator before the item at an index
abbrev pub separator : ℕ → List ℕ
separator zero = []
separator (suc i) = codes ", "

abbrev pub vertex_text : Scale → Vertex → List ℕ
vertex_text scale v = pair scale (position_of v)

-- vertices in parentheses
abbrev pub path_text : Scale → List Vertex → List ℕ
path_text scale path = codes "(" ++ separated (vertex_text scale) path ++ codes ")"

abbrev pub point_text : Scale → Vertex → List ℕ
point_text scale v = path_text scale (v ∷ [])

-- a polyline, or a polygon of one ring
abbrev pub part_text : Scale → Bool → List Vertex → List ℕ
part_text scale is_ring path =
    if is_ring then codes "(" ++ path_text scale path ++ codes ")" else path_text scale path

abbrev pub points_text : Scale → List Vertex → List ℕ
points_text scale vs =
    if length vs == 1 then codes "POINT " ++ separated (point_text scale) vs
    else codes "MULTIPOINT (" ++ separated (point_text scale) vs ++ codes ")"

abbrev pub lines_text : Scale → List (List Vertex) → List ℕ
lines_text scale paths =
    if length paths == 1 then codes "LINESTRING " ++ separated (part_text scale false) paths
    else codes "MULTILINESTRING (" ++ separated (part_text scale false) paths ++ codes ")"

abbrev pub areas_text : Scale → List (List Vertex) → List ℕ
areas_text scale rings =
    if length rings == 1 then codes "POLYGON " ++ separated (part_text scale true) rings
    else codes "MULTIPOLYGON (" ++ separated (part_text scale true) rings ++ codes ")"

-- the canonical text: of one part, or of many, with each ring as a polygon of its own
abbrev pub canonical : Scale → Figure → List ℕ
canonical scale (Points vs) = points_text scale vs
canonical scale (Lines paths) = lines_text scale paths
canonical scale (Areas rings) = areas_text scale rings
