-- The canonical text of a shape.
use Rattle.std.specs.Prelude.{◌==◌, ℕ, List, [], ◌∷◌, ◌++◌, codes, if◌then◌else◌}
use Rattle.std.specs.List.{flat_map}
use Rattle.geom_core.specs.declared.shape.Shape.{Shape}
use Rattle.geom_core.specs.Shapes.{x1, y1, x2, y2, dim_of}
use Rattle.number_core.specs.declared.scale.Scale.{Scale}
use Rattle.number_core.specs.CanonicalNumbers.{number}
use Rattle.wkt_core.specs.declared.position.Position.{Position}
use Rattle.wkt_core.specs.Drawing.{corner, corners}

-- the two numbers of a point, with a space between them
abbrev pub pair : Scale → Position → List ℕ
pair scale p = number scale p.x ++ codes " " ++ number scale p.y

-- points with a comma and a space between them
abbrev pub listed : Scale → List Position → List ℕ
listed scale [] = []
listed scale (p ∷ ps) = pair scale p ++ flat_map (λ q. codes ", " ++ pair scale q) ps

-- the lowest and the highest corner
abbrev pub lowest : Shape → Position
lowest s = corner (x1 s) (y1 s)

abbrev pub highest : Shape → Position
highest s = corner (x2 s) (y2 s)

-- the canonical text: a point, a segment from its lowest corner, or a ring from there
abbrev pub canonical : Scale → Shape → List ℕ
canonical scale s =
    if dim_of s == 0 then codes "POINT (" ++ listed scale (lowest s ∷ []) ++ codes ")"
    else if dim_of s == 1
    then codes "LINESTRING (" ++ listed scale (lowest s ∷ highest s ∷ []) ++ codes ")"
    else codes "POLYGON ((" ++ listed scale (corners s ++ lowest s ∷ []) ++ codes "))"
