-- Points, polylines and areas of any direction as SVG paths.
use Rattle.std.specs.Prelude.{◌==◌, ℕ, ◌-ℤ◌, Bool, List, [], ◌∷◌, ◌++◌, codes, if◌then◌else◌}
use Rattle.std.specs.List.{flat_map}
use Rattle.plane_core.specs.declared.vertex.Vertex.{Vertex}
use Rattle.plane_core.specs.Figures.{Figure, dim_of}
use Rattle.plane_core.specs.Vertices.{paths_in}
use Rattle.any_geometry_core.specs.declared.geometry.AnyGeometry.{AnyGeometry}
use Rattle.any_geometry_core.specs.AnyGeometries.{figure_of, box_of}
use Rattle.draw_core.specs.Drawings.{Drawing, drawing_by}
use Rattle.draw_core.specs.Outlines.{numbered, start_of}
use Rattle.draw_core.specs.Views.{View}

-- a command of a path that goes to a vertex
abbrev pub moved_to : View → List ℕ → Vertex → List ℕ
moved_to view command v =
    numbered command (v.x -ℤ view.left) ++ numbered (codes " ") (view.top -ℤ v.y)

-- a point
abbrev pub dot : View → Vertex → List ℕ
dot view v = moved_to view (codes "M") v ++ codes "h0v0"

-- a polyline: from its first vertex to each of the others in turn
abbrev pub polyline : View → List Vertex → List ℕ
polyline view [] = []
polyline view (v ∷ vs) =
    moved_to view (codes "M") v ++ flat_map (moved_to view (codes "L")) vs

-- a ring: such a line, closed
abbrev pub ring : View → List Vertex → List ℕ
ring view vs = polyline view vs ++ codes "z"

-- a path of a geometry of a dimension: its points, a polyline or a ring
abbrev pub path_by : View → ℕ → List Vertex → List ℕ
path_by view dim vs =
    if dim == 0 then flat_map (dot view) vs
    else if dim == 1 then polyline view vs
    else ring view vs

-- all paths of a geometry
abbrev pub figure_path : View → Figure → List ℕ
figure_path view g = flat_map (path_by view (dim_of g)) (paths_in g)

-- the start of a path element by the dimension: a line isn't filled, and an area is filled by the
-- even-odd rule (SVG 1.1, section 11.3)
abbrev pub figure_start : ℕ → Bool → List ℕ
figure_start dim is_match =
    if dim == 0 then start_of 0 is_match
    else if dim == 1
    then (if is_match then codes "<path fill=\"none\" class=\"match\" d=\""
    else codes "<path fill=\"none\" d=\"")
    else (if is_match then codes "<path fill-rule=\"evenodd\" class=\"match\" d=\""
    else codes "<path fill-rule=\"evenodd\" d=\"")

-- a geometry of any kind is drawn with all its paths
abbrev pub any_drawing : Drawing AnyGeometry
any_drawing =
    drawing_by box_of (λ g. figure_start (dim_of (figure_of g)))
    (λ view g. figure_path view (figure_of g))
