-- The parts of a geometry in terms of its outline.
use Rattle.std.specs.Prelude.{◌≡◌, ℕ, Bool, List, [], ◌∷◌, count_by, if◌then◌else◌}
use Rattle.std.specs.List.{list_any, flat_map}
use Rattle.plane_core.specs.declared.vertex.Vertex.{Vertex}
use Rattle.plane_core.specs.declared.edge.Edge.{Edge}
use Rattle.plane_core.specs.declared.part.Part.{Part}
use Rattle.plane_core.specs.declared.part.Part.TheVariants.{Interior, Boundary, Exterior}
use Rattle.plane_core.specs.declared.outline.Kind.{Kind}
use Rattle.plane_core.specs.declared.outline.Kind.TheVariants.{Points as Dots}
use Rattle.plane_core.specs.declared.outline.Kind.TheVariants.{Lines as Polylines, Areas as Rings}
use Rattle.plane_core.specs.declared.outline.Outline.{Outline}
use Rattle.plane_core.specs.declared.outline.Scan.{Scan}
use Rattle.plane_core.specs.Points.{Point, is_on, is_below, is_at_or_below, is_at}
use Rattle.plane_core.specs.Figures.{Figure, edges_of, points_part, areas_part, is_odd, last_or}
use Rattle.plane_core.specs.Figures.Figure.{Points, Lines, Areas}

abbrev pub kind_of : Figure → Kind
kind_of (Points vs) = Dots
kind_of (Lines paths) = Polylines
kind_of (Areas rings) = Rings

-- the first and the last vertex
abbrev pub path_ends : List Vertex → List Vertex
path_ends [] = []
path_ends (a ∷ rest) = a ∷ last_or a rest ∷ []

-- points, or both ends of each polyline
abbrev pub ends_of : Figure → List Vertex
ends_of (Points vs) = vs
ends_of (Lines paths) = flat_map path_ends paths
ends_of (Areas rings) = []

-- the outline of a geometry
pub record IsOutlineOf (g : Figure) (o : Outline) : Type 0 where
  pub kind : o.kind ≡ kind_of g
  pub edges : o.edges.items ≡ edges_of g
  pub ends : o.ends.items ≡ ends_of g

-- how a set of edges lies to a point
pub record IsScan (es : List Edge) (p : Point) (s : Scan) : Type 0 where
  pub on : s.is_on ≡ list_any (λ e. is_on e p) es
  pub below : s.is_odd_below ≡ is_odd (count_by (λ e. is_below e p) es)
  pub at_or_below : s.is_odd_at_or_below ≡ is_odd (count_by (λ e. is_at_or_below e p) es)

-- how many vertices equal a point
abbrev pub count_at : List Vertex → Point → ℕ
count_at vs p = count_by (λ v. is_at v p) vs

abbrev pub inside : Bool → Part
inside is_odd = if is_odd then Interior else Exterior

abbrev pub ends_part : List Vertex → List Edge → Point → Part
ends_part ends es p =
    if is_odd (count_at ends p) then Boundary
    else (if list_any (λ e. is_on e p) es then Interior else Exterior)

abbrev pub part_by : Kind → List Vertex → List Edge → Point → Part
part_by Dots ends es p = points_part ends p
part_by Polylines ends es p = ends_part ends es p
part_by Rings ends es p = areas_part es p

abbrev pub outline_part : Outline → Point → Part
outline_part o p = part_by o.kind o.ends.items o.edges.items p

abbrev pub rings_above : List Edge → Point → Part
rings_above es p = inside (is_odd (count_by (λ e. is_at_or_below e p) es))

abbrev pub above_by : Kind → List Edge → Point → Part
above_by Dots es p = Exterior
above_by Polylines es p = Exterior
above_by Rings es p = rings_above es p

abbrev pub outline_above : Outline → Point → Part
outline_above o p = above_by o.kind o.edges.items p
