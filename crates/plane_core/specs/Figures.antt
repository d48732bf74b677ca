-- Geometries as lists of vertices, and their interior, boundary and exterior, as sets of points
-- (OGC 06-103r4, 6.1.3 to 6.1.14).
use Rattle.std.specs.Prelude.{◌≡◌, ⊤, ℕ, ◌+◌, ◌<◌, ◌%◌, Bool, cond, List, [], ◌∷◌, ◌==◌}
use Rattle.std.specs.Prelude.{count_by, sum_by, length, if◌then◌else◌, All}
use Rattle.std.specs.List.{list_any, flat_map}
use Rattle.plane_core.specs.declared.vertex.Vertex.{Vertex}
use Rattle.plane_core.specs.declared.edge.Edge.{Edge}
use Rattle.plane_core.specs.declared.part.Part.{Part}
use Rattle.plane_core.specs.declared.part.Part.TheVariants.{Interior, Boundary, Exterior}
use Rattle.plane_core.specs.Points.{Point, is_on, is_below, is_at_or_below, is_at}

-- points, polylines, or rings, whose last vertex equals their first
pub data Figure : Type 0 where
  Points : List Vertex → Figure
  Lines : List (List Vertex) → Figure
  Areas : List (List Vertex) → Figure

-- from each vertex to the next
abbrev pub edges : List Vertex → List Edge
edges [] = []
edges (a ∷ []) = []
edges (a ∷ b ∷ rest) = record { a = a; b = b } ∷ edges (b ∷ rest)

abbrev pub edges_of : Figure → List Edge
edges_of (Points vs) = []
edges_of (Lines paths) = flat_map edges paths
edges_of (Areas rings) = flat_map edges rings

abbrev pub points_of : Figure → List Vertex
points_of (Points vs) = vs
points_of (Lines paths) = []
points_of (Areas rings) = []

abbrev pub dim_of : Figure → ℕ
dim_of (Points vs) = 0
dim_of (Lines paths) = 1
dim_of (Areas rings) = 2

-- the two ends of an edge differ
abbrev pub HasLength : Edge → Type 0
HasLength e = ¬ ((e.a.x ≡ e.b.x) × (e.a.y ≡ e.b.y))

-- at least two vertices, and consecutive ones differ
pub record IsPath (path : List Vertex) : Type 0 where
  pub long : 0 < length (edges path)
  pub steps : All HasLength (edges path)

abbrev pub last_or : Vertex → List Vertex → Vertex
last_or v [] = v
last_or v (a ∷ rest) = last_or a rest

-- the last vertex equals the first
abbrev pub IsClosed : List Vertex → Type 0
IsClosed [] = ⊤
IsClosed (a ∷ rest) = last_or a rest ≡ a

pub record IsRing (ring : List Vertex) : Type 0 where
  pub path : IsPath ring
  pub closed : IsClosed ring

abbrev pub IsGeometry : Figure → Type 0
IsGeometry (Points vs) = 0 < length vs
IsGeometry (Lines paths) = (0 < length paths) × All IsPath paths
IsGeometry (Areas rings) = (0 < length rings) × All IsRing rings

abbrev pub is_odd : ℕ → Bool
is_odd n = n % 2 == 1

-- how many of the two ends of a polyline equal the point
abbrev pub last_count : List Vertex → Point → ℕ
last_count [] p = 0
last_count (a ∷ []) p = cond (is_at a p) 1 0
last_count (a ∷ b ∷ rest) p = last_count (b ∷ rest) p

abbrev pub end_count : Point → List Vertex → ℕ
end_count p [] = 0
end_count p (a ∷ rest) = cond (is_at a p) 1 0 + last_count (a ∷ rest) p

abbrev pub points_part : List Vertex → Point → Part
points_part vs p = if list_any (λ v. is_at v p) vs then Interior else Exterior

-- the boundary of polylines: the points that are ends of an odd number of them
abbrev pub lines_part : List (List Vertex) → List Edge → Point → Part
lines_part paths es p =
    if is_odd (sum_by (end_count p) paths) then Boundary
    else (if list_any (λ e. is_on e p) es then Interior else Exterior)

-- the interior of rings: the points above an odd number of edges
abbrev pub areas_part : List Edge → Point → Part
areas_part es p =
    if list_any (λ e. is_on e p) es then Boundary
    else (if is_odd (count_by (λ e. is_below e p) es) then Interior else Exterior)

abbrev pub part_of : Figure → Point → Part
part_of (Points vs) p = points_part vs p
part_of (Lines paths) p = lines_part paths (flat_map edges paths) p
part_of (Areas rings) p = areas_part (flat_map edges rings) p

-- the part in which the points just above a point lie, unless a vertical edge leads up from it
abbrev pub part_above : Figure → Point → Part
part_above (Points vs) p = Exterior
part_above (Lines paths) p = Exterior
part_above (Areas rings) p =
    if is_odd (count_by (λ e. is_at_or_below e p) (flat_map edges rings)) then Interior
    else Exterior
