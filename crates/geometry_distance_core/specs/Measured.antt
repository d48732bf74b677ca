-- Geometries that are indexed for their distances to others.
use Rattle.std.specs.Prelude.{◌≡◌, ℕ, zero, suc, ◌<◌, Bool, true, false, ◌&&◌, List, take, map}
use Rattle.geom_core.specs.declared.shape.Shape.{Shape}
use Rattle.plane_core.specs.declared.vertex.Vertex.{Vertex}
use Rattle.plane_core.specs.declared.edge.Edge.{Edge}
use Rattle.plane_core.specs.declared.outline.Outline.{Outline}
use Rattle.plane_core.specs.declared.part.Part.{Part}
use Rattle.plane_core.specs.declared.part.Part.TheVariants.{Interior, Boundary, Exterior}
use Rattle.plane_core.specs.Points.{Point, at}
use Rattle.plane_core.specs.Figures.{Figure, IsGeometry, part_of, dim_of}
use Rattle.plane_core.specs.Outlines.{outline_part}
use Rattle.plane_core.specs.Vertices.{paths_in}
use Rattle.noding_core.specs.Nodes.{IsAmong}
use Rattle.distance_core.specs.ShapePoints.{HasPoint}
use Rattle.geometry_distance_core.specs.declared.index.GeometryIndex.{GeometryIndex}
use Rattle.geometry_distance_core.specs.NearestPairs.{Pairs, is_on_any}
use Rattle.geometry_distance_core.specs.Skeletons.{is_on_skeleton, IsOnSkeleton}

-- an outline with the edges of a geometry, and its single points as edges without a length
pub record IsSkeletonOf (g : Figure) (o : Outline) : Type 0 where
  pub edges : (p : Point) → is_on_any o.edges.items p ≡ is_on_skeleton g p
  pub part : (p : Point) → outline_part o p ≡ part_of g p

-- single points as edges without a length
abbrev pub ArePointEdges : List Vertex → List Edge → Type 0
ArePointEdges vs es = es ≡ map (λ v. record { a = v; b = v }) vs

-- a geometry with such an outline and a box that holds it
pub record IsMeasured (g : Figure) (o : Outline) (s : Shape) : Type 0 where
  pub geometry : IsGeometry g
  pub skeleton : IsSkeletonOf g o
  pub box : (p : Point) → 0 < p.w → IsOnSkeleton g p → HasPoint s p

-- the index of a geometry has such an outline and such a box
abbrev pub IsIndexOf : Figure → GeometryIndex → Type 0
IsIndexOf g index = IsMeasured g index.edges index.bounds

-- a point of an edge or a single point of each of two geometries
abbrev pub of_skeletons : Figure → Figure → Pairs
of_skeletons g h p q = is_on_skeleton g p && is_on_skeleton h q

-- all of a list of single points, by their dimension, or the first vertex of a path
abbrev pub starts_in : ℕ → List Vertex → List Vertex
starts_in zero path = path
starts_in (suc n) path = take 1 path

abbrev pub is_within : Part → Bool
is_within Interior = true
is_within Boundary = true
is_within Exterior = false

-- a single point of the one geometry, or the first vertex of one of its paths, is a point of the
-- other
pub record HasStartIn (g h : Figure) : Type 0 where
  pub path : List Vertex
  pub start : Vertex
  pub one : IsAmong path (paths_in g)
  pub first : IsAmong start (starts_in (dim_of g) path)
  pub within : is_within (part_of h (at start)) ≡ true

-- the same, and the other is an area
pub record HasStartInArea (g h : Figure) : Type 0 where
  pub area : dim_of h ≡ 2
  pub start : HasStartIn g h
