-- Rings that neither cross nor run along each other: they touch only at ends of edges.
use Rattle.std.specs.Prelude.{◌≡◌, ⊤, ◌<◌, Bool, ◌||◌, true, List, AllPairs}
use Rattle.std.specs.List.{flat_map}
use Rattle.plane_core.specs.declared.edge.Edge.{Edge}
use Rattle.plane_core.specs.declared.rings.Rings.{Rings}
use Rattle.plane_core.specs.declared.rings.Rings.TheVariants.{Proper, EvenOdd}
use Rattle.plane_core.specs.Points.{Point, is_on, is_at, IsSamePlace}
use Rattle.plane_core.specs.Figures.{Figure, IsGeometry, edges}
use Rattle.plane_core.specs.Figures.Figure.{Points, Lines, Areas}

-- a point of both edges
pub record IsShared (e f : Edge) (p : Point) : Type 0 where
  pub wide : 0 < p.w
  pub first : is_on e p ≡ true
  pub second : is_on f p ≡ true

-- the point is an end of the edge
abbrev pub is_end : Edge → Point → Bool
is_end e p = is_at e.a p || is_at e.b p

-- the edges share at most one point, which is an end of one of them
pub record MeetProperly (e f : Edge) : Type 0 where
  pub one_place : (p q : Point) → IsShared e f p → IsShared e f q → IsSamePlace p q
  pub at_end : (p : Point) → IsShared e f p → (is_end e p || is_end f p) ≡ true

-- each two edges, at different indexes of the list, meet properly
abbrev pub AreProper : List Edge → Type 0
AreProper es = AllPairs MeetProperly es

-- the edges of all rings of an area pairwise meet properly; other geometries have no rings
abbrev pub HasProperRings : Figure → Type 0
HasProperRings (Points vs) = ⊤
HasProperRings (Lines paths) = ⊤
HasProperRings (Areas rings) = AreProper (flat_map edges rings)

-- the rings of a geometry are proper, if they have to be
abbrev pub TakesRings : Rings → Figure → Type 0
TakesRings Proper g = HasProperRings g
TakesRings EvenOdd g = ⊤

-- a geometry whose rings satisfy the rule
abbrev pub IsGeometryOf : Rings → Figure → Type 0
IsGeometryOf rings g = IsGeometry g × TakesRings rings g
