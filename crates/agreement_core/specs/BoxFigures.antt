-- Shapes of the grid as geometries of the plane: a point, a line along an axis, or the ring of a
-- rectangle, with any number of vertices along them.
use Rattle.std.specs.Prelude.{◌≡◌, ◌⊎◌, ◌<ℤ◌, ⊤, ℤ, List, [], ◌∷◌, ◌++◌}
use Rattle.geom_core.specs.declared.span.Span.{Span}
use Rattle.geom_core.specs.declared.shape.Shape.{Shape}
use Rattle.geom_core.specs.Shapes.{dim_of}
use Rattle.plane_core.specs.declared.vertex.Vertex.{Vertex}
use Rattle.plane_core.specs.Figures.{Figure, Points, Lines, Areas}

pub record StandsAt (x y : ℤ) (v : Vertex) : Type 0 where
  pub first : v.x ≡ x
  pub second : v.y ≡ y

-- the two numbers are the ends of an interval, in either order
abbrev pub AreEndsOf : Span → ℤ → ℤ → Type 0
AreEndsOf n a b = ((a ≡ n.lo) × (b ≡ n.hi)) ⊎ ((a ≡ n.hi) × (b ≡ n.lo))

-- two opposite corners of a shape
pub record AreOpposite (s : Shape) (a b : Vertex) : Type 0 where
  pub along_x : AreEndsOf s.x a.x b.x
  pub along_y : AreEndsOf s.y a.y b.y

-- the four sides of a ring through these vertices lie along the two axes in turn
abbrev pub AreLevelFirst : Vertex → Vertex → Vertex → Vertex → Type 0
AreLevelFirst a b c d = (a.y ≡ b.y) × (b.x ≡ c.x) × (c.y ≡ d.y) × (d.x ≡ a.x)

abbrev pub AreUprightFirst : Vertex → Vertex → Vertex → Vertex → Type 0
AreUprightFirst a b c d = (a.x ≡ b.x) × (b.y ≡ c.y) × (c.x ≡ d.x) × (d.y ≡ a.y)

-- and the ring ends where it begins
pub record GoesRound (a b c d e : Vertex) : Type 0 where
  pub sides : AreLevelFirst a b c d ⊎ AreUprightFirst a b c d
  pub end_x : e.x ≡ a.x
  pub end_y : e.y ≡ a.y

-- strictly between two numbers, whichever of them is less
abbrev pub IsBetween : ℤ → ℤ → ℤ → Type 0
IsBetween a z b = ((a <ℤ z) × (z <ℤ b)) ⊎ ((b <ℤ z) × (z <ℤ a))

-- v lies within the segment from a to b, which is parallel to an axis
abbrev pub LiesWithin : Vertex → Vertex → Vertex → Type 0
LiesWithin a v b =
    ((a.y ≡ v.y) × (v.y ≡ b.y) × IsBetween a.x v.x b.x)
    ⊎ ((a.x ≡ v.x) × (v.x ≡ b.x) × IsBetween a.y v.y b.y)

-- from a through these vertices to b, each within the rest of the way
abbrev pub GoesStraight : Vertex → List Vertex → Vertex → Type 0
GoesStraight a [] b = ⊤
GoesStraight a (v ∷ vs) b = LiesWithin a v b × GoesStraight v vs b

-- the path goes straight from one end of the shape to the other
pub record RunsAlong (s : Shape) (path : List Vertex) : Type 0 where
  pub first : Vertex
  pub between : List Vertex
  pub last : Vertex
  pub vertices : path ≡ first ∷ between ++ last ∷ []
  pub straight : GoesStraight first between last
  pub ends : AreOpposite s first last

-- the ring goes through these vertices in order, from any of them and back to it
pub record IsRingOf (vs : List Vertex) (ring : List Vertex) : Type 0 where
  pub before : List Vertex
  pub start : Vertex
  pub after : List Vertex
  pub vertices : vs ≡ before ++ start ∷ after
  pub closed : ring ≡ start ∷ after ++ (before ++ start ∷ [])

-- the ring goes through the corners a, b, c and d of the rectangle, straight from each to the next
pub record RunsAround (s : Shape) (ring : List Vertex) : Type 0 where
  pub a : Vertex
  pub b : Vertex
  pub c : Vertex
  pub d : Vertex
  pub round : GoesRound a b c d a
  pub corners : AreOpposite s a c
  pub ab : List Vertex
  pub bc : List Vertex
  pub cd : List Vertex
  pub da : List Vertex
  pub sides : GoesStraight a ab b × GoesStraight b bc c × GoesStraight c cd d × GoesStraight d da a
  pub vertices : IsRingOf (a ∷ ab ++ (b ∷ bc ++ (c ∷ cd ++ (d ∷ da)))) ring

-- the geometry is the shape: its point, a path along it, or a ring around it
abbrev pub IsBoxFigure : Shape → Figure → Type 0
IsBoxFigure s (Points (a ∷ [])) = AreOpposite s a a × (dim_of s ≡ 0)
IsBoxFigure s (Lines (path ∷ [])) = RunsAlong s path × (dim_of s ≡ 1)
IsBoxFigure s (Areas (ring ∷ [])) = RunsAround s ring × (dim_of s ≡ 2)
IsBoxFigure s _ = ⊥
