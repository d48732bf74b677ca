-- The matrix of two geometries without a common point, which depends only on their classes.
use Rattle.std.specs.Prelude.{ℕ, ◌⊎◌, List, [], ◌∷◌}
use Rattle.relation_core.specs.declared.extent.Extent.{Extent}
use Rattle.relation_core.specs.declared.extent.Extent.TheVariants.{Empty, Point, Line, Area}
use Rattle.relation_core.specs.declared.matrix.Matrix.{Matrix}
use Rattle.relation_core.specs.declared.relation.Relation.{Relation}
use Rattle.relation_core.specs.Relations.{FitsOne, masks}
use Rattle.any_relation_core.specs.declared.class.Class.{Class}
use Rattle.any_relation_core.specs.declared.class.Class.TheVariants.{Points, OpenLines}
use Rattle.any_relation_core.specs.declared.class.Class.TheVariants.{ClosedLines, Areas}
use Rattle.any_relation_core.specs.declared.class.Class.TheVariants.{HollowAreas}
use Rattle.plane_core.specs.declared.rings.Rings.{Rings}
use Rattle.plane_core.specs.declared.rings.Rings.TheVariants.{Proper, EvenOdd}

abbrev pub class_dim : Class → ℕ
class_dim Points = 0
class_dim OpenLines = 1
class_dim ClosedLines = 1
class_dim Areas = 2
class_dim HollowAreas = 2

-- the dimension of the interior of a geometry of the class
abbrev pub interior_of : Class → Extent
interior_of Points = Point
interior_of OpenLines = Line
interior_of ClosedLines = Line
interior_of Areas = Area
interior_of HollowAreas = Empty

-- the dimension of the boundary of a geometry of the class
abbrev pub boundary_of : Class → Extent
boundary_of Points = Empty
boundary_of OpenLines = Point
boundary_of ClosedLines = Empty
boundary_of Areas = Line
boundary_of HollowAreas = Line

-- the matrix of two geometries of these classes without a common point
abbrev pub apart_matrix : Class → Class → Matrix
apart_matrix c d = record {
  rows = record {
    interior = record { interior = Empty; boundary = Empty; exterior = interior_of c };
    boundary = record { interior = Empty; boundary = Empty; exterior = boundary_of c };
    exterior = record {
      interior = interior_of d;
      boundary = boundary_of d;
      exterior = Area;
    };
  };
}

-- areas whose rings are proper have an interior
abbrev pub classes : Rings → List Class
classes Proper = Points ∷ OpenLines ∷ ClosedLines ∷ Areas ∷ []
classes EvenOdd = Points ∷ OpenLines ∷ ClosedLines ∷ Areas ∷ HollowAreas ∷ []

-- some class in the list satisfies the condition
abbrev pub SomeClass : (Class → Type 0) → List Class → Type 0
SomeClass P [] = ⊥
SomeClass P (c ∷ cs) = P c ⊎ SomeClass P cs

-- one of the masks of a relation fits the matrix of disjoint geometries of these classes
abbrev pub FitsApart : Relation → Class → Class → Type 0
FitsApart relation c d = FitsOne (masks relation (class_dim c) (class_dim d)) (apart_matrix c d)

-- the same, for some class of the second geometry
abbrev pub AllowsBeside : Rings → Relation → Class → Type 0
AllowsBeside rings relation c = SomeClass (λ d. FitsApart relation c d) (classes rings)

-- the same, for some classes of both geometries
abbrev pub AllowsApart : Rings → Relation → Type 0
AllowsApart rings relation = SomeClass (λ c. AllowsBeside rings relation c) (classes rings)
