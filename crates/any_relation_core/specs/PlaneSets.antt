-- Relations of two geometries as sets of points of the plane (OGC 06-103r4, 6.1.15.3).
use Rattle.std.specs.Prelude.{◌≡◌, ◌≢◌, ◌<◌, ◌⊎◌}
use Rattle.relation_core.specs.declared.extent.Extent.TheVariants.{Empty}
use Rattle.relation_core.specs.declared.matrix.Matrix.{Matrix}
use Rattle.relation_core.specs.declared.relation.Relation.{Relation}
use Rattle.relation_core.specs.declared.relation.Relation.TheVariants.{Mask, Disjoint, Intersects}
use Rattle.relation_core.specs.declared.relation.Relation.TheVariants.{Touches, Crosses, Within}
use Rattle.relation_core.specs.declared.relation.Relation.TheVariants.{Contains, Overlaps, Equals}
use Rattle.relation_core.specs.declared.relation.Relation.TheVariants.{Covers, CoveredBy}
use Rattle.relation_core.specs.declared.relation.Relation.TheVariants.{ContainsProperly}
use Rattle.plane_core.specs.declared.part.Part.TheVariants.{Interior, Boundary, Exterior}
use Rattle.plane_core.specs.Points.{Point}
use Rattle.plane_core.specs.Figures.{Figure, part_of}
use Rattle.plane_core.specs.PlaneMatrices.{IsInBoth, SharePoint, entry}
use Rattle.any_relation_core.specs.PlaneRelations.{HoldsOf, AreDisjoint}

-- some point is in the interior or on the boundary of both
abbrev pub Intersect : Figure → Figure → Type 0
Intersect g h = (p : Point) × (0 < p.w) × (part_of g p ≢ Exterior) × (part_of h p ≢ Exterior)

-- some point is in both interiors
abbrev pub InteriorsMeet : Figure → Figure → Type 0
InteriorsMeet g h = SharePoint (IsInBoth g h Interior Interior)

-- each point of the interior or the boundary of the first is in that of the second
abbrev pub IsIn : Figure → Figure → Type 0
IsIn g h = (p : Point) → 0 < p.w → part_of g p ≢ Exterior → part_of h p ≢ Exterior

-- each point of the interior or the boundary of the first is in the interior of the second
abbrev pub LiesInside : Figure → Figure → Type 0
LiesInside g h = (p : Point) → 0 < p.w → part_of g p ≢ Exterior → part_of h p ≡ Interior

-- one of the four entries of interiors and boundaries isn't empty
abbrev pub HasCommon : Matrix → Type 0
HasCommon m = (entry m Interior Interior ≢ Empty) ⊎ (entry m Interior Boundary ≢ Empty)
    ⊎ (entry m Boundary Interior ≢ Empty) ⊎ (entry m Boundary Boundary ≢ Empty)

-- the meaning of a relation for two sets of points; masks, crosses and overlaps are defined by the
-- matrix alone
abbrev pub HoldsOfSets : Relation → Figure → Figure → Type 0
HoldsOfSets (Mask mask) g h = HoldsOf (Mask mask) g h
HoldsOfSets Disjoint g h = AreDisjoint g h
HoldsOfSets Intersects g h = Intersect g h
HoldsOfSets Touches g h = Intersect g h × ¬ (InteriorsMeet g h)
HoldsOfSets Crosses g h = HoldsOf Crosses g h
HoldsOfSets Within g h = IsIn g h × InteriorsMeet g h
HoldsOfSets Contains g h = IsIn h g × InteriorsMeet g h
HoldsOfSets Overlaps g h = HoldsOf Overlaps g h
HoldsOfSets Equals g h = IsIn g h × IsIn h g × InteriorsMeet g h
HoldsOfSets Covers g h = IsIn h g
HoldsOfSets CoveredBy g h = IsIn g h
HoldsOfSets ContainsProperly g h = LiesInside h g × InteriorsMeet g h
