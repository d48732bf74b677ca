-- Relations of two geometries, by their matrix, and those that hold for no two disjoint ones.
use Rattle.std.specs.Prelude.{◌≢◌, ◌<◌}
use Rattle.relation_core.specs.declared.matrix.Matrix.{Matrix}
use Rattle.relation_core.specs.declared.relation.Relation.{Relation}
use Rattle.relation_core.specs.Relations.{FitsOne, masks}
use Rattle.plane_core.specs.declared.part.Part.TheVariants.{Exterior}
use Rattle.plane_core.specs.Points.{Point}
use Rattle.plane_core.specs.Figures.{Figure, dim_of, part_of}
use Rattle.plane_core.specs.PlaneMatrices.{IsPlaneMatrix}
use Rattle.plane_core.specs.ProperRings.{IsGeometryOf}
use Rattle.plane_core.specs.declared.rings.Rings.{Rings}

-- one of the masks for the two dimensions fits the matrix of the two geometries
pub record HoldsOf (relation : Relation) (g h : Figure) : Type 0 where
  pub matrix : Matrix
  pub is : IsPlaneMatrix g h matrix
  pub fits : FitsOne (masks relation (dim_of g) (dim_of h)) matrix

-- no point is in the interior or on the boundary of both
abbrev pub AreDisjoint : Figure → Figure → Type 0
AreDisjoint g h =
    (p : Point) → 0 < p.w → part_of g p ≢ Exterior → part_of h p ≢ Exterior → ⊥

-- the relation holds for no two geometries without a common point
abbrev pub ForbidsDisjoint : Rings → Relation → Type 0
ForbidsDisjoint rings relation =
    (g h : Figure) → IsGeometryOf rings g → IsGeometryOf rings h → AreDisjoint g h
    → ¬ (HoldsOf relation g h)

-- the relation holds for some two geometries without a common point
pub record HoldsForDisjoint (rings : Rings) (relation : Relation) : Type 0 where
  pub first : Figure
  pub second : Figure
  pub first_is : IsGeometryOf rings first
  pub second_is : IsGeometryOf rings second
  pub disjoint : AreDisjoint first second
  pub holds : HoldsOf relation first second
