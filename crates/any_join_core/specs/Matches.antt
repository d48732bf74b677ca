-- When two geometries of layers of any geometry stand in a relation, and when their boxes meet.
use Rattle.std.specs.Prelude.{⊤}
use Rattle.relation_core.specs.declared.matrix.Matrix.{Matrix}
use Rattle.plane_core.specs.declared.rings.Rings.{Rings}
use Rattle.plane_core.specs.declared.rings.Rings.TheVariants.{Proper, EvenOdd}
use Rattle.plane_core.specs.PlaneMatrices.{IsPlaneMatrix}
use Rattle.layer_core.specs.Layers.{Contents}
use Rattle.filter_core.specs.Joins.{StandIn, BoxesMeet as BoxesMeetBy}
use Rattle.refine_core.specs.declared.refined.Refined.{Refined}
use Rattle.any_relation_core.specs.declared.any_relation.AnyRelation.{AnyRelation}
use Rattle.any_relation_core.specs.AnyRelations.{relation_of, rings_of as allowed}
use Rattle.any_relation_core.specs.PlaneRelations.{HoldsOf}
use Rattle.any_geometry_core.specs.declared.geometry.AnyGeometry.{AnyGeometry}
use Rattle.any_geometry_core.specs.AnyGeometries.{figure_of, rings_of, box_of}

abbrev pub BoxesMeet : AnyGeometry → AnyGeometry → Type 0
BoxesMeet g h = BoxesMeetBy box_of g h

-- a relation for geometries with rings of the first rule takes one with rings of the second
abbrev pub TakesRule : Rings → Rings → Type 0
TakesRule Proper Proper = ⊤
TakesRule Proper EvenOdd = ⊥
TakesRule EvenOdd rings = ⊤

-- the relation holds for the two geometries, by points of the plane, and takes their rings
pub record AreRelated (relation : AnyRelation) (g h : AnyGeometry) : Type 0 where
  pub first_rings : TakesRule (allowed relation) (rings_of g)
  pub second_rings : TakesRule (allowed relation) (rings_of h)
  pub stand : HoldsOf (relation_of relation) (figure_of g) (figure_of h)

abbrev pub HaveMatrix : Matrix → AnyGeometry → AnyGeometry → Type 0
HaveMatrix m g h = IsPlaneMatrix (figure_of g) (figure_of h) m

-- the answer is the matrix of the two features' geometries
abbrev pub HasMatrix : Contents AnyGeometry → Contents AnyGeometry → Refined Matrix → Type 0
HasMatrix left right found = StandIn (HaveMatrix found.answer) left right found.pair
