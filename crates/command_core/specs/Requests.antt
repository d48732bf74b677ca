-- What joins by a relation or by distance, and searches for the nearest features, ask of two layers.
use Rattle.geom_core.specs.declared.shape.Shape.{Shape}
use Rattle.any_geometry_core.specs.declared.geometry.AnyGeometry.{AnyGeometry}
use Rattle.format_core.specs.Formats.{ReadsAny, ReadsBox}
use Rattle.any_relation_core.specs.AnyRelations.{rings_of}
use Rattle.distance_core.specs.ShapePoints.{HasPoint}
use Rattle.planar_core.specs.AnyPoints.{HasPlace}
use Rattle.planar_core.specs.Squares.{fraction_of, whole}
use Rattle.near_core.specs.declared.grown.Grown.{Grown}
use Rattle.near_core.specs.Formats.{ReadsGrown}
use Rattle.run_core.specs.ImproperRings.{AreRingsImproper}
use Rattle.run_core.specs.TextRuns.{texts_of_all}
use Rattle.join_core.specs.AnyJoinings.{any_joining}
use Rattle.join_core.specs.Joinings.{box_joining}
use Rattle.join_core.specs.Products.{join_making}
use Rattle.near_run_core.specs.NearRuns.{IsGrownMarked, IsNearReport}
use Rattle.near_run_core.specs.NearestRuns.{IsNearestReport}
use Rattle.words_core.specs.declared.condition.Condition.{Condition}
use Rattle.words_core.specs.declared.condition.Condition.TheVariants as conditions
use Rattle.words_core.specs.declared.condition.Geometries.{Geometries}
use Rattle.words_core.specs.declared.condition.Geometries.TheVariants.{Box, Any}
use Rattle.words_core.specs.declared.words.Command.{Command}
use Rattle.words_core.specs.declared.words.Command.TheVariants as commands
use Rattle.words_core.specs.declared.words.JoinRequest.{JoinRequest}
use Rattle.words_core.specs.declared.words.NearRequest.{NearRequest}
use Rattle.words_core.specs.declared.words.NearestRequest.{NearestRequest}
use Rattle.command_core.specs.declared.pairs.PairRequest.{PairRequest}
use Rattle.command_core.specs.declared.pairs.PairRequest.TheVariants.{Join, Near, Nearest}
use Rattle.command_core.specs.Asked.{Asked}

-- what a join by this condition asks; a box has no rings
abbrev pub condition_asks : Condition → JoinRequest → Asked
condition_asks (conditions.Boxes relation) join = record {
  paths = join.paths;
  Geometry = Shape;
  reads = ReadsBox join.scale;
  making = join_making join.product (box_joining relation);
  is_improper = λ g. ⊥;
}
condition_asks (conditions.Any relation) join = record {
  paths = join.paths;
  Geometry = AnyGeometry;
  reads = ReadsAny join.scale (rings_of relation);
  making = join_making join.product (any_joining relation);
  is_improper = AreRingsImproper (rings_of relation);
}

abbrev pub join_asks : JoinRequest → Asked
join_asks join = condition_asks join.condition join

-- what a join by distance of geometries of this kind asks, which are read with its distance
abbrev pub kind_near_asks : Geometries → NearRequest → Asked
kind_near_asks Box near = record {
  paths = near.paths;
  Geometry = Grown Shape;
  reads = ReadsGrown (ReadsBox near.scale) near.distance;
  making = texts_of_all (IsNearReport HasPoint near.nearness near.scale);
  is_improper = IsGrownMarked (λ g. ⊥);
}
kind_near_asks (Any rings) near = record {
  paths = near.paths;
  Geometry = Grown AnyGeometry;
  reads = ReadsGrown (ReadsAny near.scale rings) near.distance;
  making = texts_of_all (IsNearReport HasPlace near.nearness near.scale);
  is_improper = IsGrownMarked (AreRingsImproper rings);
}

abbrev pub near_asks : NearRequest → Asked
near_asks near = kind_near_asks near.geometries near

-- what a search for the nearest features asks, with geometries of this kind
abbrev pub kind_nearest_asks : Geometries → NearestRequest → Asked
kind_nearest_asks Box nearest = record {
  paths = nearest.paths;
  Geometry = Shape;
  reads = ReadsBox nearest.scale;
  making = texts_of_all (IsNearestReport whole HasPoint nearest.query nearest.scale);
  is_improper = λ g. ⊥;
}
kind_nearest_asks (Any rings) nearest = record {
  paths = nearest.paths;
  Geometry = AnyGeometry;
  reads = ReadsAny nearest.scale rings;
  making = texts_of_all (IsNearestReport fraction_of HasPlace nearest.query nearest.scale);
  is_improper = AreRingsImproper rings;
}

abbrev pub nearest_asks : NearestRequest → Asked
nearest_asks nearest = kind_nearest_asks nearest.geometries nearest

-- the command of a request, and what it asks
abbrev pub command_of : PairRequest → Command
command_of (Join join) = commands.Join join
command_of (Near near) = commands.Near near
command_of (Nearest nearest) = commands.Nearest nearest

abbrev pub asks : PairRequest → Asked
asks (Join join) = join_asks join
asks (Near near) = near_asks near
asks (Nearest nearest) = nearest_asks nearest
