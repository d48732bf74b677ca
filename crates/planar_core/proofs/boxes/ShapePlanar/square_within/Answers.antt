use Rattle.std.proofs.Common.{arith}
use Rattle.distance_core.specs.Units.{units_of}
use Rattle.distance_core.specs.ShapePoints.{HasPoint}
use Rattle.planar_core.proofs.BoxLemmas.{as_fraction, found_near, none_near}
use Rattle.planar_core.proofs.boxes.ShapePlanar.square_within.Goals as goal

pub returns-then-square-units-clause-within : goal.returns-then-square-units-clause-within
returns-then-square-units-clause-within c =
    found_near (HasPoint c.args.first.now) (HasPoint c.args.second.now) c.squared_distance-square.result (units_of c.args.distance) c.units-units.result
    (omega arith) c.squared_distance-square.ensures.least c.if-square-units.true

pub returns-then-square-units-clause-square : goal.returns-then-square-units-clause-square
returns-then-square-units-clause-square c =
    as_fraction (HasPoint c.args.first.now) (HasPoint c.args.second.now) c.squared_distance-square.result c.squared_distance-square.ensures.least

pub returns-else-square-units-clause-within : goal.returns-else-square-units-clause-within
returns-else-square-units-clause-within c =
    none_near (HasPoint c.args.first.now) (HasPoint c.args.second.now) c.squared_distance-square.result (units_of c.args.distance) c.units-units.result
    (omega arith) c.squared_distance-square.ensures.least (λ few. omega (arith, few, c.if-square-units.false))
