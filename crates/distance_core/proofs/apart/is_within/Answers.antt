use Rattle.distance_core.specs.Units.{units_of}
use Rattle.distance_core.specs.ShapePoints.{HasPoint}
use Rattle.distance_core.proofs.SquareLemmas.{within_by_square}
use Rattle.distance_core.proofs.apart.is_within.Goals as goal

pub returns : goal.returns
returns c =
    rw c.units-units.ensures.units
    (within_by_square (HasPoint c.args.a.now) (HasPoint c.args.b.now) c.squared_distance.result (units_of c.args.distance) c.squared_distance.ensures.least)
