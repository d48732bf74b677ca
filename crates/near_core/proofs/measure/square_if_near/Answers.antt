use Rattle.distance_core.specs.Units.{units_of}
use Rattle.near_core.proofs.NearLemmas.{near_if}
use Rattle.near_core.proofs.measure.square_if_near.Goals as goal

pub returns-clause-near : goal.returns-clause-near
returns-clause-near g c =
    near_if g.G.Planar.has_point c.args.first.now c.args.second.now (units_of c.lesser-distance.result) c.lesser-distance.ensures c.square_within.result
    c.square_within.ensures.within
