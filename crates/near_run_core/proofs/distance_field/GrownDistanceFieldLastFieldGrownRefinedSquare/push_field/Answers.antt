use Rattle.near_run_core.specs.NearRuns.{has_grown_point}
use Rattle.near_run_core.proofs.DistanceLemmas.{match_few, distance_added}
use Rattle.near_run_core.proofs.distance_field.GrownDistanceFieldLastFieldGrownRefinedSquare.push_field.Goals as goal

pub push_distance-requires : goal.push_distance-requires
push_distance-requires g c =
    match_few g.G.Square.Square.fraction (has_grown_point g.G.Planar.has_point) c.args._left.now.list c.args._right.now.list c.args.found.now c.requires
    g.met.G.Square.Square.has_denominator (λ a b f wide is. g.met.G.Planar.in_range a.geometry b.geometry f wide is)

pub returns : goal.returns
returns g c =
    distance_added g.G.Square.Square.fraction (has_grown_point g.G.Planar.has_point) c.args._left.now.list c.args._right.now.list c.args.found.now c.requires _ _ _
    c.push_distance.result c.push_distance.ensures
