use Rattle.std.proofs.Common.{◌∷◌, []}
use Rattle.wkt_core.specs.Spelling.{HasGoodNumbers, position}
use Rattle.wkt_any_core.proofs.PathLemmas.{points_ended}
use Rattle.wkt_any_core.proofs.list.read_single.Goals as goal

pub returns-clause-some : goal.returns-clause-some
returns-clause-some c =
    let (p, taken, adds) = rw c.in-Some.is at c.in_ok-rest.ensures.some in
    (p, taken, points_ended (HasGoodNumbers c.args.scale) (position c.args.scale) _ _ _ (p ∷ []) adds c.in_ok-end_path.ensures)
