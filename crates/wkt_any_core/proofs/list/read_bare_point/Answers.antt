use Rattle.wkt_core.proofs.PointLemmas.{point_taken}
use Rattle.wkt_any_core.proofs.list.read_bare_point.Goals as goal

pub returns-clause-some : goal.returns-clause-some
returns-clause-some c =
    let (p, taken, value) = point_taken c.args.scale c.args.text.now _ _ c.in-Some.ensures in
    (p, taken, c.in_ok-push.ensures c.args.scale p value)
