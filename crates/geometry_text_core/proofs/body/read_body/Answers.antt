use Rattle.std.proofs.Common.{[], ◌∷◌}
use Rattle.wkt_any_core.proofs.MemberLemmas.{ok_some, ok_none}
use Rattle.geometry_text_core.specs.Positions.{TakesPosition}
use Rattle.geometry_text_core.proofs.OnlyLemmas.{point_body, line_body}
use Rattle.geometry_text_core.proofs.body.read_body.Goals as goal

pub returns-in-Point-clause-some : goal.returns-in-Point-clause-some
returns-in-Point-clause-some c = rw c.in-Point.is (ok_some c.read_point.result c.read_point.ensures.some (λ rest (p, taken, adds). ((p ∷ []) ∷ [], taken, adds)))

pub returns-in-Point-clause-none : goal.returns-in-Point-clause-none
returns-in-Point-clause-none c =
    rw c.in-Point.is (ok_none c.read_point.result c.read_point.ensures.none
    (λ none lists rest h. let b = point_body (TakesPosition c.args.scale) c.args.order c.args.bytes.now lists rest h in none b.point rest b.item))

pub returns-in-LineString-clause-some : goal.returns-in-LineString-clause-some
returns-in-LineString-clause-some c = rw c.in-LineString.is (ok_some c.read_points.result c.read_points.ensures.some (λ rest (ps, taken, adds). (ps ∷ [], taken, adds)))

pub returns-in-LineString-clause-none : goal.returns-in-LineString-clause-none
returns-in-LineString-clause-none c =
    rw c.in-LineString.is (ok_none c.read_points.result c.read_points.ensures.none
    (λ none lists rest h. let (ps, is, taken) = line_body (TakesPosition c.args.scale) c.args.order c.args.bytes.now lists rest h in none ps rest taken))

pub returns-in-Polygon-clause-none : goal.returns-in-Polygon-clause-none
returns-in-Polygon-clause-none c = rw c.in-Polygon.is c.read_rings.ensures.none
