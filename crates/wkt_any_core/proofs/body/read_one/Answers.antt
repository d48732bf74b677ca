use Rattle.std.proofs.Common.{[], ◌∷◌}
use Rattle.wkt_core.proofs.TextLemmas.{no_single, no_line}
use Rattle.wkt_any_core.proofs.MemberLemmas.{ok_some, ok_none}
use Rattle.wkt_any_core.proofs.body.read_one.Goals as goal

pub returns-in-Point-clause-some : goal.returns-in-Point-clause-some
returns-in-Point-clause-some c =
    rw c.in-Point.is (ok_some c.read_single.result c.read_single.ensures.some (λ rest (p, taken, adds). ((p ∷ []) ∷ [], taken, adds)))

pub returns-in-Point-clause-none : goal.returns-in-Point-clause-none
returns-in-Point-clause-none c = rw c.in-Point.is (ok_none c.read_single.result c.read_single.ensures.none (no_single c.args.scale c.args.text.now))

pub returns-in-LineString-clause-some : goal.returns-in-LineString-clause-some
returns-in-LineString-clause-some c =
    rw c.in-LineString.is (ok_some c.read_points.result c.read_points.ensures.some (λ rest (ps, taken, adds). (ps ∷ [], taken, adds)))

pub returns-in-LineString-clause-none : goal.returns-in-LineString-clause-none
returns-in-LineString-clause-none c = rw c.in-LineString.is (ok_none c.read_points.result c.read_points.ensures.none (no_line c.args.scale c.args.text.now))

pub returns-in-Polygon-clause-some : goal.returns-in-Polygon-clause-some
returns-in-Polygon-clause-some c = rw c.in-Polygon.is c.read_lists.ensures.some

pub returns-in-Polygon-clause-none : goal.returns-in-Polygon-clause-none
returns-in-Polygon-clause-none c = rw c.in-Polygon.is c.read_lists.ensures.none
