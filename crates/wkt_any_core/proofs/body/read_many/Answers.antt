use Rattle.std.proofs.Common.{[], ◌∷◌, refl}
use Rattle.wkt_any_core.specs.Grammar.{joined}
use Rattle.wkt_any_core.proofs.MemberLemmas.{ok_some, ok_none}
use Rattle.wkt_any_core.proofs.TextLemmas.{no_members}
use Rattle.wkt_any_core.proofs.body.read_many.Goals as goal

pub returns-in-Point-clause-some : goal.returns-in-Point-clause-some
returns-in-Point-clause-some c =
    rw c.in-Point.is (ok_some c.read_members.result c.read_members.ensures.some (λ rest (ps, taken, adds). (ps ∷ [], taken, adds)))

pub returns-in-Point-clause-none : goal.returns-in-Point-clause-none
returns-in-Point-clause-none c = rw c.in-Point.is (ok_none c.read_members.result c.read_members.ensures.none (no_members c.args.scale c.args.text.now))

pub returns-in-LineString-clause-some : goal.returns-in-LineString-clause-some
returns-in-LineString-clause-some c = rw c.in-LineString.is c.read_lists.ensures.some

pub returns-in-LineString-clause-none : goal.returns-in-LineString-clause-none
returns-in-LineString-clause-none c = rw c.in-LineString.is c.read_lists.ensures.none

pub returns-in-Polygon-clause-some : goal.returns-in-Polygon-clause-some
returns-in-Polygon-clause-some c =
    rw c.in-Polygon.is (ok_some c.read_polygons.result c.read_polygons.ensures.some (λ rest (ps, taken, adds). (joined ps, (ps, refl, taken), adds)))

pub returns-in-Polygon-clause-none : goal.returns-in-Polygon-clause-none
returns-in-Polygon-clause-none c =
    rw c.in-Polygon.is (ok_none c.read_polygons.result c.read_polygons.ensures.none (λ none lists rest (ps, e, h). none ps rest h))
