use Rattle.std.proofs.Common.{sym}
use Rattle.wkt_core.proofs.FrontLemmas.{symbol_begins}
use Rattle.wkt_any_core.proofs.MemberLemmas.{ok_none, no_enclosed, no_bare}
use Rattle.wkt_any_core.proofs.list.read_member.Goals as goal

pub returns-in-Some-clause-none : goal.returns-in-Some-clause-none
returns-in-Some-clause-none c =
    ok_none c.read_enclosed_point.result c.read_enclosed_point.ensures.none (no_enclosed c.args.scale c.args.text.now _ (symbol_begins 40 _ _ (sym c.in-Some.ensures)))

pub returns-in-None-clause-none : goal.returns-in-None-clause-none
returns-in-None-clause-none c = ok_none c.read_bare_point.result c.read_bare_point.ensures.none (no_bare c.args.scale c.args.text.now c.in-None.ensures)
