use Rattle.std.proofs.Common.{sym}
use Rattle.wkt_core.specs.TokenSteps.{skip}
use Rattle.wkt_core.proofs.FrontLemmas.{symbol_begins}
use Rattle.wkt_core.proofs.PointLemmas.{point_taken}
use Rattle.wkt_any_core.proofs.list.read_enclosed_point.Goals as goal

pub returns-clause-some : goal.returns-clause-some
returns-clause-some c =
    let read = rw c.skip_blanks.ensures at c.in-Some-read_point.ensures in
    let (p, taken, value) = point_taken c.args.scale (skip c.in-Some.rest.now) _ _ read in
    let end = rw c.skip_blanks-2.ensures at c.in-Some-skip_symbol.ensures in (
      p,
      (c.in-Some.rest.now, symbol_begins 40 _ _ (sym c.in-Some.ensures), (c.in-Some-read_point.after.now, taken, symbol_begins 41 _ _ (sym end))),
      c.in_ok-push.ensures c.args.scale p value,
    )
