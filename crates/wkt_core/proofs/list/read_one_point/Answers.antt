use Rattle.std.proofs.Common.{◌≡◌, [], Some, rules}
use Rattle.wkt_core.specs.TokenSteps.{skip}
use Rattle.wkt_core.specs.PointSteps.{point_at, point_answer}
use Rattle.wkt_core.proofs.FrontLemmas.{symbol_begins}
use Rattle.wkt_core.proofs.PointLemmas.{point_taken}
use Rattle.wkt_core.proofs.list.read_one_point.Goals as goal

pub returns-clause-some : goal.returns-clause-some
returns-clause-some c =
    let read : Some (c.in_ok-point.point, c.in_ok-point.after.now)
    ≡ point_answer c.args.scale (point_at c.args.scale (skip c.in_ok-rest.rest.now)) = search rules in
    let (p, taken, value) = point_taken c.args.scale (skip c.in_ok-rest.rest.now) _ _ read in (
      p,
      (
        c.in_ok-rest.rest.now,
        search (rules, symbol_begins),
        (c.in_ok-point.after.now, taken, search (rules, symbol_begins)),
      ),
      c.push.ensures c.args.scale [] p c.requires value,
    )
