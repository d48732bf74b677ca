use Rattle.std.proofs.Common.{[], refl, sym}
use Rattle.wkt_core.specs.TokenSteps.{skip}
use Rattle.wkt_core.specs.ListSteps.{TakesPoint}
use Rattle.wkt_core.proofs.FrontLemmas.{symbol_begins}
use Rattle.wkt_core.proofs.ItemLemmas.{behind_item, no_item_follows, no_end_follows}
use Rattle.wkt_core.proofs.PointLemmas.{points_exact, if_none, point_taken, no_point_taken, point_more, points_ended}
use Rattle.wkt_core.proofs.list.read_points.Goals as goal

pub loop-point-preserved : goal.loop-point-preserved
loop-point-preserved c =
    let read = rw c.skip_blanks-start.ensures at c.in_ok-point.ensures in
    let next = rw c.in-Item.is at c.in_ok-next.ensures in
    point_more c.args.scale _ _ _ _ _ _ _ (c.push.ensures c.args.scale) read c.loop-point.invariant next

pub returns-in-End-clause-some : goal.returns-in-End-clause-some
returns-in-End-clause-some c =
    let read = rw c.skip_blanks-start.ensures at c.in_ok-point.ensures in
    let next = rw c.in-End.is at c.in_ok-next.ensures in
    let (ps, items, firsts) = points_ended c.args.scale _ _ _ _ _ _ _ (c.push.ensures c.args.scale) read c.loop-point.invariant next in
    (ps, (c.in_ok-rest.rest.now, symbol_begins 40 _ _ (sym c.in_ok-rest.ensures), items), firsts)

pub loop-point-smaller : goal.loop-point-smaller
loop-point-smaller c =
    let read = rw c.skip_blanks-start.ensures at c.in_ok-point.ensures in
    let next = rw c.in-Item.is at c.in_ok-next.ensures in
    let (p, taken, value) = point_taken c.args.scale (skip c.loop-point.rest.now) _ _ read in
    behind_item (TakesPoint c.args.scale) (points_exact c.args.scale) _ p _ _ taken next

pub returns-in_err-point-clause-none : goal.returns-in_err-point-clause-none
returns-in_err-point-clause-none c =
    let read = rw c.skip_blanks-start.ensures at c.in_err-point.ensures in
    let (done, begun, firsts) = c.loop-point.invariant in
    if_none _ (no_item_follows (TakesPoint c.args.scale) (points_exact c.args.scale) _ _ done begun _ (symbol_begins 40 _ _ (sym c.in_ok-rest.ensures))
    (no_point_taken c.args.scale (skip c.loop-point.rest.now) read))

pub returns-in_err-next-clause-none : goal.returns-in_err-next-clause-none
returns-in_err-next-clause-none c =
    let read = rw c.skip_blanks-start.ensures at c.in_ok-point.ensures in
    let (p, taken, value) = point_taken c.args.scale (skip c.loop-point.rest.now) _ _ read in
    let (done, begun, firsts) = c.loop-point.invariant in
    if_none _ (no_end_follows (TakesPoint c.args.scale) (points_exact c.args.scale) _ _ done begun _ (symbol_begins 40 _ _ (sym c.in_ok-rest.ensures)) p _ taken
    c.in_err-next.ensures)

pub loop-point-init : goal.loop-point-init
loop-point-init c = ([], refl, c.requires)
