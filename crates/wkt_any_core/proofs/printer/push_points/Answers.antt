use Rattle.std.proofs.Common.{arith}
use Rattle.wkt_any_core.specs.Canonical.{point_text}
use Rattle.wkt_any_core.proofs.PrinterLemmas.{items_none, item_added, items_all}
use Rattle.wkt_any_core.proofs.printer.push_points.Goals as goal

pub loop-i-init : goal.loop-i-init
loop-i-init c = items_none (point_text c.args.scale) c.args.points.now _

pub loop-i-preserved : goal.loop-i-preserved
loop-i-preserved c =
    item_added (point_text c.args.scale) c.args.points.now c.loop-i.i c.index-points-i.result _ _ _ _ c.loop-i-test.true c.index-points-i.is c.loop-i.invariant
    c.in_ok-push_separator.ensures c.in_ok-push_path.ensures

pub returns : goal.returns
returns c = items_all (point_text c.args.scale) c.args.points.now c.loop-i.i _ _ (omega arith) c.loop-i.invariant
