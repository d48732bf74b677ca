use Rattle.std.proofs.Common.{arith}
use Rattle.wkt_any_core.specs.Canonical.{vertex_text}
use Rattle.wkt_any_core.proofs.PrinterLemmas.{items_none, item_added, items_all}
use Rattle.wkt_any_core.proofs.printer.push_vertices.Goals as goal

pub loop-i-init : goal.loop-i-init
loop-i-init c = items_none (vertex_text c.args.scale) c.args.path.now _

pub loop-i-preserved : goal.loop-i-preserved
loop-i-preserved c =
    item_added (vertex_text c.args.scale) c.args.path.now c.loop-i.i c.index-path-i.result _ _ _ _ c.loop-i-test.true c.index-path-i.is c.loop-i.invariant
    c.in_ok-push_separator.ensures c.in_ok-push_vertex.ensures

pub returns : goal.returns
returns c = items_all (vertex_text c.args.scale) c.args.path.now c.loop-i.i _ _ (omega arith) c.loop-i.invariant
