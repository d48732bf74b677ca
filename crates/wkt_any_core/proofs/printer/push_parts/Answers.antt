use Rattle.std.proofs.Common.{arith}
use Rattle.plane_core.specs.Vertices.{paths_in}
use Rattle.wkt_any_core.specs.Canonical.{part_text}
use Rattle.wkt_any_core.proofs.PrinterLemmas.{items_none, item_added, items_all}
use Rattle.wkt_any_core.proofs.printer.push_parts.Goals as goal

pub loop-i-init : goal.loop-i-init
loop-i-init c = items_none (part_text c.args.scale c.args.are_rings) (paths_in c.args.geometry.now) _

pub loop-i-preserved : goal.loop-i-preserved
loop-i-preserved c =
    item_added (part_text c.args.scale c.args.are_rings) (paths_in c.args.geometry.now) c.loop-i.i c.path-path.result.now _ _ _ _ (omega arith)
    (c.path-path.ensures c.path-path.result.now) c.loop-i.invariant c.in_ok-push_separator.ensures c.in_ok-push_part.ensures

pub returns : goal.returns
returns c = items_all (part_text c.args.scale c.args.are_rings) (paths_in c.args.geometry.now) c.loop-i.i _ _ (omega arith) c.loop-i.invariant
