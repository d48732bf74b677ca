use Rattle.std.proofs.Common.{subst}
use Rattle.plane_core.specs.declared.place.Place.{Place}
use Rattle.plane_core.specs.Places.{point_of}
use Rattle.plane_core.specs.Outlines.{IsScan}
use Rattle.rtree_core.specs.Nodes.{entries_of}
use Rattle.edge_index_core.proofs.TreeLemmas.{all_in}
use Rattle.edge_index_core.proofs.ScanLemmas.{scan_held}
use Rattle.edge_index_core.proofs.indexed.scan_of.Goals as goal

pub scan_node-requires-clause-entries : goal.scan_node-requires-clause-entries
scan_node-requires-clause-entries c = all_in c.args.edges.now (entries_of c.args.root.now) c.requires.holds

pub returns : goal.returns
returns c =
    let p = point_of c.of-spot.result.place in
    subst (λ (q : Place). IsScan c.args.edges.now (point_of q) c.scan_node.result) c.of-spot.ensures
    (scan_held c.args.edges.now (entries_of c.args.root.now) p c.empty-none.result c.scan_node.result c.requires.holds (c.empty-none.ensures p) c.scan_node.ensures)
