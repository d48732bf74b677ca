use Rattle.std.proofs.Common.{◌+◌, take}
use Rattle.std.specs.List.{flat_map}
use Rattle.plane_core.specs.Places.{point_of}
use Rattle.rtree_core.specs.Nodes.{entries_of, level_of}
use Rattle.rtree_core.proofs.NodeLemmas.{top_level}
use Rattle.edge_index_core.specs.Scans.{AddsScan}
use Rattle.edge_index_core.proofs.scan.+scan.Given as goal

abbrev pub invariant-scan_nodes-loop-node : goal.invariant-scan_nodes-loop-node
invariant-scan_nodes-loop-node l = AddsScan l.edges (point_of l.p.place) (flat_map entries_of (take l.node-index l.nodes)) l.fn.scan l.grown

abbrev pub decreases-scan_nodes : goal.decreases-scan_nodes
decreases-scan_nodes l = (top_level l.nodes.now + top_level l.nodes.now) + 1

abbrev pub decreases-scan_node : goal.decreases-scan_node
decreases-scan_node l = level_of l.node.now + level_of l.node.now
