use Rattle.std.proofs.Common.{◌+◌, take}
use Rattle.std.specs.List.{flat_map}
use Rattle.rtree_core.specs.Nodes.{entries_of, level_of}
use Rattle.rtree_core.proofs.NodeLemmas.{top_level}
use Rattle.geometry_distance_core.specs.NearestPairs.{AddsEntries}
use Rattle.geometry_distance_core.proofs.search.+search.Given as goal

abbrev pub invariant-with_nodes-loop-node : goal.invariant-with_nodes-loop-node
invariant-with_nodes-loop-node l = AddsEntries l.e l.fs (flat_map entries_of (take l.node-index l.nodes)) l.fn.nearest l.found

abbrev pub decreases-with_nodes : goal.decreases-with_nodes
decreases-with_nodes l = (top_level l.nodes.now + top_level l.nodes.now) + 1

abbrev pub decreases-with_node : goal.decreases-with_node
decreases-with_node l = level_of l.node.now + level_of l.node.now
