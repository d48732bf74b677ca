use Rattle.std.proofs.Common.{◌+◌, All, take}
use Rattle.std.specs.List.{flat_map}
use Rattle.plane_core.specs.declared.edge.Edge.{Edge}
use Rattle.rtree_core.specs.Nodes.{entries_of, level_of}
use Rattle.rtree_core.proofs.NodeLemmas.{top_level}
use Rattle.edge_index_core.specs.Bounds.{IsBoxOf}
use Rattle.noding_core.specs.Gathered.{Extends}
use Rattle.noding_core.specs.Near.{IsEntryFound, AddsAmong}
use Rattle.noding_core.proofs.near.+near.Given as goal

abbrev pub invariant-push_nodes-loop-node : goal.invariant-push_nodes-loop-node
invariant-push_nodes-loop-node l = record {
  kept : Extends l.fn.near.items l.near.items;
  own : AddsAmong l.edges l.fn.near.items l.near.items;
  found : (e : Edge) → IsBoxOf e l.bounds → All (IsEntryFound e l.edges l.near.items) (flat_map entries_of (take l.node-index l.tree));
}

abbrev pub decreases-push_nodes : goal.decreases-push_nodes
decreases-push_nodes l = (top_level l.tree.now + top_level l.tree.now) + 1

abbrev pub decreases-push_node : goal.decreases-push_node
decreases-push_node l = level_of l.node.now + level_of l.node.now
