use Rattle.std.proofs.Common.{arith, All, List, sym, subst}
use Rattle.rtree_core.specs.declared.node.Entry.{Entry}
use Rattle.rtree_core.proofs.NodeLemmas.{level-le-top}
use Rattle.rtree_core.proofs.WindowLemmas.{item_lawful}
use Rattle.edge_index_core.specs.Trees.{IsEntryIn}
use Rattle.edge_index_core.proofs.TreeLemmas.{node_entries, children_lower}
use Rattle.geometry_distance_core.specs.NearestPairs.{AddsEntries}
use Rattle.geometry_distance_core.proofs.SearchLemmas.{entries_none, nodes_added, nodes_all, node_far}
use Rattle.geometry_distance_core.proofs.search.+search.Goals as goal

pub with_nodes-loop-node-init : goal.with_nodes-loop-node-init
with_nodes-loop-node-init t c = entries_none c.args.e.now c.args.fs.now c.args.nearest

pub with_nodes-loop-node-preserved-then-is_far : goal.with_nodes-loop-node-preserved-then-is_far
with_nodes-loop-node-preserved-then-is_far t c =
    let es = c.args.fs.now in
    let nodes = c.args.nodes.now in
    let n = c.node-item.result in
    let i = c.loop-node.node-index in
    nodes_added c.args.e.now es nodes i n _ _ _ c.loop-node-test.true c.node-item.is c.loop-node.invariant
    (node_far c.args.e.now es n c.squared_distance.result c.args.bounds.now c.cover.result _ c.requires.bounds
    (c.cover.ensures.tight (item_lawful nodes i n c.requires.lawful c.loop-node-test.true c.node-item.is)).contains
    (node_entries es nodes i n c.requires.entries c.loop-node-test.true c.node-item.is)
    (c.is_past-is_far.ensures.0 c.if-is_far.true) c.squared_distance.ensures.least)

pub with_nodes-loop-node-preserved : goal.with_nodes-loop-node-preserved
with_nodes-loop-node-preserved t c =
    nodes_added c.args.e.now c.args.fs.now c.args.nodes.now c.loop-node.node-index c.node-item.result _ _ _ c.loop-node-test.true c.node-item.is
    c.loop-node.invariant c.with_node-found.ensures

pub with_nodes-with_node-found-requires : goal.with_nodes-with_node-found-requires
with_nodes-with_node-found-requires t c =
    let n = c.node-item.result in
    let nodes = c.args.nodes.now in
    let i = c.loop-node.node-index in
    let level = level-le-top nodes i n c.loop-node-test.true c.node-item.is in (
      omega (arith, c.decreases, level),
      (
        c.requires.bounds,
        (
          item_lawful nodes i n c.requires.lawful c.loop-node-test.true c.node-item.is,
          node_entries c.args.fs.now nodes i n c.requires.entries c.loop-node-test.true c.node-item.is,
        ),
      ),
    )

pub with_nodes-returns : goal.with_nodes-returns
with_nodes-returns t c = nodes_all c.args.e.now c.args.fs.now c.args.nodes.now c.loop-node.node-index _ _ c.loop-node-test.false c.loop-node.invariant

pub with_node-with_entries-requires : goal.with_node-with_entries-requires
with_node-with_entries-requires t c = record {
  bounds = c.requires.bounds;
  entries = subst (All (IsEntryIn c.args.fs.now)) (sym c.entries.ensures.entries) c.requires.entries;
}

pub with_node-with_nodes-requires : goal.with_node-with_nodes-requires
with_node-with_nodes-requires t c =
    let children = c.children.ensures.lawful c.requires.lawful in
    let lower = children_lower c.args.node.now c.children.result.now children in (
      omega (arith, c.decreases, lower),
      (c.requires.bounds, (children.lawful, subst (All (IsEntryIn c.args.fs.now)) c.children.ensures.entries c.requires.entries)),
    )

pub with_node-returns-then-leaf : goal.with_node-returns-then-leaf
with_node-returns-then-leaf t c =
    subst (λ (xs : List Entry). AddsEntries c.args.e.now c.args.fs.now xs c.args.nearest c.with_entries.result) c.entries.ensures.entries c.with_entries.ensures

pub with_node-returns-else-leaf : goal.with_node-returns-else-leaf
with_node-returns-else-leaf t c =
    subst (λ (xs : List Entry). AddsEntries c.args.e.now c.args.fs.now xs c.args.nearest c.with_nodes.result) (sym c.children.ensures.entries) c.with_nodes.ensures
