use Rattle.std.proofs.Common.{arith, All, List, sym, subst}
use Rattle.std.specs.Prelude.{OnOk}
use Rattle.std.specs.List.{flat_map}
use Rattle.std.proofs.lemmas.List.{take_all}
use Rattle.std.proofs.lemmas.List.Elements.{All-nil}
use Rattle.plane_core.specs.declared.edge.Edge.{Edge}
use Rattle.rtree_core.specs.declared.node.Entry.{Entry}
use Rattle.rtree_core.specs.declared.node.Node.{Node as TreeNode}
use Rattle.rtree_core.specs.Nodes.{entries_of}
use Rattle.rtree_core.proofs.NodeLemmas.{level-le-top}
use Rattle.rtree_core.proofs.WindowLemmas.{item_lawful}
use Rattle.edge_index_core.specs.Bounds.{IsBoxOf}
use Rattle.edge_index_core.specs.Trees.{IsEntryIn}
use Rattle.edge_index_core.proofs.TreeLemmas.{node_entries, children_lower}
use Rattle.noding_core.specs.Near.{IsEntryFound}
use Rattle.noding_core.proofs.GatherLemmas.{extends-refl, extends-trans}
use Rattle.noding_core.proofs.NearLemmas.{adds-none, adds-trans, nodes_more_found, node_apart}
use Rattle.noding_core.proofs.near.+near.Goals as goal

pub push_nodes-loop-node-init : goal.push_nodes-loop-node-init
push_nodes-loop-node-init t c = record { kept = extends-refl _; own = adds-none _ _; found = λ e box. All-nil _ }

pub push_nodes-loop-node-preserved-then-not-meets : goal.push_nodes-loop-node-preserved-then-not-meets
push_nodes-loop-node-preserved-then-not-meets t c =
    let es = c.args.edges.now in
    let tree = c.args.tree.now in
    let i = c.loop-node.node-index in
    let n = c.node-item.result in
    let ns = c.loop-node.near.items in
    record {
      kept = c.loop-node.invariant.kept;
      own = c.loop-node.invariant.own;
      found = λ e box. nodes_more_found e es ns ns tree i n c.loop-node-test.true c.node-item.is (extends-refl ns) (c.loop-node.invariant.found e box)
          (node_apart e es ns c.args.bounds.now c.cover-cover.result n box
          (node_entries es tree i n c.requires.entries c.loop-node-test.true c.node-item.is)
          (c.cover-cover.ensures.tight (item_lawful tree i n c.requires.lawful c.loop-node-test.true c.node-item.is)).contains
          (λ m. cc (c.meets-meets.ensures.1 m)));
    }

pub push_nodes-loop-node-preserved : goal.push_nodes-loop-node-preserved
push_nodes-loop-node-preserved t c = record {
  kept = extends-trans _ _ _ c.loop-node.invariant.kept c.in_ok-push_node.ensures.kept;
  own = adds-trans _ _ _ _ c.loop-node.invariant.own c.in_ok-push_node.ensures.own;
  found = λ e box. nodes_more_found e _ _ _ c.args.tree.now c.loop-node.node-index c.node-item.result c.loop-node-test.true c.node-item.is
      c.in_ok-push_node.ensures.kept (c.loop-node.invariant.found e box) (c.in_ok-push_node.ensures.found e box);
}

pub push_nodes-push_node-requires : goal.push_nodes-push_node-requires
push_nodes-push_node-requires t c =
    let tree = c.args.tree.now in
    let i = c.loop-node.node-index in
    let n = c.node-item.result in
    let level = level-le-top tree i n c.loop-node-test.true c.node-item.is in (
      omega (arith, c.decreases, level),
      (
        item_lawful tree i n c.requires.lawful c.loop-node-test.true c.node-item.is,
        node_entries c.args.edges.now tree i n c.requires.entries c.loop-node-test.true c.node-item.is,
      ),
    )

pub push_node-push_entries-requires : goal.push_node-push_entries-requires
push_node-push_entries-requires t c =
    subst (All (IsEntryIn c.args.edges.now)) (sym c.entries-entries.ensures.entries) c.requires.entries

pub push_node-push_nodes-requires : goal.push_node-push_nodes-requires
push_node-push_nodes-requires t c =
    let children = c.children-children.ensures.lawful c.requires.lawful in
    let lower = children_lower c.args.node.now c.children-children.result.now children in (
      omega (arith, c.decreases, lower),
      (children.lawful, subst (All (IsEntryIn c.args.edges.now)) c.children-children.ensures.entries c.requires.entries),
    )

pub push_node-returns-then-leaf-clause-found : goal.push_node-returns-then-leaf-clause-found
push_node-returns-then-leaf-clause-found t c =
    subst (λ (xs : List Entry). OnOk c.push_entries.result ((e : Edge) → IsBoxOf e c.args.bounds.now → All (IsEntryFound e c.args.edges.now c.push_entries.new.near.items) xs))
    c.entries-entries.ensures.entries c.push_entries.ensures.found

pub push_node-returns-else-leaf-clause-found : goal.push_node-returns-else-leaf-clause-found
push_node-returns-else-leaf-clause-found t c =
    subst (λ (xs : List Entry). OnOk c.push_nodes.result ((e : Edge) → IsBoxOf e c.args.bounds.now → All (IsEntryFound e c.args.edges.now c.push_nodes.new.near.items) xs))
    (sym c.children-children.ensures.entries) c.push_nodes.ensures.found

pub push_nodes-returns-clause-found : goal.push_nodes-returns-clause-found
push_nodes-returns-clause-found t c = λ e box.
    subst (λ (ts : List TreeNode). All (IsEntryFound e c.args.edges.now c.loop-node.near.items) (flat_map entries_of ts))
    (take_all c.loop-node.node-index c.args.tree.now c.loop-node-test.false) (c.loop-node.invariant.found e box)
