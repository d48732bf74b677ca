use Rattle.std.proofs.Common.{arith, rules, All, List, sym, subst, ◌∙◌}
use Rattle.rtree_core.specs.declared.node.Entry.{Entry}
use Rattle.plane_core.specs.Places.{point_of}
use Rattle.rtree_core.proofs.NodeLemmas.{level-le-top}
use Rattle.rtree_core.proofs.WindowLemmas.{item_lawful}
use Rattle.edge_index_core.specs.Trees.{IsEntryIn}
use Rattle.edge_index_core.specs.Scans.{AddsScan}
use Rattle.edge_index_core.proofs.TreeLemmas.{node_entries, children_lower, place_wide}
use Rattle.edge_index_core.proofs.ScanLemmas.{adds_nothing, adds_more_node, adds_pruned}
use Rattle.edge_index_core.proofs.scan.+scan.Goals as goal

pub scan_nodes-loop-node-init : goal.scan_nodes-loop-node-init
scan_nodes-loop-node-init t c = adds_nothing _ _ _

pub scan_nodes-loop-node-preserved-then-not-is_over : goal.scan_nodes-loop-node-preserved-then-not-is_over
scan_nodes-loop-node-preserved-then-not-is_over t c =
    let es = c.args.edges.now in
    let p = c.args.p.now.place in
    let nodes = c.args.nodes.now in
    let n = c.node-item.result in
    let i = c.loop-node.node-index in
    adds_more_node es (point_of p) nodes i n _ _ _ c.loop-node-test.true c.node-item.is c.loop-node.invariant
    (adds_pruned es (point_of p) n c.cover-cover.result _ (place_wide p)
    (c.cover-cover.ensures.tight (item_lawful nodes i n c.requires.lawful c.loop-node-test.true c.node-item.is)).contains
    (node_entries es nodes i n c.requires.entries c.loop-node-test.true c.node-item.is)
    (sym c.is_over_box-is_over.ensures ∙ c.if-not-is_over.true))

pub scan_nodes-loop-node-preserved : goal.scan_nodes-loop-node-preserved
scan_nodes-loop-node-preserved t c =
    adds_more_node c.args.edges.now (point_of c.args.p.now.place) c.args.nodes.now c.loop-node.node-index c.node-item.result _ _ _ c.loop-node-test.true c.node-item.is
    c.loop-node.invariant (search rules)

pub scan_nodes-scan_node-grown-requires : goal.scan_nodes-scan_node-grown-requires
scan_nodes-scan_node-grown-requires t c =
    let n = c.node-item.result in
    let nodes = c.args.nodes.now in
    let i = c.loop-node.node-index in
    let level = level-le-top nodes i n c.loop-node-test.true c.node-item.is in (
      omega (arith, c.decreases, level),
      (
        item_lawful nodes i n c.requires.lawful c.loop-node-test.true c.node-item.is,
        node_entries c.args.edges.now nodes i n c.requires.entries c.loop-node-test.true c.node-item.is,
      ),
    )

pub scan_node-scan_entries-requires : goal.scan_node-scan_entries-requires
scan_node-scan_entries-requires t c = subst (All (IsEntryIn c.args.edges.now)) (sym c.entries-entries.ensures.entries) c.requires.entries

pub scan_node-scan_nodes-requires : goal.scan_node-scan_nodes-requires
scan_node-scan_nodes-requires t c =
    let children = c.children-children.ensures.lawful c.requires.lawful in
    let lower = children_lower c.args.node.now c.children-children.result.now children in (
      omega (arith, c.decreases, lower),
      (children.lawful, subst (All (IsEntryIn c.args.edges.now)) c.children-children.ensures.entries c.requires.entries),
    )

pub scan_node-returns-then-leaf : goal.scan_node-returns-then-leaf
scan_node-returns-then-leaf t c =
    subst (λ (xs : List Entry). AddsScan c.args.edges.now (point_of c.args.p.now.place) xs c.args.scan c.scan_entries.result) c.entries-entries.ensures.entries c.scan_entries.ensures

pub scan_node-returns-else-leaf : goal.scan_node-returns-else-leaf
scan_node-returns-else-leaf t c =
    subst (λ (xs : List Entry). AddsScan c.args.edges.now (point_of c.args.p.now.place) xs c.args.scan c.scan_nodes.result) (sym c.children-children.ensures.entries) c.scan_nodes.ensures
