use Rattle.std.proofs.Common.{arith, ap, sym, ◌∙◌}
use Rattle.rtree_core.specs.declared.node.Below.{out-Below}
use Rattle.rtree_core.specs.declared.node.Below.TheVariants.{outs-Children}
use Rattle.rtree_core.specs.Nodes.{level_of}
use Rattle.rtree_core.proofs.NodeLemmas.{entries_inner, level-le-top}
use Rattle.rtree_core.proofs.WindowLemmas.{adds_none, adds_more_child, adds_pruned, ran, item_lawful, list_lawful, list_level}
use Rattle.rtree_core.proofs.window.+window.Goals as goal

pub collect-returns-in-Children : goal.collect-returns-in-Children
collect-returns-in-Children g t c =
    rw (
      entries_inner c.args.node.now c.in-Children.children (ap out-Below c.in-Children.is ∙ outs-Children c.in-Children.children),
      ←
          c.deref-in-Children.ensures.value,
    ) (search)

pub collect_children-loop-child-init : goal.collect_children-loop-child-init
collect_children-loop-child-init g t c = adds_none (g.W.Window.shape_of c.args.window.now) c.args.found.now.items

pub collect_children-loop-child-preserved-then-not-meets : goal.collect_children-loop-child-preserved-then-not-meets
collect_children-loop-child-preserved-then-not-meets g t c =
    adds_more_child (g.W.Window.shape_of c.args.window.now) c.args.children.now c.loop-child.child-index c.child-item.result _ _ _ c.loop-child-test.true c.child-item.is
    c.loop-child.invariant (adds_pruned (g.W.Window.shape_of c.args.window.now) (level_of c.child-item.result) c.child-item.result _
    (rw (sym c.child-item.is) at (c.requires c.loop-child.child-index c.child-item.result c.loop-child-test.true))
    (λ m. cc (c.admits-meets.ensures.1 m)))

pub collect_children-loop-child-preserved : goal.collect_children-loop-child-preserved
collect_children-loop-child-preserved g t c =
    adds_more_child (g.W.Window.shape_of c.args.window.now) c.args.children.now c.loop-child.child-index c.child-item.result _ c.loop-child.found.items _ c.loop-child-test.true
    c.child-item.is c.loop-child.invariant (search ran)

pub collect-collect_children-requires : goal.collect-collect_children-requires
collect-collect_children-requires g t c κs within = (
  omega (arith, c.decreases, list_level c.args.node.now c.in-Children.children _ c.in-Children.is c.deref-in-Children.ensures.value),
  (within, list_lawful c.args.node.now c.in-Children.children _ c.in-Children.is c.deref-in-Children.ensures.value c.requires),
)

pub collect_children-collect-requires : goal.collect_children-collect-requires
collect_children-collect-requires g t c κs within = (
  omega (arith, c.decreases, level-le-top c.args.children.now c.loop-child.child-index c.child-item.result c.loop-child-test.true c.child-item.is),
  (within, item_lawful c.args.children.now c.loop-child.child-index c.child-item.result c.requires c.loop-child-test.true c.child-item.is),
)
