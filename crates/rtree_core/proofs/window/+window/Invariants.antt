use Rattle.std.proofs.Common.{◌+◌, take}
use Rattle.std.specs.List.{flat_map}
use Rattle.rtree_core.specs.Nodes.{entries_of, level_of}
use Rattle.rtree_core.specs.Windows.{Adds}
use Rattle.rtree_core.proofs.NodeLemmas.{top_level}
use Rattle.rtree_core.proofs.window.+window.Given as goal

abbrev pub invariant-collect_children-loop-child : goal.invariant-collect_children-loop-child
invariant-collect_children-loop-child g l = Adds (g.W.Window.shape_of l.window) (flat_map entries_of (take l.child-index l.children)) l.initial.found.items l.found.items

abbrev pub decreases-collect : goal.decreases-collect
decreases-collect g l = (level_of l.node.now + level_of l.node.now) + 1

abbrev pub decreases-collect_children : goal.decreases-collect_children
decreases-collect_children g l = (top_level l.children.now + top_level l.children.now) + 2
