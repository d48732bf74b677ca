use Rattle.std.proofs.Common.{◌+◌}
use Rattle.rtree_core.specs.Items.{inner_node}
use Rattle.rtree_core.specs.Nodes.{level_of}
use Rattle.rtree_core.proofs.insert.+insertion.Given as goal

abbrev pub decreases-insert_into : goal.decreases-insert_into
decreases-insert_into g l = (level_of l.node.now + level_of l.node.now) + 1

abbrev pub decreases-insert_below : goal.decreases-insert_below
decreases-insert_below g l = level_of (inner_node l.cover.now l.children.now) + level_of (inner_node l.cover.now l.children.now)
