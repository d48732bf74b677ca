use Rattle.std.proofs.Common.{◌+◌, take}
use Rattle.std.specs.List.{flat_map}
use Rattle.relation_core.specs.JoinRelations.{relation_of}
use Rattle.rtree_core.specs.Nodes.{entries_of, level_of}
use Rattle.rtree_core.proofs.NodeLemmas.{top_level}
use Rattle.descent_core.specs.Finds.{Adds}
use Rattle.descent_core.proofs.rows.+descent.Given as goal

abbrev pub invariant-descend-loop-child : goal.invariant-descend-loop-child
invariant-descend-loop-child l =
    Adds (relation_of l.relation) (flat_map entries_of (take l.child-index l.lefts)) (entries_of l.right) l.initial.found.items l.found.items

abbrev pub invariant-descend_beside-loop-right : goal.invariant-descend_beside-loop-right
invariant-descend_beside-loop-right l =
    Adds (relation_of l.relation) (entries_of l.left) (flat_map entries_of (take l.right-index l.rights)) l.initial.found.items l.found.items

abbrev pub decreases-descend : goal.decreases-descend
decreases-descend l = (level_of l.left.now + level_of l.right.now) + (level_of l.left.now + level_of l.right.now)

abbrev pub decreases-descend_beside : goal.decreases-descend_beside
decreases-descend_beside l = ((level_of l.left.now + top_level l.rights.now) + (level_of l.left.now + top_level l.rights.now)) + 1
