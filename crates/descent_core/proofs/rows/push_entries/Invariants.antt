use Rattle.std.proofs.Common.{take}
use Rattle.relation_core.specs.JoinRelations.{relation_of}
use Rattle.rtree_core.specs.Nodes.{entries_of}
use Rattle.descent_core.specs.Finds.{Adds}
use Rattle.descent_core.proofs.rows.push_entries.Given as goal

abbrev pub invariant-loop-left : goal.invariant-loop-left
invariant-loop-left l = Adds (relation_of l.relation) (take l.left-index l.lefts) (entries_of l.right) l.initial.found.items l.found.items
