use Rattle.std.proofs.Common.{◌-◌, vec_len}
use Rattle.rtree_core.specs.FreeLists.{IsFree}
use Rattle.rtree_core.proofs.free_lists.fill.Given as goal

abbrev pub invariant-loop-lists : goal.invariant-loop-lists
invariant-loop-lists g l = IsFree l.lists.items

abbrev pub decreases-loop-lists : goal.decreases-loop-lists
decreases-loop-lists g l = l.count - vec_len l.lists
