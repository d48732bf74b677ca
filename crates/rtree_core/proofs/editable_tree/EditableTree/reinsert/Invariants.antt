use Rattle.std.proofs.Common.{◌≡◌, ◌*◌, ◌≤◌, take, drop, length, vec_len}
use Rattle.std.specs.List.{flat_map}
use Rattle.rtree_core.specs.Nodes.{entries_of}
use Rattle.rtree_core.specs.EditableTrees.{HasTakenIn}
use Rattle.rtree_core.proofs.editable_tree.EditableTree.reinsert.Given as goal

abbrev pub invariant-loop-aside : goal.invariant-loop-aside
invariant-loop-aside l = record {
  few : l.level ≤ length l.fn.aside.items;
  rest : l.aside.items ≡ drop l.level l.fn.aside.items;
  taken_in : HasTakenIn (2 * l.level) (flat_map entries_of (take l.level l.fn.aside.items)) l.fn.self l.self;
}

abbrev pub decreases-loop-aside : goal.decreases-loop-aside
decreases-loop-aside l = vec_len l.aside
