use Rattle.std.proofs.Common.{◌≡◌, ◌++◌, length}
use Rattle.std.specs.List.{flat_map}
use Rattle.std.specs.Vec.Iter.{into_iter_items, into_iter_len}
use Rattle.rtree_core.specs.EditableTrees.{HasTakenIn}
use Rattle.rtree_core.proofs.editable_tree.EditableTree.insert_all.Given as goal

abbrev pub invariant-loop-item : goal.invariant-loop-item
invariant-loop-item g l = record {
  parts : l.yielded ++ into_iter_items l.item-iterator ≡ l.fn.items.items;
  left : into_iter_len l.item-iterator ≡ length (into_iter_items l.item-iterator);
  taken_in : HasTakenIn (length l.yielded) (flat_map g.T.Item.entries l.yielded) l.fn.self l.self;
}
