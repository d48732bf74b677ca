use Rattle.std.proofs.Common.{arith}
use Rattle.rtree_core.proofs.EditableTreeLemmas.{tree_takes, takes_length}
use Rattle.rtree_core.proofs.TreeLemmas.{tree_length, tree_height}
use Rattle.rtree_core.proofs.tree.RTree.insert.Goals as goal

pub invariant_of-self-2 : goal.invariant_of-self-2
invariant_of-self-2 c = record {
  tree = tree_takes c.args.entry c.self.inside.tree.root _ c.insert_entry.new.self (omega arith) (rw (← c.self.view_is) at c.requires)
      c.self.invariant.tree (cc) c.insert_entry.ensures;
  sound = c.insert_entry.ensures.sound;
  len = omega (
    arith,
    c.self.invariant.len,
    takes_length c.args.entry c.self.inside.tree.root _ c.insert_entry.new.self (cc) c.insert_entry.ensures,
  );
  none_aside = c.self.invariant.none_aside;
}

pub reserve_lists-requires-clause-small : goal.reserve_lists-requires-clause-small
reserve_lists-requires-clause-small c =
    let i = c.self.invariant in
    omega (arith, i.sound.height_is, tree_height _ i.tree)

pub overflow_add-self : goal.overflow_add-self
overflow_add-self c =
    let i = c.self.invariant in
    omega (arith, i.len, tree_length _ i.tree)
