-- The invariant of a tree's fields.
use Rattle.std.specs.Prelude.{◌≡◌, [], length}
use Rattle.rtree_core.specs.declared.tree.RTree.TheInside.{Inside}
use Rattle.rtree_core.specs.Trees.{entries_in, IsTree}
use Rattle.rtree_core.specs.EditableTrees.{IsSound}

-- the tree is lawful, its height and length are right, its lists are free, and no node is set aside
pub record IsConsistent (t : Inside) : Type 0 where
  pub tree : IsTree t.tree.root
  pub sound : IsSound t.tree
  pub len : t.len ≡ length (entries_in t.tree.root)
  pub none_aside : t.aside.items ≡ []
