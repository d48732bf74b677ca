-- A root with its height and the free lists of edits, and the effect of insertions on it.
use Rattle.std.specs.Prelude.{◌≡◌, ℕ, ◌+◌, ◌-◌, ◌*◌, ◌^◌, ◌<◌, ◌≤◌, suc, List, [], ◌++◌, IfSome}
use Rattle.std.specs.Prelude.{IsSomeAnd, vec_len, vec_capacity}
use Rattle.std.specs.declared.alloc.Global.{Global}
use Rattle.std.specs.declared.vec.Vec.{Vec}
use Rattle.rtree_core.specs.declared.node.Entry.{Entry}
use Rattle.rtree_core.specs.declared.node.Node.{Node}
use Rattle.rtree_core.specs.declared.editable_tree.EditableTree.{EditableTree}
use Rattle.split_core.specs.Collections.{HasSame}
use Rattle.rtree_core.specs.Nodes.{entries_of, level_of, size_of, IsLawful, IsLawfulAt}
use Rattle.rtree_core.specs.FreeLists.{AreFree}
use Rattle.rtree_core.specs.Trees.{entries_in, height_of, IsRoot}

-- the root is lawful, though it may have one child during a removal, and the height is right
pub record IsSound (t : EditableTree) : Type 0 where
  pub lawful : IfSome t.root IsLawful
  pub height_is : t.height ≡ height_of t.root
  pub lists : AreFree t.free

-- the root is that of a lawful tree
pub record IsRooted (t : EditableTree) : Type 0 where
  pub sound : IsSound t
  pub root : IfSome t.root IsRoot

-- there are free lists for `count` insertions, and the height has room to grow
pub record CanTake (count : ℕ) (t : EditableTree) : Type 0 where
  pub leaves : count + 1 ≤ vec_len t.free.leaves
  pub inners : count * (t.height + count) ≤ vec_len t.free.inners
  pub low : t.height + count < 2 ^ 32

-- a removal can be made: there are lists for all items that may be inserted again, and the empty
-- list of nodes set aside has room for one of each level below the root
pub record CanRemove (t : EditableTree) (aside : Vec Node Global) : Type 0 where
  pub rooted : IsRooted t
  pub can_take : CanTake (2 * (t.height - 1)) t
  pub none_aside : aside.items ≡ []
  pub room : t.height ≤ vec_capacity aside + 1

-- the effect of `count` insertions, which together add these entries
pub record HasTakenIn (count : ℕ) (added : List Entry) (old new : EditableTree) : Type 0 where
  pub sound : IsSound new
  pub gains : HasSame (added ++ entries_in old.root) (entries_in new.root)
  pub no_lower : old.height ≤ new.height
  pub spent : (n : ℕ) → CanTake (count + n) old → CanTake n new
  pub rooted : IfSome old.root IsRoot → IfSome new.root IsRoot

-- the new root has two children: the old root and a second node of the same level
pub record HasGrownBy (second : Node) (old new : EditableTree) : Type 0 where
  pub root : IsSomeAnd new.root (λ n. (size_of n ≡ 2) × IsLawfulAt (suc (level_of second)) n)
  pub entries : entries_in new.root ≡ entries_in old.root ++ entries_of second
  pub height_is : new.height ≡ old.height + 1
  pub lists : AreFree new.free
  pub leaf : new.free.leaves ≡ old.free.leaves
  pub inner : vec_len old.free.inners ≡ vec_len new.free.inners + 1
