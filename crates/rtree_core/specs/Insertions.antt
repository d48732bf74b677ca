-- The effect of an insertion on a node's list, on a node and on its subtree.
use Rattle.geom_core.specs.Cells.{IsIn}
use Rattle.std.specs.Prelude.{ℕ, ◌≤◌, List, ◌++◌, Option, MatchOption}
use Rattle.geom_core.specs.declared.shape.Shape.{Shape}
use Rattle.rtree_core.specs.declared.node.Entry.{Entry}
use Rattle.rtree_core.specs.declared.node.Node.{Node}
use Rattle.split_core.specs.Collections.{HasSame}
use Rattle.rtree_core.specs.Items.{IsNodeOf}
use Rattle.split_core.specs.Limits.{fewest}
use Rattle.rtree_core.specs.Nodes.{entries_of, level_of, size_of, IsLawfulAt}
use Rattle.split_core.specs.Splits.{AreGroups}

-- the items were split: the first group is this list, the second that of this node
pub record IsHalved {T : Type 0} (cover : T → Shape) (entries : T → List Entry)
    (fits : ℕ → T → Type 0) (items one : List T) (n : Node) : Type 0 where
  pub two : List T
  pub groups : AreGroups cover items one two
  pub node : IsNodeOf cover entries fits two n

-- the entries were added to the node, whose cover includes the shape
pub record StaysOne (added : List Entry) (s : Shape) (old new : Node) : Type 0 where
  pub gains : HasSame (added ++ entries_of old) (entries_of new)
  pub lawful : IsLawfulAt (level_of old) new
  pub bigger : size_of old ≤ size_of new
  pub within : (t : Shape) → IsIn s t → IsIn old.cover t → IsIn new.cover t
  pub without : (t : Shape) → IsIn new.cover t → IsIn s t × IsIn old.cover t

-- the entries were added to the node, which was split in two
pub record ComesInTwo (added : List Entry) (s : Shape) (old one two : Node) : Type 0 where
  pub gains : HasSame (added ++ entries_of old) (entries_of one ++ entries_of two)
  pub one_lawful : IsLawfulAt (level_of old) one
  pub two_lawful : IsLawfulAt (level_of old) two
  pub one_enough : fewest ≤ size_of one
  pub two_enough : fewest ≤ size_of two
  pub within : (t : Shape) → IsIn s t → IsIn old.cover t → IsIn one.cover t × IsIn two.cover t
  pub without : (t : Shape) → IsIn one.cover t → IsIn two.cover t → IsIn s t × IsIn old.cover t

-- the entries, whose cover is the shape, were added to the node, which may have been split
abbrev pub IsInserted : List Entry → Shape → Node → Node → Option Node → Type 0
IsInserted added s old new second =
    MatchOption second (StaysOne added s old new) (ComesInTwo added s old new)
