-- The place of an entry in a subtree, and the effect of its removal.
use Rattle.std.specs.List.{flat_map}
use Rattle.std.specs.Prelude.{◌≡◌, ℕ, ◌+◌, ◌<◌, ◌≤◌, List, ◌∷◌, ◌++◌, length, slice_index_or}
use Rattle.std.specs.Prelude.{slice_set}
use Rattle.rtree_core.specs.declared.node.Entry.{Entry}
use Rattle.rtree_core.specs.declared.node.Node.{Node}
use Rattle.split_core.specs.Limits.{fewest}
use Rattle.split_core.specs.Collections.{HasSame}
use Rattle.rtree_core.specs.Nodes.{entries_of, level_of, size_of, IsLawful, IsLawfulAt}

-- this is an index of the entry in the list
pub record IsPlaceOf (entries : List Entry) (e : Entry) (p : ℕ) : Type 0 where
  pub inside : p < length entries
  pub there : slice_index_or entries p e ≡ e

-- an entry can be removed from the node's subtree: it is lawful and has at least two items, and a
-- list with this room can hold the nodes that are set aside below it
pub record CanTakeOut (room : ℕ) (n : Node) : Type 0 where
  pub lawful : IsLawful n
  pub two : 2 ≤ size_of n
  pub low : level_of n ≤ room

-- a lawful node of this level with one item too few
abbrev pub IsShort : ℕ → Node → Type 0
IsShort level n = IsLawfulAt level n × (size_of n + 1 ≡ fewest)

-- the nodes set aside: one of each level, starting at 0
abbrev pub AreAside : List Node → Type 0
AreAside nodes = (k : ℕ) (d : Node) → k < length nodes → IsShort k (slice_index_or nodes k d)

-- the entry was removed from the node's subtree, and these nodes were set aside
pub record IsTakenOut (e : Entry) (old new : Node) (aside : List Node) : Type 0 where
  pub loses : HasSame (e ∷ (entries_of new ++ flat_map entries_of aside)) (entries_of old)
  pub lawful : IsLawfulAt (level_of old) new
  pub smaller : size_of old ≤ size_of new + 1
  pub few : length aside ≤ level_of old
  pub up_to_here : size_of new < size_of old → length aside ≡ level_of old
  pub are_aside : AreAside aside

-- the entry was removed from the subtree of the node at this index, and these nodes were set aside
pub record IsTakenBelow (e : Entry) (old new : List Node) (aside : List Node) (p : ℕ) : Type 0 where
  pub inside : p < length old
  pub others : (d : Node) → new ≡ slice_set old p (slice_index_or new p d)
  pub taken : (d : Node) → IsTakenOut e (slice_index_or old p d) (slice_index_or new p d) aside
