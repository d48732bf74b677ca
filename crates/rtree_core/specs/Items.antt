-- The items of a node, entries or the nodes of the level below, and the node made of a list of
-- them.
use Rattle.std.specs.Prelude.{◌≡◌, ℕ, zero, suc, ◌+◌, ◌<◌, ◌≤◌, List, [], ◌∷◌, length, vec_len}
use Rattle.std.specs.Prelude.{vec_capacity, All}
use Rattle.std.specs.List.{flat_map}
use Rattle.std.specs.declared.alloc.Global.{Global}
use Rattle.std.specs.declared.vec.Vec.{Vec}
use Rattle.geom_core.specs.declared.shape.Shape.{Shape}
use Rattle.rtree_core.specs.declared.node.Entry.{Entry}
use Rattle.rtree_core.specs.declared.node.Node.{Node}
use Rattle.rtree_core.specs.declared.node.Below.TheVariants.{Entries, Children}
use Rattle.split_core.specs.Covers.{IsLeastCover}
use Rattle.split_core.specs.Limits.{fewest, most}
use Rattle.rtree_core.specs.Nodes.{entries_of, size_of, IsLawfulAt}

-- the entries of an entry: itself
abbrev pub entry_alone : Entry → List Entry
entry_alone e = e ∷ []

-- a node of this level may hold an entry
abbrev pub FitsLeaf : ℕ → Entry → Type 0
FitsLeaf level e = level ≡ 0

-- a node of this level may hold this node
abbrev pub FitsInner : ℕ → Node → Type 0
FitsInner zero n = ⊥
FitsInner (suc level) n = IsLawfulAt level n × (fewest ≤ size_of n)

-- a list that can become that of a node
pub record IsNodeList {T : Type 0} (page : Vec T Global) : Type 0 where
  pub some : 0 < vec_len page
  pub few : vec_len page ≤ most
  pub room : most + 1 ≤ vec_capacity page

-- the node of this list, given the covers and entries of its items and the levels at which they fit
pub record IsNodeOf {T : Type 0} (cover : T → Shape) (entries : T → List Entry)
    (fits : ℕ → T → Type 0) (page : List T) (n : Node) : Type 0 where
  pub size : size_of n ≡ length page
  pub entries_are : entries_of n ≡ flat_map entries page
  pub tight : IsLeastCover cover page n.cover
  pub lawful : (level : ℕ) → All (fits level) page → IsLawfulAt level n

-- the node of these entries and this cover
abbrev pub leaf_node : Shape → Vec Entry Global → Node
leaf_node c v = record { cover = c; below = Entries v }

-- the node of these children and this cover
abbrev pub inner_node : Shape → Vec Node Global → Node
inner_node c v = record { cover = c; below = Children v }
