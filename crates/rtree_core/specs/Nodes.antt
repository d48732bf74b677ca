-- Nodes: the entries below one, its level, and when it is lawful.
use Rattle.std.specs.Prelude.{◌≡◌, ℕ, zero, suc, ◌+◌, ◌<◌, ◌≤◌, List, [], length, vec_len}
use Rattle.std.specs.Prelude.{vec_capacity, All, max}
use Rattle.std.specs.List.{flat_map, fold}
use Rattle.std.specs.declared.alloc.Global.{Global}
use Rattle.std.specs.declared.vec.Vec.{Vec}
use Rattle.geom_core.specs.declared.shape.Shape.{Shape}
use Rattle.geom_core.specs.Cells.{IsIn}
use Rattle.split_core.specs.Limits.{fewest, most}
use Rattle.rtree_core.specs.declared.node.Entry.{Entry}
use Rattle.rtree_core.specs.declared.node.Below.{Below, out-Below}
use Rattle.rtree_core.specs.declared.node.Below.TheOpen.{Below-F, Entries, Children}
use Rattle.rtree_core.specs.declared.node.Node.{Node, fold-Node}
use Rattle.split_core.specs.Covers.{IsLeastCover}

-- the entries of a node, given those of its children
abbrev pub entries_step : Below-F (List Entry) (List Entry) → List Entry
entries_step (Entries v) = v.items
entries_step (Children v) = flat_map (λ es. es) v.items

-- the entries of a node's leaves, from left to right
abbrev pub entries_of : Node → List Entry
entries_of = fold-Node (List Entry) (List Entry) entries_step (λ n. n.below)

-- the level of a node, given those of its children
abbrev pub level_step : Below-F ℕ ℕ → ℕ
level_step (Entries v) = 0
level_step (Children v) = fold max 0 v.items + 1

-- the number of levels below a node: 0 for a leaf
abbrev pub level_of : Node → ℕ
level_of = fold-Node ℕ ℕ level_step (λ n. n.below)

-- the cover that a node stores
abbrev pub node_cover : Node → Shape
node_cover n = n.cover

abbrev pub is_leaf_below : Below-F Below Node → Type 0
is_leaf_below (Entries v) = Unit {0}
is_leaf_below (Children v) = ⊥

-- the node holds entries and no children
abbrev pub IsLeaf : Node → Type 0
IsLeaf n = is_leaf_below (out-Below n.below)

abbrev children_below : Below-F Below Node → List Node
children_below (Entries v) = []
children_below (Children v) = v.items

-- the children of a node; a leaf has none
abbrev pub children_of : Node → List Node
children_of n = children_below (out-Below n.below)

abbrev entries_below : Below-F Below Node → List Entry
entries_below (Entries v) = v.items
entries_below (Children v) = []

-- the entries that a node itself holds; an inner node has none
abbrev pub own_entries : Node → List Entry
own_entries n = entries_below (out-Below n.below)

abbrev size_below : Below-F Below Node → ℕ
size_below (Entries v) = vec_len v
size_below (Children v) = vec_len v

-- the number of entries or children of a node
abbrev pub size_of : Node → ℕ
size_of n = size_below (out-Below n.below)

-- a node's list with its cover: not empty, not too long, and with a capacity for one more than the
-- most
pub record IsPage {T : Type 0} (cover : T → Shape) (c : Shape) (v : Vec T Global) : Type 0 where
  pub some : 0 < vec_len v
  pub few : vec_len v ≤ most
  pub room : most + 1 ≤ vec_capacity v
  pub tight : IsLeastCover cover v.items c

-- a page of children, each of which is lawful and has enough items
pub record IsInner (IsChild : Node → Type 0) (c : Shape) (v : Vec Node Global) : Type 0 where
  pub page : IsPage (λ n. n.cover) c v
  pub children : All IsChild v.items
  pub enough : All (λ n. fewest ≤ size_of n) v.items

abbrev pub leaf_law : Shape → Below-F Below Node → Type 0
leaf_law c (Entries v) = IsPage (λ e. e.shape) c v
leaf_law c (Children v) = ⊥

abbrev pub inner_law : (Node → Type 0) → Shape → Below-F Below Node → Type 0
inner_law IsChild c (Entries v) = ⊥
inner_law IsChild c (Children v) = IsInner IsChild c v

-- a node of this level within Guttman's bounds: tight covers, 1 to 8 items in it and 3 to 8 in each
-- node below it, all leaves on level 0
abbrev pub IsLawfulAt : ℕ → Node → Type 0
IsLawfulAt zero n = leaf_law n.cover (out-Below n.below)
IsLawfulAt (suc level) n = inner_law (IsLawfulAt level) n.cover (out-Below n.below)

-- the same, at the node's own level
abbrev pub IsLawful : Node → Type 0
IsLawful n = IsLawfulAt (level_of n) n

-- the children of a lawful node: there is at least one, and each is lawful, one level below the
-- node, with its cover in that of the node
pub record AreLawfulChildren (n : Node) (children : List Node) : Type 0 where
  pub some : 0 < length children
  pub lawful : All IsLawful children
  pub levels : All (λ m. level_of m + 1 ≡ level_of n) children
  pub covers : All (λ m. IsIn m.cover n.cover) children
