-- Packed trees: each node below the root has at least half of the greatest number of items.
use Rattle.std.specs.Prelude.{◌≡◌, ℕ, zero, suc, ◌+◌, ◌-◌, ◌*◌, ◌/◌, ◌^◌, ◌<◌, ◌≤◌, List, ◌++◌}
use Rattle.std.specs.Prelude.{map, length, vec_len, vec_capacity, Some, All}
use Rattle.std.specs.Int.{div_ceil}
use Rattle.std.specs.List.{flat_map}
use Rattle.std.specs.declared.alloc.Global.{Global}
use Rattle.std.specs.declared.vec.Vec.{Vec}
use Rattle.split_core.specs.Limits.{most}
use Rattle.rtree_core.specs.declared.node.Entry.{Entry}
use Rattle.rtree_core.specs.declared.node.Node.{Node}
use Rattle.split_core.specs.Collections.{HasSame}
use Rattle.rtree_core.specs.Nodes.{entries_of, children_of, level_of, size_of, IsLawfulAt}
use Rattle.rtree_core.specs.Packings.{IsPackingOf}
use Rattle.rtree_core.specs.Trees.{IsTree}

-- the least number of entries or children of a packed node below the root: half of the greatest
abbrev pub half_full : ℕ
half_full = most / 2

-- each node below this one, of this level, is at least half full
abbrev pub IsPackedAt : ℕ → Node → Type 0
IsPackedAt zero n = Unit {0}
IsPackedAt (suc level) n = All (λ m. (half_full ≤ size_of m) × IsPackedAt level m) (children_of n)

-- the same, at the node's own level
abbrev pub IsPacked : Node → Type 0
IsPacked n = IsPackedAt (level_of n) n

-- the number of the entry has 32 bits
abbrev pub HasU32 : Entry → Type 0
HasU32 e = e.number < 2 ^ 32

-- a packed node of this level may hold this node
abbrev pub FitsPacked : ℕ → Node → Type 0
FitsPacked zero n = Unit {0}
FitsPacked (suc level) n = (half_full ≤ size_of n) × IsPackedAt level n

-- the node of this list is packed at each level at which these items are
abbrev pub IsPackedOf : {T : Type 0} → (ℕ → T → Type 0) → List T → Node → Type 0
IsPackedOf fits_packed page n = (level : ℕ) → All (fits_packed level) page → IsPackedAt level n

-- the first of the pages has its share of the items: at most m if m are enough for each page, at
-- least m if there are m for each, and the remaining items satisfy the same for the other pages
pub record IsShare (size items pages : ℕ) : Type 0 where
  pub at_most : (m : ℕ) → items ≤ m * pages → size ≤ m
  pub at_least : (m : ℕ) → m * pages ≤ items → m ≤ size
  pub leaves_few : (m : ℕ) → items ≤ m * pages → items ≤ m * (pages - 1) + size
  pub leaves_many : (m : ℕ) → m * pages ≤ items → m * (pages - 1) + size ≤ items

-- `size` items were moved from the start of a list into a page, which has room for one more
pub record IsNextPage {S T : Type 0} (held : S → T) (IsInRange : T → Type 0) (size : ℕ)
    (old new : List S) (page : Vec T Global) : Type 0 where
  pub taken : map held old ≡ page.items ++ map held new
  pub len : vec_len page ≡ size
  pub room : most + 1 ≤ vec_capacity page
  pub in_range : All IsInRange page.items

-- the nodes of a level that hold these items
pub record AreNodesOf {T : Type 0} (entries : T → List Entry) (fits fits_packed : ℕ → T → Type 0)
    (items : List T) (nodes : List Node) : Type 0 where
  pub same : HasSame (flat_map entries items) (flat_map entries_of nodes)
  pub count : length nodes ≡ div_ceil (length items) most
  pub two : 2 ≤ length items → All (λ n. 2 ≤ size_of n) nodes
  pub half : 2 ≤ length nodes → All (λ n. half_full ≤ size_of n) nodes
  pub lawful : (level : ℕ) → All (fits level) items → All (IsLawfulAt level) nodes
  pub packed : (level : ℕ) → All (fits_packed level) items → All (IsPackedAt level) nodes

-- the packed tree of these entries, by its root and its height
pub record IsPackedTree (entries : List Entry) (root : Node) (height : ℕ) : Type 0 where
  pub same : HasSame entries (entries_of root)
  pub tree : IsTree (Some root)
  pub packed : IsPacked root
  pub packing : IsPackingOf entries root
  pub height_is : height ≡ level_of root + 1
