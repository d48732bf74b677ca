-- The tree that Sort-Tile-Recursive makes of a list (Leutenegger, Lopez and Edgington 1997, 2.2).
use Rattle.std.specs.Prelude.{◌≡◌, ◌↔◌, ℕ, zero, suc, ◌+◌, ◌^◌, ◌≤◌}
use Rattle.std.specs.Prelude.{List, [], ◌∷◌, map, length, take, drop}
use Rattle.std.specs.Int.{div_ceil}
use Rattle.std.specs.List.{enumerate_from, range_with_len}
use Rattle.std.specs.List.Sorted.{IsPermutation}
use Rattle.geom_core.specs.declared.shape.Shape.{Shape}
use Rattle.split_core.specs.Limits.{most}
use Rattle.split_core.specs.Tiles.{items_before, IsTileOrder}
use Rattle.rtree_core.specs.declared.node.Entry.{Entry}
use Rattle.rtree_core.specs.declared.node.Node.{Node}
use Rattle.rtree_core.specs.Nodes.{own_entries, children_of, level_of}

-- the items of the page at this index, if they fill `pages` pages
abbrev pub page_at : {T : Type 0} → ℕ → List T → ℕ → List T
page_at pages items place =
    let n = length items in
    drop (items_before place pages n) (take (items_before (place + 1) pages n) items)

-- the pages of a list in order, as few as it needs, the first of which have one more item
abbrev pub pages_of : {T : Type 0} → List T → List (List T)
pages_of items =
    let pages = div_ceil (length items) most in map (page_at pages items) (range_with_len 0 pages)

-- the lists of these nodes are the pages of these items in tile order, as the nodes hold them
pub record AreTilesOf {S T : Type 0} (cover : S → Shape) (rank : S → ℕ) (held : S → T)
    (list_of : Node → List T) (items : List S) (nodes : List Node) : Type 0 where
  pub tiled : List S
  pub same : IsPermutation items tiled
  pub order : IsTileOrder cover rank tiled
  pub pages : map list_of nodes ≡ pages_of (map held tiled)

-- the leaves of these entries, which are ranked by their numbers
abbrev pub AreLeavesOf : List Entry → List Node → Type 0
AreLeavesOf = AreTilesOf (λ e. e.shape) (λ e. e.number) (λ e. e) own_entries

-- the nodes above these, which are ranked by their indexes
abbrev pub AreNodesAbove : List Node → List Node → Type 0
AreNodesAbove below =
    AreTilesOf (λ p. p.1.cover) (λ p. p.0) (λ p. p.1) children_of (enumerate_from 0 below)

-- all nodes of this level, in order, of the tree that Sort-Tile-Recursive makes of these entries;
-- only a level of two nodes or more has one above
abbrev pub IsPackedLevel : List Entry → ℕ → List Node → Type 0
IsPackedLevel entries zero nodes = AreLeavesOf entries nodes
IsPackedLevel entries (suc level) nodes =
    (below : List Node) × (2 ≤ length below) × IsPackedLevel entries level below
    × AreNodesAbove below nodes

-- the root of the tree that Sort-Tile-Recursive makes of these entries: the only node of its level
abbrev pub IsPackingOf : List Entry → Node → Type 0
IsPackingOf entries root = IsPackedLevel entries (level_of root) (root ∷ [])

-- the height of the tree that Sort-Tile-Recursive makes of `entries` entries: the least number of
-- levels that can hold them if each node is full, and 0 without entries
pub record IsPackedHeight (entries height : ℕ) : Type 0 where
  pub none : (height ≡ 0) ↔ (entries ≡ 0)
  pub enough : entries ≤ most ^ height
  pub least : (levels : ℕ) → entries ≤ most ^ suc levels → height ≤ suc levels
