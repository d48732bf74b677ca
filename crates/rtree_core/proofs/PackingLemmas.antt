-- How a list is cut into its pages one by one, and the levels of nodes that hold them.
use Rattle.std.proofs.Common.{arith, ◌≡◌, ℕ, zero, suc, ◌+◌, ◌-◌, ◌<◌, List, [], ◌∷◌, ◌++◌, length, map, take, drop, refl, sym, ◌∙◌, ap, subst, append-nil}
use Rattle.std.specs.Prelude.{Option, None, Some, IfSome}
use Rattle.std.specs.Int.{div_ceil}
use Rattle.std.specs.List.{enumerate_from, range_with_len}
use Rattle.std.specs.List.Sorted.{IsPermutation}
use Rattle.std.proofs.lemmas.List.{length-map, map-id, length-drop, map_push, get_or-map, drop-drop, drop-take, take_at, drop_at, take_all, drop_all}
use Rattle.std.proofs.lemmas.Simd.{map-map}
use Rattle.std.proofs.lemmas.List.FromFn.{map-range_with_len_more}
use Rattle.std.proofs.lemmas.List.Sorted.{IsPermutation-map, IsPermutation-trans, IsPermutation-refl, length_permutation}
use Rattle.geom_core.specs.declared.shape.Shape.{Shape}
use Rattle.split_core.specs.Limits.{most}
use Rattle.split_core.specs.Tiles.{key_x, key_y, items_before, slice_start, AreSlices, AreSorted, IsRootAbove, IsTileOrder}
use Rattle.split_core.proofs.PageLemmas.{before_back}
use Rattle.rtree_core.specs.declared.node.Entry.{Entry}
use Rattle.rtree_core.specs.declared.node.Node.{Node}
use Rattle.rtree_core.specs.declared.pack.Placed.{Placed}
use Rattle.rtree_core.specs.Packings.{page_at, pages_of, AreTilesOf, AreLeavesOf, AreNodesAbove, IsPackedLevel, IsPackingOf}
use Rattle.rtree_core.specs.Nodes.{own_entries, children_of, level_of}

-- a list whose items were put in another order in the slice of all of them
pub in_slice : {T : Type 0} (n : ℕ) (old new : List T) → n ≡ length old → IsPermutation old new → take n (new ++ drop (length new) old) ≡ new
in_slice n old new e perm =
    let len : length new ≡ length old = length_permutation old new perm in
    let none : drop (length new) old ≡ [] = drop_all (length new) old (omega arith) in
    rw (none, append-nil new) (take_all n new (omega arith))

-- one more item, with its place
enumerate_push : {T : Type 0} (n k : ℕ) (xs : List T) (x : T) → k ≡ n + length xs → enumerate_from n (xs ++ x ∷ []) ≡ enumerate_from n xs ++ (k, x) ∷ []
enumerate_push {T} n k [] x e = let first : n ≡ k = omega arith in ap {B = List (ℕ × T)} (λ j. (j, x) ∷ []) first
enumerate_push n k (y ∷ ys) x e = ap (λ zs. (n, y) ∷ zs) (enumerate_push (n + 1) k ys x (omega arith))

pub enumerate_next : {T : Type 0} (placed : List (ℕ × T)) (xs : List T) (k : ℕ) (x : T) → k ≡ length xs → placed ≡ enumerate_from 0 xs →
    placed ++ (k, x) ∷ [] ≡ enumerate_from 0 (xs ++ x ∷ [])
enumerate_next placed xs k x e is = ap (λ ps. ps ++ (k, x) ∷ []) is ∙ sym (enumerate_push 0 k xs x (omega arith))

-- these nodes have the first of the pages of the items, and the others remain
pub record HasPages {T : Type 0} (list_of : Node → List T) (items : List T) (pages place : ℕ) (nodes : List Node) (rest : List T) : Type 0 where
  pub cut : map list_of nodes ≡ map (page_at pages items) (range_with_len 0 place)
  pub left : rest ≡ drop (items_before place pages (length items)) items

module _ {T : Type 0} (list_of : Node → List T) where
  pub pages_none : (items : List T) (pages : ℕ) → HasPages list_of items pages 0 [] items
  pages_none items pages = record {
    cut = refl;
    left = let none : items_before 0 pages (length items) ≡ 0 = omega arith in rw none refl;
  }

  pub pages_more : (items : List T) (pages place : ℕ) (nodes : List Node) (rest page left : List T) (n : Node) →
      place < pages →
      HasPages list_of items pages place nodes rest →
      rest ≡ page ++ left →
      length page ≡ items_before 1 (pages - place) (length rest) →
      list_of n ≡ page →
      HasPages list_of items pages (place + 1) (nodes ++ n ∷ []) left
  pages_more items pages place nodes rest page left n lt has e size list =
      let before = items_before place pages (length items) in
      let len : length rest ≡ length items - before = ap length (has.left) ∙ length-drop before items in
      let end : before + length page ≡ items_before (place + 1) pages (length items) = rw (size, len) (before_back 1 place pages (length items) lt) in
      let page_is : page ≡ page_at pages items place =
      sym (take_at page left (length page) refl) ∙ ap (take (length page)) (sym e ∙ has.left) ∙ sym (drop-take before (length page) items)
      ∙ ap (λ k. drop before (take k items)) end in
      record {
        cut = map_push list_of nodes n ∙ ap (λ xs. map list_of nodes ++ xs ∷ []) (list ∙ page_is)
            ∙ ap (λ xs. xs ++ page_at pages items place ∷ []) has.cut
            ∙ sym (map-range_with_len_more (page_at pages items) 0 place place (omega arith));
        left = sym (drop_at page left (length page) refl) ∙ ap (drop (length page)) (sym e ∙ has.left) ∙ drop-drop (length page) before items
            ∙ ap (λ k. drop k items) end;
      }

  pub pages_all : (items : List T) (pages : ℕ) (nodes : List Node) (rest : List T) →
      pages ≡ div_ceil (length items) most →
      HasPages list_of items pages pages nodes rest →
      map list_of nodes ≡ pages_of items
  pages_all items pages nodes rest e has = has.cut ∙ ap (λ p. map (page_at p items) (range_with_len 0 p)) e

-- the tile order of a list is that of its image with the same covers and ranks
module _ {S T : Type 0} (f : S → T) (g : T → S) (cover : T → Shape) (rank : T → ℕ) where
  slices_mapped : (start : ℕ → ℕ) (items : List S) → AreSlices (key_x (λ x. cover (f x)) (λ x. rank (f x))) start items →
      AreSlices (key_x cover rank) start (map f items)
  slices_mapped start items all k i j d before from lt =
      let len = length-map items f in
      rw (get_or-map f items j (g d) d (omega arith), get_or-map f items i (g d) d (omega arith)) (all k i j (g d) before from (omega arith))

  sorted_mapped : (start : ℕ → ℕ) (items : List S) → AreSorted (key_y (λ x. cover (f x)) (λ x. rank (f x))) start items →
      AreSorted (key_y cover rank) start (map f items)
  sorted_mapped start items all k i j d from le before lt =
      let len = length-map items f in
      rw (get_or-map f items j (g d) d (omega arith), get_or-map f items i (g d) d (omega arith)) (all k i j (g d) from le before (omega arith))

  order_mapped : (items : List S) → IsTileOrder (λ x. cover (f x)) (λ x. rank (f x)) items → IsTileOrder cover rank (map f items)
  order_mapped items order slice root =
      let len = length-map items f in
      let tiled = order slice (subst (λ n. IsRootAbove (div_ceil n most) slice) len root) in
      record {
        slices = subst (λ n. AreSlices (key_x cover rank) (slice_start (div_ceil n most) slice n) (map f items)) (sym len)
            (slices_mapped _ items tiled.slices);
        sorted = subst (λ n. AreSorted (key_y cover rank) (slice_start (div_ceil n most) slice n) (map f items)) (sym len)
            (sorted_mapped _ items tiled.sorted);
      }

  pub tiles_mapped : {K : Type 0} (held : T → K) (list_of : Node → List K) (items : List S) (nodes : List Node) →
      AreTilesOf (λ x. cover (f x)) (λ x. rank (f x)) (λ x. held (f x)) list_of items nodes →
      AreTilesOf cover rank held list_of (map f items) nodes
  tiles_mapped held list_of items nodes tiles = record {
    tiled = map f tiles.tiled;
    same = IsPermutation-map f items tiles.tiled tiles.same;
    order = order_mapped tiles.tiled tiles.order;
    pages = tiles.pages ∙ ap pages_of (sym (map-map held f tiles.tiled));
  }

-- the nodes above some nodes, given with their indexes
pub nodes_above : (placed : List Placed) (below above : List Node) →
    map (λ p. (p.place, p.node)) placed ≡ enumerate_from 0 below →
    AreTilesOf (λ p. p.node.cover) (λ p. p.place) (λ p. p.node) children_of placed above →
    AreNodesAbove below above
nodes_above placed below above places tiles =
    subst (λ items. AreTilesOf (λ p. p.1.cover) (λ p. p.0) (λ p. p.1) children_of items above) places
    (tiles_mapped {S = Placed} {T = ℕ × Node} (λ p. (p.place, p.node)) (λ p. record { place = p.0; node = p.1 }) (λ p. p.1.cover) (λ p. p.0) (λ p. p.1)
    children_of placed above tiles)

-- the leaves of entries that are in their order
pub leaves_of : (entries : List Entry) (nodes : List Node) →
    IsTileOrder (λ e. e.shape) (λ e. e.number) entries →
    map own_entries nodes ≡ pages_of entries →
    AreLeavesOf entries nodes
leaves_of entries nodes order pages = record {
  tiled = entries;
  same = IsPermutation-refl entries;
  order = order;
  pages = pages ∙ ap pages_of (sym (map-id entries));
}

level_permuted : (old new : List Entry) (level : ℕ) (nodes : List Node) →
    IsPermutation old new →
    IsPackedLevel new level nodes →
    IsPackedLevel old level nodes
level_permuted old new zero nodes perm packed = record {
  tiled = packed.tiled;
  same = IsPermutation-trans old new packed.tiled perm packed.same;
  order = packed.order;
  pages = packed.pages;
}
level_permuted old new (suc level) nodes perm packed = (packed.0, packed.1, level_permuted old new level packed.0 perm packed.2, packed.3)

-- the order of the list has no bearing on the tree
packing_permuted : (old new : List Entry) (root : Node) → IsPermutation old new → IsPackingOf new root → IsPackingOf old root
packing_permuted old new root perm packed = level_permuted old new (level_of root) (root ∷ []) perm packed

pub tree_permuted : (old new : List Entry) (root : Option Node) → IsPermutation old new → IfSome root (IsPackingOf new) → IfSome root (IsPackingOf old)
tree_permuted old new None perm packed = tt
tree_permuted old new (Some root) perm packed = packing_permuted old new root perm packed
