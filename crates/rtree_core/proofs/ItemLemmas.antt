-- A node by its list: its entries, its level, its size, and when it is lawful and packed.
use Rattle.std.proofs.Common.{arith, ◌≡◌, ℕ, zero, suc, ◌<◌, ◌≤◌, Bool, cond, List, [], ◌∷◌, length, get_or, refl, sym, ◌∙◌, ap, subst, vec_len, max, map}
use Rattle.std.proofs.Common.{add-one}
use Rattle.std.specs.Prelude.{All, count_by, sum_by}
use Rattle.std.specs.List.{flat_map, fold}
use Rattle.std.specs.declared.alloc.Global.{Global}
use Rattle.std.specs.declared.vec.Vec.{Vec}
use Rattle.std.proofs.lemmas.List.Elements.{All-head, All-get_or, All-weaker}
use Rattle.std.proofs.lemmas.List.Sums.{sum_by-append, sum_by-cons}
use Rattle.geom_core.specs.declared.shape.Shape.{Shape}
use Rattle.rtree_core.specs.declared.node.Entry.{Entry}
use Rattle.rtree_core.specs.declared.node.Below.TheVariants.{outs-Entries, outs-Children, Entries as made_entries, Children as made_children}
use Rattle.rtree_core.specs.declared.node.Node.{Node}
use Rattle.split_core.specs.Covers.{IsLeastCover}
use Rattle.rtree_core.specs.Items.{entry_alone, FitsLeaf, FitsInner, IsNodeList, IsNodeOf, leaf_node, inner_node}
use Rattle.split_core.specs.Limits.{fewest}
use Rattle.rtree_core.specs.Nodes.{entries_of, level_of, size_of, IsPage, IsInner, IsLawfulAt, IsLawful}
use Rattle.rtree_core.proofs.NodeLemmas.{entries_leaf, level_leaf, entries_inner, level_inner}

-- a leaf by its list
pub leaf_entries : (c : Shape) (v : Vec Entry Global) → entries_of (leaf_node c v) ≡ v.items
leaf_entries c v = entries_leaf (leaf_node c v) v (outs-Entries v)

pub leaf_level : (c : Shape) (v : Vec Entry Global) → level_of (leaf_node c v) ≡ 0
leaf_level c v = level_leaf (leaf_node c v) v (outs-Entries v)

pub leaf_lawful : (c : Shape) (v : Vec Entry Global) → IsPage (λ e. e.shape) c v → IsLawfulAt 0 (leaf_node c v)
leaf_lawful c v h = rw outs-Entries h

pub leaf_size : (c : Shape) (v : Vec Entry Global) → size_of (leaf_node c v) ≡ vec_len v
leaf_size c v = rw outs-Entries refl

-- an inner node by its list
pub inner_entries : (c : Shape) (v : Vec Node Global) → entries_of (inner_node c v) ≡ flat_map entries_of v.items
inner_entries c v = entries_inner (inner_node c v) v (outs-Children v)

pub inner_size : (c : Shape) (v : Vec Node Global) → size_of (inner_node c v) ≡ vec_len v
inner_size c v = rw outs-Children refl

-- how many of the entries below some nodes pass a test
pub count_below : (p : Entry → Bool) (xs : List Node) → count_by p (flat_map entries_of xs) ≡ sum_by (λ n. count_by p (entries_of n)) xs
count_below p [] = refl
count_below p (x ∷ xs) =
    omega (
      arith,
      sum_by-append (λ y. cond (p y) 1 0) (entries_of x) (flat_map entries_of xs),
      count_below p xs,
      sum_by-cons
          (λ n. count_by p (entries_of n)) x xs,
    )

-- a lawful inner node, with the level of its children
pub record Opened (c : Shape) (v : Vec Node Global) : Type 0 where
  pub level : ℕ
  pub level_is : level_of (inner_node c v) ≡ suc level
  pub inner : IsInner (IsLawfulAt level) c v

pub open_inner : (c : Shape) (v : Vec Node Global) → IsLawful (inner_node c v) → Opened c v
open_inner c v h =
    let level_is : level_of (inner_node c v) ≡ suc (fold max 0 (map level_of v.items)) = level_inner (inner_node c v) v (outs-Children v) ∙ add-one _ in
    record {
      level = fold max 0 (map level_of v.items);
      level_is = level_is;
      inner = rw outs-Children at (rw level_is at h);
    }

-- a child of it has that level
pub child_level : (c : Shape) (v : Vec Node Global) (o : Opened c v) (i : ℕ) (x : Node) → i < length v.items → x ≡ get_or v.items i x → IsLawfulAt o.level x
child_level c v o i x lt at = subst (IsLawfulAt o.level) (sym at) (All-get_or (IsLawfulAt o.level) v.items i x lt o.inner.children)

-- a list with its cover
pub list_page : {T : Type 0} (cover : T → Shape) (c : Shape) (v : Vec T Global) → IsNodeList v → IsLeastCover cover v.items c → IsPage cover c v
list_page cover c v list tight = record { some = list.some; few = list.few; room = list.room; tight = tight }

pub page_list : {T : Type 0} (cover : T → Shape) (c : Shape) (v : Vec T Global) → IsPage cover c v → IsNodeList v
page_list cover c v page = record { some = page.some; few = page.few; room = page.room }

pub each_alone : (es : List Entry) → flat_map entry_alone es ≡ es
each_alone [] = refl
each_alone (e ∷ es) = ap (λ xs. e ∷ xs) (each_alone es)

leaf_is_lowest : (level : ℕ) (es : List Entry) → 0 < length es → All (FitsLeaf level) es → level ≡ 0
leaf_is_lowest level [] some all = absurd (omega arith)
leaf_is_lowest level (e ∷ es) some all = All-head (FitsLeaf level) e es all

-- the leaf of a list
pub leaf_made : (c : Shape) (v : Vec Entry Global) → IsNodeList v → IsLeastCover (λ e. e.shape) v.items c → IsNodeOf (λ e. e.shape) entry_alone FitsLeaf
    v.items (leaf_node c v)
leaf_made c v list tight = record {
  size = omega (arith, leaf_size c v, v.ok.0);
  entries_are = leaf_entries c v ∙ sym (each_alone v.items);
  tight = tight;
  lawful = λ level all. subst (λ l. IsLawfulAt l (leaf_node c v)) (sym (leaf_is_lowest level v.items (omega (arith, v.ok.0, list.some)) all))
      (leaf_lawful c v (list_page (λ e. e.shape) c v list tight));
}

none_fits : (ns : List Node) → 0 < length ns → All (FitsInner 0) ns → ⊥
none_fits [] some all = omega arith
none_fits (n ∷ ns) some all = All-head (FitsInner 0) n ns all

pub inner_lawful : (level : ℕ) (c : Shape) (v : Vec Node Global) → IsPage (λ n. n.cover) c v → All (FitsInner level) v.items → IsLawfulAt level (inner_node c v)
inner_lawful zero c v page all = absurd (none_fits v.items (omega (arith, v.ok.0, page.some)) all)
inner_lawful (suc level) c v page all =
    rw outs-Children (record {
      page = page;
      children = All-weaker (FitsInner (suc level)) (IsLawfulAt level) (λ n h. h.0) v.items all;
      enough = All-weaker (FitsInner (suc level)) (λ n. fewest ≤ size_of n) (λ n h. h.1) v.items all;
    })

-- the inner node of a list
-- the cover of a list that a slice shows
pub cover_of_items : {T : Type 0} (cover : T → Shape) (slice items : List T) (c : Shape) → slice ≡ items → IsLeastCover cover slice c → IsLeastCover cover items c
cover_of_items cover slice items c same tight = subst (λ xs. IsLeastCover cover xs c) same tight

pub inner_made : (c : Shape) (v : Vec Node Global) → IsNodeList v → IsLeastCover (λ n. n.cover) v.items c → IsNodeOf (λ n. n.cover) entries_of FitsInner
    v.items (inner_node c v)
inner_made c v list tight = record {
  size = omega (arith, inner_size c v, v.ok.0);
  entries_are = inner_entries c v;
  tight = tight;
  lawful = λ level all. inner_lawful level c v (list_page (λ n. n.cover) c v list tight) all;
}

-- its children are ones that it may hold
pub inner_fits : (c : Shape) (v : Vec Node Global) (o : Opened c v) → All (FitsInner (suc o.level)) v.items
inner_fits c v o k d lt = (o.inner.children k d lt, o.inner.enough k d lt)

-- a node that was found to have entries
pub as_leaf : (n : Node) (v : Vec Entry Global) → n.below ≡ made_entries v → n ≡ leaf_node n.cover v
as_leaf n v e = ap (λ b. record { cover = n.cover; below = b }) e

pub as_leaf_level : (n : Node) (v : Vec Entry Global) → n.below ≡ made_entries v → level_of n ≡ 0
as_leaf_level n v e = ap level_of (as_leaf n v e) ∙ leaf_level n.cover v

-- a node that was found to have children
pub as_inner : (n : Node) (v : Vec Node Global) → n.below ≡ made_children v → n ≡ inner_node n.cover v
as_inner n v e = ap (λ b. record { cover = n.cover; below = b }) e
