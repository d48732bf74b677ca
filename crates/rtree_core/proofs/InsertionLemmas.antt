-- The effect of an insertion on a node, from its effect on the node's list.
use Rattle.std.proofs.Common.{arith, ◌≡◌, ℕ, suc, ◌+◌, ◌<◌, ◌≤◌, Bool, cond, List, [], ◌∷◌, ◌++◌, length, get_or, set, refl, sym, ◌∙◌, ap, subst, length-append}
use Rattle.std.proofs.Common.{length-set, get_or-set_same, vec_len, vec_capacity}
use Rattle.std.specs.Prelude.{All, count_by, sum_by, Option, None, Some, MatchOption}
use Rattle.std.specs.List.{flat_map}
use Rattle.std.specs.declared.alloc.Global.{Global}
use Rattle.std.specs.declared.vec.Vec.{Vec}
use Rattle.std.proofs.lemmas.List.Elements.{All-push, All-set, All-get_or}
use Rattle.std.proofs.lemmas.List.Sums.{sum_by-append, sum_by-cons, sum_by_push, sum_by-set}
use Rattle.geom_core.specs.declared.shape.Shape.{Shape}
use Rattle.geom_core.specs.Cells.{IsIn}
use Rattle.geom_core.specs.Shapes.{cover_of}
use Rattle.geom_core.proofs.ShapeLemmas.{in_cover_first, in_cover_second, cover_least}
use Rattle.rtree_core.specs.declared.node.Entry.{Entry}
use Rattle.rtree_core.specs.declared.node.Below.TheVariants.{outs-Children}
use Rattle.rtree_core.specs.declared.node.Node.{Node}
use Rattle.split_core.specs.Covers.{IsLeastCover}
use Rattle.rtree_core.specs.Insertions.{IsHalved, StaysOne, ComesInTwo, IsInserted}
use Rattle.rtree_core.specs.Items.{entry_alone, FitsLeaf, FitsInner, leaf_node, inner_node}
use Rattle.split_core.specs.Limits.{fewest}
use Rattle.rtree_core.specs.Nodes.{entries_of, level_of, size_of, IsPage, IsLawful, IsLawfulAt}
use Rattle.split_core.specs.Splits.{IsSplit}
use Rattle.split_core.proofs.CoverLemmas.{in_trans, AllIn, all_in, cover_grow, All-front, All-last, All-unset}
use Rattle.rtree_core.proofs.ItemLemmas.{leaf_entries, leaf_level, leaf_lawful, leaf_size, each_alone, inner_entries, inner_size, inner_lawful, inner_fits}
use Rattle.rtree_core.proofs.ItemLemmas.{count_below, Opened, open_inner, child_level}
use Rattle.rtree_core.proofs.NodeLemmas.{lawful_level}
use Rattle.split_core.proofs.SplitLemmas.{split_sums, split_all, split_back}

-- the cover of a shape and of the cover that includes it
within_cover : (c s : Shape) (t : Shape) → IsIn s t → IsIn c t → IsIn (cover_of c s) t
within_cover c s t h k = cover_least c s t k h

without_cover : (c s : Shape) (t : Shape) → IsIn (cover_of c s) t → IsIn s t × IsIn c t
without_cover c s t h = (in_trans s (cover_of c s) t (in_cover_second c s) h, in_trans c (cover_of c s) t (in_cover_first c s) h)

-- the covers of both groups of a split lie in a shape that contains the items, and conversely
halves_within : {T : Type 0} (cover : T → Shape) (items one two : List T) (c d t : Shape) →
    IsSplit cover items one two →
    IsLeastCover cover one c →
    IsLeastCover cover two d →
    AllIn cover t items →
    IsIn c t × IsIn d t
halves_within cover items one two c d t s p q h =
    let both = split_all cover (λ x. IsIn (cover x) t) items one two h s in
    (p.least t both.0, q.least t both.1)

halves_without : {T : Type 0} (cover : T → Shape) (items one two : List T) (c d t : Shape) →
    IsSplit cover items one two →
    IsLeastCover cover one c →
    IsLeastCover cover two d →
    IsIn c t →
    IsIn d t →
    AllIn cover t items
halves_without cover items one two c d t s p q h k =
    split_back cover (λ x. IsIn (cover x) t) items one two (all_in cover one c t p h) (all_in cover two d t q k) s

-- an entry came to the end of a leaf's list
leaf_stays : (c d : Shape) (v w : Vec Entry Global) (x : Entry) →
    IsPage (λ e. e.shape) c v →
    IsPage (λ e. e.shape) d w →
    w.items ≡ v.items ++ x ∷ [] →
    StaysOne (x ∷ []) x.shape (leaf_node c v) (leaf_node d w)
leaf_stays c d v w x page grown items =
    let tight : IsLeastCover (λ e. e.shape) (v.items ++ x ∷ []) d = rw items at grown.tight in
    record {
      gains = λ p. rw (leaf_entries c v, leaf_entries d w, items) (omega
          (arith, sum_by-cons (λ y. cond (p y) 1 0) x v.items, sum_by_push (λ y. cond (p y) 1 0) v.items x));
      lawful = rw (leaf_level c v) (leaf_lawful d w grown);
      bigger = rw (leaf_size c v, leaf_size d w) (omega (arith, v.ok.0, w.ok.0, ap length items, length-append v.items (x ∷ [])));
      within = λ t h k. tight.least t (All-push (λ y. IsIn y.shape t) v.items x (all_in (λ y. y.shape) v.items c t page.tight k) h);
      without = λ t h.
          let all = all_in (λ y. y.shape) (v.items ++ x ∷ []) d t tight h in
          (All-last (λ y. IsIn y.shape t) v.items x all, page.tight.least t (All-front (λ y. IsIn y.shape t) v.items (x ∷ []) all));
    }

-- the leaf was split
leaf_two : (c d : Shape) (v w : Vec Entry Global) (x : Entry) (n : Node) →
    IsPage (λ e. e.shape) c v →
    IsPage (λ e. e.shape) d w →
    IsHalved (λ e. e.shape) entry_alone FitsLeaf (v.items ++ x ∷ []) w.items n →
    ComesInTwo (x ∷ []) x.shape (leaf_node c v) (leaf_node d w) n
leaf_two c d v w x n page one halved =
    let other : entries_of n ≡ halved.two = halved.node.entries_are ∙ each_alone halved.two in
    record {
      gains = λ r.
          let count : Entry → ℕ = λ y. cond (r y) 1 0 in
          rw (leaf_entries c v, leaf_entries d w, other)
          (omega (
            arith,
            sum_by-cons count x v.items,
            sum_by_push count v.items x,
            sum_by-append count w.items halved.two,
            split_sums (λ y. y.shape) count
                (v.items ++ x ∷ []) w.items halved.two halved.groups.split,
          ));
      one_lawful = rw (leaf_level c v) (leaf_lawful d w one);
      two_lawful = rw (leaf_level c v) (halved.node.lawful 0 (λ k e lt. refl));
      one_enough = rw (leaf_size d w) (omega (arith, halved.groups.one_enough, w.ok.0));
      two_enough = omega (arith, halved.groups.two_enough, halved.node.size);
      within = λ t h k.
          halves_within (λ y. y.shape) (v.items ++ x ∷ []) w.items halved.two d n.cover t halved.groups.split one.tight halved.node.tight
          (All-push (λ y. IsIn y.shape t) v.items x (all_in (λ y. y.shape) v.items c t page.tight k) h);
      without = λ t h k.
          let all = halves_without (λ y. y.shape) (v.items ++ x ∷ []) w.items halved.two d n.cover t halved.groups.split one.tight halved.node.tight h k in
          (All-last (λ y. IsIn y.shape t) v.items x all, page.tight.least t (All-front (λ y. IsIn y.shape t) v.items (x ∷ []) all));
    }

pub leaf_added : (c d : Shape) (v w : Vec Entry Global) (x : Entry) (half : Option Node) →
    IsPage (λ e. e.shape) c v →
    IsPage (λ e. e.shape) d w →
    MatchOption half (w.items ≡ v.items ++ x ∷ []) (IsHalved (λ e. e.shape) entry_alone FitsLeaf (v.items ++ x ∷ []) w.items) →
    IsInserted (x ∷ []) x.shape (leaf_node c v) (leaf_node d w) half
leaf_added c d v w x None page new items = leaf_stays c d v w x page new items
leaf_added c d v w x (Some n) page new halved = leaf_two c d v w x n page new halved

-- the entries came into a child, which was not split
pub inner_stays : (added : List Entry) (s c d : Shape) (v w : Vec Node Global) (o : Opened c v) (i : ℕ) (x y : Node) →
    i < length v.items →
    x ≡ get_or v.items i x →
    StaysOne added s x y →
    w.items ≡ set v.items i y →
    vec_len w ≡ vec_len v →
    vec_capacity w ≡ vec_capacity v →
    d ≡ cover_of c s →
    StaysOne added s (inner_node c v) (inner_node d w)
inner_stays added s c d v w o i x y lt at stays items len room e =
    let level_is = lawful_level o.level x (child_level c v o i x lt at) in
    let grown : IsLawfulAt o.level y = rw level_is at stays.lawful in
    let enough : fewest ≤ size_of y = omega (
      arith,
      stays.bigger,
      subst (λ n. fewest ≤ size_of n) (sym at)
          (All-get_or (λ n. fewest ≤ size_of n) v.items i x lt o.inner.enough),
    ) in
    record {
      gains = λ p.
          let f : Node → ℕ = λ n. count_by p (entries_of n) in
          let count : Entry → ℕ = λ z. cond (p z) 1 0 in
          let changed : sum_by f (set v.items i y) + f x ≡ sum_by f v.items + f y = subst (λ z. sum_by f (set v.items i y) + f z ≡ sum_by f v.items + f y)
          (sym at) (sum_by-set f v.items i y x lt) in
          rw (inner_entries c v, inner_entries d w, items)
          (omega (
            arith,
            sum_by-append count added (flat_map entries_of v.items),
            count_below p v.items,
            count_below p
                (set v.items i y),
            changed,
            stays.gains p,
            sum_by-append count added (entries_of x),
          ));
      lawful = rw (o.level_is, outs-Children) (record {
        page = record {
          some = omega (arith, o.inner.page.some);
          few = omega (arith, o.inner.page.few);
          room = omega (arith, o.inner.page.room);
          tight = rw (items, e) (cover_grow (λ n. n.cover) v.items i x y c s o.inner.page.tight lt at stays.within stays.without);
        };
        children = rw items (All-set (IsLawfulAt o.level) v.items i y grown o.inner.children);
        enough = rw items (All-set (λ n. fewest ≤ size_of n) v.items i y enough o.inner.enough);
      });
      bigger = rw (inner_size c v, inner_size d w) (omega arith);
      within = λ t h k. rw e (within_cover c s t h k);
      without = λ t h. without_cover c s t (rw e at h);
    }

-- a list of children that holds an inner node's items and the added entries: with the same sums,
-- and in the same shapes with s
pub record Replaces (added : List Entry) (s c : Shape) (v : Vec Node Global) (xs : List Node) : Type 0 where
  pub longer : vec_len v ≤ length xs
  pub sums : (p : Entry → Bool) → sum_by (λ n. count_by p (entries_of n)) xs ≡ count_by p (added ++ flat_map entries_of v.items)
  pub into : (t : Shape) → IsIn s t → IsIn c t → AllIn (λ n. n.cover) t xs
  pub out : (t : Shape) → AllIn (λ n. n.cover) t xs → IsIn s t × IsIn c t

-- the node of such a list has the entries, and so have the two halves if it was split
module _ (added : List Entry) (s c : Shape) (v : Vec Node Global) (o : Opened c v) (xs : List Node) (r : Replaces added s c v xs)
    (fit : All (FitsInner (suc o.level)) xs) where
  inner_grows : (d : Shape) (w : Vec Node Global) →
      IsPage (λ n. n.cover) d w →
      w.items ≡ xs →
      StaysOne added s (inner_node c v) (inner_node d w)
  inner_grows d w page items =
      let tight : IsLeastCover (λ n. n.cover) xs d = rw items at page.tight in
      record {
        gains = λ p. rw (inner_entries c v, inner_entries d w, items) (omega (arith, r.sums p, count_below p xs));
        lawful = rw o.level_is (inner_lawful (suc o.level) d w page (rw items fit));
        bigger = rw (inner_size c v, inner_size d w) (omega (arith, w.ok.0, ap length items, r.longer));
        within = λ t h k. tight.least t (r.into t h k);
        without = λ t h. r.out t (all_in (λ n. n.cover) xs d t tight h);
      }

  inner_splits : (d : Shape) (w : Vec Node Global) (n : Node) →
      IsPage (λ n. n.cover) d w →
      IsHalved (λ m. m.cover) entries_of FitsInner xs w.items n →
      ComesInTwo added s (inner_node c v) (inner_node d w) n
  inner_splits d w n page halved =
      let both = split_all (λ m. m.cover) (FitsInner (suc o.level)) xs w.items halved.two fit halved.groups.split in
      record {
        gains = λ p.
            let f : Node → ℕ = λ m. count_by p (entries_of m) in
            let count : Entry → ℕ = λ e. cond (p e) 1 0 in
            rw (inner_entries c v, inner_entries d w, halved.node.entries_are)
            (omega (
              arith,
              r.sums p,
              sum_by-append count (flat_map entries_of w.items) (flat_map entries_of halved.two),
              count_below p w.items,
              count_below
                  p halved.two,
              split_sums (λ m. m.cover) f xs w.items halved.two halved.groups.split,
            ));
        one_lawful = rw o.level_is (inner_lawful (suc o.level) d w page both.0);
        two_lawful = rw o.level_is (halved.node.lawful (suc o.level) both.1);
        one_enough = rw (inner_size d w) (omega (arith, halved.groups.one_enough, w.ok.0));
        two_enough = omega (arith, halved.groups.two_enough, halved.node.size);
        within = λ t h k. halves_within (λ m. m.cover) xs w.items halved.two d n.cover t halved.groups.split page.tight halved.node.tight (r.into t h k);
        without = λ t h k. r.out t (halves_without (λ m. m.cover) xs w.items halved.two d n.cover t halved.groups.split page.tight halved.node.tight h k);
      }

  pub inner_added : (d : Shape) (w : Vec Node Global) (half : Option Node) →
      IsPage (λ n. n.cover) d w →
      MatchOption half (w.items ≡ xs) (IsHalved (λ m. m.cover) entries_of FitsInner xs w.items) →
      IsInserted added s (inner_node c v) (inner_node d w) half
  inner_added d w None page items = inner_grows d w page items
  inner_added d w (Some n) page halved = inner_splits d w n page halved

-- the entries came into a child, whose second half came to the list's end
pub replaces_two : (added : List Entry) (s c : Shape) (v : Vec Node Global) (o : Opened c v) (i : ℕ) (x y z : Node) →
    i < length v.items →
    x ≡ get_or v.items i x →
    ComesInTwo added s x y z →
    Replaces added s c v (set v.items i y ++ z ∷ [])
replaces_two added s c v o i x y z lt at two = record {
  longer = omega (arith, v.ok.0, length-append (set v.items i y) (z ∷ []), length-set v.items i y);
  sums = λ p.
      let f : Node → ℕ = λ n. count_by p (entries_of n) in
      let count : Entry → ℕ = λ e. cond (p e) 1 0 in
      let changed : sum_by f (set v.items i y) + f x ≡ sum_by f v.items + f y = subst (λ n. sum_by f (set v.items i y) + f n ≡ sum_by f v.items + f y)
      (sym at) (sum_by-set f v.items i y x lt) in
      omega (
        arith,
        sum_by_push f (set v.items i y) z,
        sum_by-append count added (flat_map entries_of v.items),
        count_below p v.items,
        changed,
        two.gains
            p,
        sum_by-append count added (entries_of x),
        sum_by-append count (entries_of y) (entries_of z),
      );
  into = λ t h k.
      let all = all_in (λ n. n.cover) v.items c t o.inner.page.tight k in
      let both = two.within t h (subst (λ n. IsIn n.cover t) (sym at) (all i x lt)) in
      All-push (λ n. IsIn n.cover t) (set v.items i y) z (All-set (λ n. IsIn n.cover t) v.items i y both.0 all) both.1;
  out = λ t all.
      let front = All-front (λ n. IsIn n.cover t) (set v.items i y) (z ∷ []) all in
      let last = All-last (λ n. IsIn n.cover t) (set v.items i y) z all in
      let here : IsIn y.cover t = subst (λ n. IsIn n.cover t) (get_or-set_same v.items i y x lt) (front i x (rw length-set lt)) in
      let both = two.without t here last in
      (both.0, o.inner.page.tight.least t (All-unset (λ n. IsIn n.cover t) v.items i y x (subst (λ n. IsIn n.cover t) at both.1) front));
}

-- a node came to the list's end
pub replaces_one : (c : Shape) (v : Vec Node Global) (o : Opened c v) (z : Node) → Replaces (entries_of z) z.cover c v (v.items ++ z ∷ [])
replaces_one c v o z = record {
  longer = omega (arith, v.ok.0, length-append v.items (z ∷ []));
  sums = λ p.
      let f : Node → ℕ = λ n. count_by p (entries_of n) in
      let count : Entry → ℕ = λ e. cond (p e) 1 0 in
      omega (arith, sum_by_push f v.items z, sum_by-append count (entries_of z) (flat_map entries_of v.items), count_below p v.items);
  into = λ t h k. All-push (λ n. IsIn n.cover t) v.items z (all_in (λ n. n.cover) v.items c t o.inner.page.tight k) h;
  out = λ t all. (All-last (λ n. IsIn n.cover t) v.items z all, o.inner.page.tight.least t (All-front (λ n. IsIn n.cover t) v.items (z ∷ []) all));
}

-- a node came to an inner node's list
pub child_added : (c d : Shape) (v w : Vec Node Global) (z : Node) (half : Option Node) →
    IsLawful (inner_node c v) →
    FitsInner (level_of (inner_node c v)) z →
    IsPage (λ m. m.cover) d w →
    MatchOption half (w.items ≡ v.items ++ z ∷ []) (IsHalved (λ m. m.cover) entries_of FitsInner (v.items ++ z ∷ []) w.items) →
    IsInserted (entries_of z) z.cover (inner_node c v) (inner_node d w) half
child_added c d v w z half lawful fits page items =
    let o = open_inner c v lawful in
    let fit = All-push (FitsInner (suc o.level)) v.items z (inner_fits c v o) (subst (λ l. FitsInner l z) o.level_is fits) in
    inner_added (entries_of z) z.cover c v o (v.items ++ z ∷ []) (replaces_one c v o z) fit d w half page items

-- the entries came into a child, which was split
pub child_split : (added : List Entry) (s c : Shape) (v : Vec Node Global) (o : Opened c v) (i : ℕ) (x y z : Node) (d : Shape) (w : Vec Node Global)
    (half : Option Node) →
    i < length v.items →
    x ≡ get_or v.items i x →
    ComesInTwo added s x y z →
    IsPage (λ m. m.cover) d w →
    MatchOption half (w.items ≡ set v.items i y ++ z ∷ []) (IsHalved (λ m. m.cover) entries_of FitsInner (set v.items i y ++ z ∷ []) w.items) →
    IsInserted added s (inner_node c v) (inner_node d w) half
child_split added s c v o i x y z d w half lt at two page items =
    let level = lawful_level o.level x (child_level c v o i x lt at) in
    let one_fits : FitsInner (suc o.level) y = (rw level at two.one_lawful, two.one_enough) in
    let two_fits : FitsInner (suc o.level) z = (rw level at two.two_lawful, two.two_enough) in
    let fit = All-push (FitsInner (suc o.level)) (set v.items i y) z (All-set (FitsInner (suc o.level)) v.items i y one_fits (inner_fits c v o)) two_fits in
    inner_added added s c v o (set v.items i y ++ z ∷ []) (replaces_two added s c v o i x y z lt at two) fit d w half page items
