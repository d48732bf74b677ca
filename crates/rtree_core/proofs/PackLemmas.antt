-- How a list of items is cut into the nodes of the level above, and the effect on the whole.
use Rattle.std.proofs.Common.{arith, ◌≡◌, ℕ, zero, suc, ◌+◌, ◌-◌, ◌*◌, ◌/◌, ◌%◌, ◌^◌, ◌<◌, ◌≤◌, Bool, cond, inl, inr, List, [], ◌∷◌, ◌++◌, map, min, length, refl}
use Rattle.std.proofs.Common.{sym, ◌∙◌, ap, subst, append_assoc, append-nil, length-append, take, drop}
use Rattle.std.specs.Prelude.{All, Option, IfSome, Result, IfOk, count_by, sum_by, vec_len, vec_capacity}
use Rattle.std.specs.declared.alloc.Global.{Global}
use Rattle.std.specs.declared.vec.Vec.{Vec}
use Rattle.std.specs.Int.{div_ceil}
use Rattle.std.specs.List.{flat_map}
use Rattle.std.specs.List.Sorted.{IsPermutation}
use Rattle.std.proofs.Math.Nat.{mul-le-mul_left}
use Rattle.std.proofs.lemmas.Bool.{cases_lt}
use Rattle.std.proofs.lemmas.Bool.Decides.{nat_tests}
use Rattle.std.proofs.lemmas.Result.{IfOk-weaker}
use Rattle.std.proofs.lemmas.List.{flat_map_more, length-map}
use Rattle.std.proofs.lemmas.List.Concat.{flat_map-append}
use Rattle.std.proofs.lemmas.List.Elements.{All-nil, All-head, All-tail, All-push, All-append}
use Rattle.std.proofs.lemmas.List.Sorted.{All-permutation, sum_by-IsPermutation, length_permutation, IsPermutation-map}
use Rattle.std.proofs.lemmas.List.Sums.{sum_by-append, sum_by-cons}
use Rattle.geom_core.specs.declared.shape.Shape.{Shape}
use Rattle.split_core.specs.Limits.{most}
use Rattle.split_core.specs.Tiles.{IsTileOrder}
use Rattle.rtree_core.specs.declared.node.Entry.{Entry}
use Rattle.rtree_core.specs.declared.node.Node.{Node}
use Rattle.rtree_core.specs.declared.pack.Placed.{Placed}
use Rattle.split_core.specs.Collections.{HasSame}
use Rattle.rtree_core.specs.Items.{entry_alone, FitsLeaf, FitsInner, IsNodeOf}
use Rattle.rtree_core.specs.Nodes.{entries_of, children_of, size_of, IsLawfulAt}
use Rattle.rtree_core.specs.Packed.{half_full, IsPackedAt, HasU32, FitsPacked, IsPackedOf, AreNodesOf, IsPackedTree, IsShare, IsNextPage}
use Rattle.rtree_core.specs.Packings.{AreLeavesOf, AreNodesAbove, IsPackedLevel, IsPackingOf, AreTilesOf, pages_of}
use Rattle.rtree_core.specs.Trees.{entries_in, has_number}
use Rattle.split_core.proofs.TileLemmas.{same_permuted}
use Rattle.split_core.proofs.CoverLemmas.{All-front, All-back}
use Rattle.rtree_core.proofs.NodeLemmas.{lawful_level, lawful_is}
use Rattle.rtree_core.proofs.TreeLemmas.{all_below, count_below_n}
use Rattle.rtree_core.proofs.ItemLemmas.{each_alone}
use Rattle.rtree_core.proofs.PackingLemmas.{in_slice, tree_permuted}

-- numbers that differ do so in another order
distinct_permuted : (old new : List Entry) → IsPermutation old new → ((k : ℕ) → count_by (has_number k) old ≤ 1) → (k : ℕ) → count_by (has_number k) new ≤ 1
distinct_permuted old new perm distinct k =
    let counted : Entry → ℕ = λ x. cond (has_number k x) 1 0 in
    omega (arith, distinct k, sum_by-IsPermutation counted old new perm)

-- the effect on a list of sorting the slice of all its items
pub list_permuted : {T : Type 0} (n : ℕ) (old slice new : List T) →
    slice ≡ old →
    length slice ≡ n →
    IsPermutation slice new →
    IsPermutation old (take n (new ++ drop (length new) old))
list_permuted n old slice new all len perm = rw (← all, in_slice n slice new (sym len) perm) perm

pub list_tiled : {T : Type 0} (cover : T → Shape) (rank : T → ℕ) (n : ℕ) (old slice new : List T) →
    slice ≡ old →
    length slice ≡ n →
    IsPermutation slice new →
    IsTileOrder cover rank new →
    IsTileOrder cover rank (take n (new ++ drop (length new) old))
list_tiled cover rank n old slice new all len perm order =
    subst (λ xs. IsTileOrder cover rank (take n (new ++ drop (length new) xs))) all
    (subst (IsTileOrder cover rank) (sym (in_slice n slice new (sym len) perm)) order)

pub list_distinct : (n : ℕ) (old slice new : List Entry) →
    slice ≡ old →
    length slice ≡ n →
    IsPermutation slice new →
    ((k : ℕ) → count_by (has_number k) old ≤ 1) →
    (k : ℕ) →
    count_by (has_number k) (take n (new ++ drop (length new) old)) ≤ 1
list_distinct n old slice new all len perm distinct = distinct_permuted old _ (list_permuted n old slice new all len perm) distinct

-- and the tree of which it becomes a level
pub list_same : (n : ℕ) (old slice new others : List Entry) →
    slice ≡ old →
    length slice ≡ n →
    IsPermutation slice new →
    HasSame (take n (new ++ drop (length new) old)) others →
    HasSame old others
list_same n old slice new others all len perm same = same_permuted _ _ others (list_permuted n old slice new all len perm) same

pub list_packed : (n : ℕ) (old slice new : List Entry) (root : Option Node) →
    slice ≡ old →
    length slice ≡ n →
    IsPermutation slice new →
    IfSome root (IsPackingOf (take n (new ++ drop (length new) old))) →
    IfSome root (IsPackingOf old)
list_packed n old slice new root all len perm packed = tree_permuted _ _ root (list_permuted n old slice new all len perm) packed

-- a page before its first item, and with one more
pub page_none : {S T : Type 0} (held : S → T) (InRange : T → Type 0) (items : List S) (page : Vec T Global) →
    page.items ≡ [] →
    vec_len page ≡ 0 →
    most + 1 ≤ vec_capacity page →
    IsNextPage held InRange 0 items items page
page_none held InRange items page none len room = record {
  taken = rw none refl;
  len = len;
  room = room;
  in_range = rw none (All-nil InRange);
}

pub page_more : {S T : Type 0} (held : S → T) (InRange : T → Type 0) (size : ℕ) (old rest left : List S) (page more : Vec T Global) (x : S) (y : T) →
    IsNextPage held InRange size old rest page →
    rest ≡ x ∷ left →
    y ≡ held x →
    InRange (held x) →
    more.items ≡ page.items ++ y ∷ [] →
    vec_len more ≡ vec_len page + 1 →
    vec_capacity more ≡ vec_capacity page →
    IsNextPage held InRange (size + 1) old left more
page_more held InRange size old rest left page more x y was next is known items len capacity = record {
  taken = rw (items, is) (was.taken ∙ ap (λ xs. page.items ++ map held xs) next ∙ sym (append_assoc page.items (held x ∷ []) (map held left)));
  len = omega (arith, was.len, len);
  room = omega (arith, was.room, capacity);
  in_range = rw (items, is) (All-push InRange page.items (held x) was.in_range known);
}

-- so it is of a tree that was made, or wasn't
pub tree_same : {E : Type 0} (n : ℕ) (old slice new : List Entry) (made : Result (Option Node) E) →
    slice ≡ old →
    length slice ≡ n →
    IsPermutation slice new →
    IfOk made (λ t. HasSame (take n (new ++ drop (length new) old)) (entries_in t)) →
    IfOk made (λ t. HasSame old (entries_in t))
tree_same n old slice new made all len perm = IfOk-weaker made _ _ (λ t same. list_same n old slice new (entries_in t) all len perm same)

pub tree_packed : {E : Type 0} (n : ℕ) (old slice new : List Entry) (made : Result (Option Node) E) →
    slice ≡ old →
    length slice ≡ n →
    IsPermutation slice new →
    IfOk made (λ t. IfSome t (IsPackingOf (take n (new ++ drop (length new) old)))) →
    IfOk made (λ t. IfSome t (IsPackingOf old))
tree_packed n old slice new made all len perm = IfOk-weaker made _ _ (λ t packed. list_packed n old slice new t all len perm packed)

-- the last item of a list of one
pub only_one : {T : Type 0} (all front : List T) (x : T) → all ≡ front ++ x ∷ [] → length all ≤ 1 → all ≡ x ∷ []
only_one all [] x e h = e
only_one all (y ∷ ys) x e h = absurd (omega (arith, ap length e, length-append ys (x ∷ [])))

-- a number whose square is as large as a number above 0 is above 0
pub root_some : (m n : ℕ) → n ≤ m * m → 0 < n → 0 < m
root_some zero n h some = absurd (omega arith)
root_some (suc m) n h some = omega arith

-- the shares of equal pages, with one more in the foremost
share_most : (q r o m : ℕ) → r < o + 1 → (o + 1) * q + r ≤ m * (o + 1) → q + min 1 r ≤ m
share_most q r o m lt h =
    elim (cases_lt m q) [
      | inl more ↦ let wide : m + 1 ≤ q = omega arith in absurd (omega (arith, mul-le-mul_left (o + 1) wide))
      | inr less ↦ elim (cases_lt q m) [
        | inl below ↦ omega arith
        | inr up ↦ let same : q ≡ m = omega arith in omega (arith, mul-le-mul_left (o + 1) up)
      ]
    ]

share_least : (q r o m : ℕ) → r < o + 1 → m * (o + 1) ≤ (o + 1) * q + r → m ≤ q
share_least q r o m lt h =
    elim (cases_lt q m) [
      | inl more ↦ let wide : q + 1 ≤ m = omega arith in absurd (omega (arith, mul-le-mul_left (o + 1) wide))
      | inr less ↦ less
    ]

-- a share is no more than all
pub share_within : (size items pages : ℕ) → 0 < pages → IsShare size items pages → size ≤ items
share_within size items pages some share = share.at_most items (omega (arith, mul-le-mul_left items some))

share_few : (q r o m : ℕ) → r < o + 1 → (o + 1) * q + r ≤ m * (o + 1) → (o + 1) * q + r ≤ m * o + (q + min 1 r)
share_few q r o m lt h =
    elim (cases_lt q m) [
      | inl below ↦ let wide : q + 1 ≤ m = omega arith in omega (arith, mul-le-mul_left o wide)
      | inr up ↦ let wide : m ≤ q = up in omega (arith, share_most q r o m lt h, mul-le-mul_left o (share_most q r o m lt h))
    ]

share_many : (q r o m : ℕ) → r < o + 1 → m * (o + 1) ≤ (o + 1) * q + r → m * o + (q + min 1 r) ≤ (o + 1) * q + r
share_many q r o m lt h = omega (arith, mul-le-mul_left o (share_least q r o m lt h))

pub share_of : (size items pages : ℕ) → 0 < pages → size ≡ 1 * (items / pages) + min 1 (items % pages) → IsShare size items pages
share_of size items zero some is = absurd (omega arith)
share_of size items (suc o) some is =
    let pages = suc o in
    let q = items / pages in
    let r = items % pages in
    let lt : r < o + 1 = omega arith in
    let whole : items ≡ (o + 1) * q + r = omega arith in
    let size_is : size ≡ q + min 1 r = omega arith in
    let others : suc o - 1 ≡ o = omega arith in
    record {
      at_most = λ m h. rw size_is (share_most q r o m lt (omega arith));
      at_least = λ m h. omega (arith, share_least q r o m lt (omega arith));
      leaves_few = λ m h. rw others (omega (arith, share_few q r o m lt (omega arith)));
      leaves_many = λ m h. rw others (omega (arith, share_many q r o m lt (omega arith)));
    }

-- the first `place` pages were cut from the items as these nodes, and the rest remains
pub record IsCut {K : Type 0} (entries : K → List Entry) (fits fits_packed : ℕ → K → Type 0) (InRange : K → Type 0) (items : List K) (pages place : ℕ)
    (nodes : List Node) (rest : List K) : Type 0 where
  pub joined : flat_map entries items ≡ flat_map entries_of nodes ++ flat_map entries rest
  pub count : length nodes ≡ place
  pub few : length rest ≤ most * (pages - place)
  pub many : (m : ℕ) → m * pages ≤ length items → m * (pages - place) ≤ length rest
  pub big : (m : ℕ) → m * pages ≤ length items → All (λ n. m ≤ size_of n) nodes
  pub fit : (level : ℕ) → All (fits level) items → All (fits level) rest
  pub lawful : (level : ℕ) → All (fits level) items → All (IsLawfulAt level) nodes
  pub fit_packed : (level : ℕ) → All (fits_packed level) items → All (fits_packed level) rest
  pub packed : (level : ℕ) → All (fits_packed level) items → All (IsPackedAt level) nodes
  pub in_range : All InRange rest → All InRange items

nothing : {T : Type 0} (xs : List T) → length xs ≡ 0 → xs ≡ []
nothing [] h = refl
nothing (x ∷ xs) h = absurd (omega arith)

module _ {K : Type 0} (entries : K → List Entry) (fits fits_packed : ℕ → K → Type 0) (InRange : K → Type 0) where
  pub cut_none : (items : List K) (pages : ℕ) → length items ≤ most * pages → IsCut entries fits fits_packed InRange items pages 0 [] items
  cut_none items pages h = let all : pages - 0 ≡ pages = omega arith in record {
    joined = refl;
    count = refl;
    few = rw all h;
    many = λ m k. rw all k;
    big = λ m k. All-nil (λ n. m ≤ size_of n);
    fit = λ level all. all;
    fit_packed = λ level all. all;
    lawful = λ level all. All-nil (IsLawfulAt level);
    packed = λ level all. All-nil (IsPackedAt level);
    in_range = λ all. all;
  }

  -- the next page has an item, and no more than the most
  pub share_some : (items : List K) (pages place : ℕ) (nodes : List Node) (rest : List K) (size : ℕ) →
      place < pages →
      pages ≤ length items →
      IsCut entries fits fits_packed InRange items pages place nodes rest →
      IsShare size (length rest) (pages - place) →
      0 < size
  share_some items pages place nodes rest size lt enough cut share = omega (arith, share.at_least 1 (omega (arith, cut.many 1 (omega arith))))

  pub share_fits : (items : List K) (pages place : ℕ) (nodes : List Node) (rest : List K) (size : ℕ) →
      place < pages →
      IsCut entries fits fits_packed InRange items pages place nodes rest →
      IsShare size (length rest) (pages - place) →
      size ≤ most
  share_fits items pages place nodes rest size lt cut share = share.at_most most (omega (arith, cut.few))

  pub cut_more : (cover : K → Shape) (items : List K) (pages place : ℕ) (nodes : List Node) (rest page left : List K) (n : Node) →
      place < pages →
      IsCut entries fits fits_packed InRange items pages place nodes rest →
      rest ≡ page ++ left →
      IsShare (length page) (length rest) (pages - place) →
      IsNodeOf cover entries fits page n →
      IsPackedOf fits_packed page n →
      All InRange page →
      IsCut entries fits fits_packed InRange items pages (place + 1) (nodes ++ n ∷ []) left
  cut_more cover items pages place nodes rest page left n lt cut e share node packed known =
      let others = pages - (place + 1) in
      let others_are : (pages - place) - 1 ≡ others = omega arith in
      let len : length rest ≡ length page + length left = ap length e ∙ length-append page left in
      record {
        joined =
            cut.joined
            ∙ ap (λ xs. flat_map entries_of nodes ++ flat_map entries xs) e
            ∙ ap (λ xs. flat_map entries_of nodes ++ xs) (flat_map-append entries page left)
            ∙ sym (append_assoc (flat_map entries_of nodes) (flat_map entries page) (flat_map entries left))
            ∙ ap (λ xs. xs ++ flat_map entries left) (ap (λ xs. flat_map entries_of nodes ++ xs) (sym (node.entries_are)) ∙ flat_map_more entries_of []
            nodes n);
        count = omega (arith, cut.count, length-append nodes (n ∷ []));
        few = omega (arith, rw others_are at (share.leaves_few most cut.few), len);
        many = λ m h. omega (arith, rw others_are at (share.leaves_many m (cut.many m h)), len);
        big = λ m h. All-push (λ k. m ≤ size_of k) nodes n (cut.big m h) (omega (arith, share.at_least m (cut.many m h), node.size));
        fit = λ level all. All-back (fits level) page left (rw e at (cut.fit level all));
        fit_packed = λ level all. All-back (fits_packed level) page left (rw e at (cut.fit_packed level all));
        lawful = λ level all. All-push (IsLawfulAt level) nodes n (cut.lawful level all)
            (node.lawful level (All-front (fits level) page left (rw e at (cut.fit level all))));
        packed = λ level all. All-push (IsPackedAt level) nodes n (cut.packed level all)
            (packed level (All-front (fits_packed level) page left (rw e at (cut.fit_packed level all))));
        in_range = λ all. cut.in_range (rw e (All-append InRange page left known all));
      }

  -- all pages were cut from the items
  pub cut_all : (items : List K) (pages : ℕ) (nodes : List Node) (rest : List K) →
      pages ≡ div_ceil (length items) most →
      IsCut entries fits fits_packed InRange items pages pages nodes rest →
      AreNodesOf entries fits fits_packed items nodes
  cut_all items pages nodes rest e cut =
      let none : rest ≡ [] = nothing rest (omega (arith, cut.few)) in
      let all : flat_map entries items ≡ flat_map entries_of nodes = cut.joined ∙ rw none (append-nil (flat_map entries_of nodes)) in
      record {
        same = λ p. ap (count_by p) all;
        count = cut.count ∙ e;
        two = λ h. cut.big 2 (omega arith);
        half = λ h. cut.big half_full (omega (arith, cut.count));
        lawful = cut.lawful;
        packed = cut.packed;
      }

  pub cut_in_range : (items : List K) (pages : ℕ) (nodes : List Node) (rest : List K) →
      IsCut entries fits fits_packed InRange items pages pages nodes rest →
      All InRange items
  cut_in_range items pages nodes rest cut =
      let none : rest ≡ [] = nothing rest (omega (arith, cut.few)) in cut.in_range (rw none (All-nil InRange))

  count_each : (p : Entry → Bool) (xs : List K) → count_by p (flat_map entries xs) ≡ sum_by (λ x. count_by p (entries x)) xs
  count_each p [] = refl
  count_each p (x ∷ xs) =
      omega (arith, sum_by-append (λ y. cond (p y) 1 0) (entries x) (flat_map entries xs), count_each p xs, sum_by-cons (λ y. count_by p (entries y)) x xs)

  -- the items were put in another order before
  pub nodes_of_sorted : (unsorted items : List K) (nodes : List Node) →
      IsPermutation unsorted items →
      AreNodesOf entries fits fits_packed items nodes →
      AreNodesOf entries fits fits_packed unsorted nodes
  nodes_of_sorted unsorted items nodes perm made =
      let len : length items ≡ length unsorted = length_permutation unsorted items perm in
      record {
        same = λ p. count_each p unsorted ∙ sym (sum_by-IsPermutation (λ x. count_by p (entries x)) unsorted items perm) ∙ sym (count_each p items)
            ∙ made.same p;
        count = rw (← len) made.count;
        two = λ h. made.two (omega arith);
        half = made.half;
        lawful = λ level h. made.lawful level (All-permutation (fits level) unsorted items perm h);
        packed = λ level h. made.packed level (All-permutation (fits_packed level) unsorted items perm h);
      }

-- the nodes above a list of nodes that were put in order in the slice of all of them
pub level_nodes : (n : ℕ) (old slice new : List Placed) (above : List Node) →
    slice ≡ old →
    length slice ≡ n →
    IsPermutation slice new →
    AreNodesOf entries_of FitsInner FitsPacked (map (λ p. p.node) (take n (new ++ drop (length new) old))) above →
    AreNodesOf entries_of FitsInner FitsPacked (map (λ p. p.node) old) above
level_nodes n old slice new above all len perm made =
    let node : Placed → Node = λ p. p.node in
    nodes_of_sorted entries_of FitsInner FitsPacked (λ _. Unit {0}) _ _ above (IsPermutation-map node _ _ (list_permuted n old slice new all len perm)) made

pub level_tiles : (n : ℕ) (old slice new : List Placed) (above : List Node) →
    slice ≡ old →
    length slice ≡ n →
    IsPermutation slice new →
    IsTileOrder (λ p. p.node.cover) (λ p. p.place) new →
    map children_of above ≡ pages_of (map (λ p. p.node) (take n (new ++ drop (length new) old))) →
    AreTilesOf (λ p. p.node.cover) (λ p. p.place) (λ p. p.node) children_of old above
level_tiles n old slice new above all len perm order pages = record {
  tiled = take n (new ++ drop (length new) old);
  same = list_permuted n old slice new all len perm;
  order = list_tiled (λ p. p.node.cover) (λ p. p.place) n old slice new all len perm order;
  pages = pages;
}

-- the same for the nodes made of a level, if there was memory for them
pub above_made : {E : Type 0} (n : ℕ) (old slice new : List Placed) (made : Result (Vec Placed Global) E) →
    slice ≡ old →
    length slice ≡ n →
    IsPermutation slice new →
    IfOk made (λ v. AreNodesOf entries_of FitsInner FitsPacked (map (λ p. p.node) (take n (new ++ drop (length new) old))) (map (λ p. p.node) v.items)) →
    IfOk made (λ v. AreNodesOf entries_of FitsInner FitsPacked (map (λ p. p.node) old) (map (λ p. p.node) v.items))
above_made n old slice new made all len perm = IfOk-weaker made _ _ (λ v h. level_nodes n old slice new _ all len perm h)

pub above_tiled : {E : Type 0} (n : ℕ) (old slice new : List Placed) (made : Result (Vec Placed Global) E) →
    slice ≡ old →
    length slice ≡ n →
    IsPermutation slice new →
    IsTileOrder (λ p. p.node.cover) (λ p. p.place) new →
    IfOk made (λ v. map children_of (map (λ p. p.node) v.items) ≡ pages_of (map (λ p. p.node) (take n (new ++ drop (length new) old)))) →
    IfOk made (λ v. AreTilesOf (λ p. p.node.cover) (λ p. p.place) (λ p. p.node) children_of old (map (λ p. p.node) v.items))
above_tiled n old slice new made all len perm order = IfOk-weaker made _ _ (λ v h. level_tiles n old slice new _ all len perm order h)

-- all nodes of a level of the tree, with the height of the tree up to it
pub record IsRow (all : List Entry) (nodes : List Node) (height : ℕ) : Type 0 where
  pub level : ℕ
  pub height_is : height ≡ level + 1
  pub some : 0 < length nodes
  pub same : HasSame all (flat_map entries_of nodes)
  pub lawful : All (IsLawfulAt level) nodes
  pub packed : All (IsPackedAt level) nodes
  pub two : 0 < level → All (λ n. 2 ≤ size_of n) nodes
  pub half : 2 ≤ length nodes → All (λ n. half_full ≤ size_of n) nodes
  pub packing : IsPackedLevel all level nodes

pub row_first : (all : List Entry) (nodes : List Node) →
    0 < length all →
    AreNodesOf entry_alone FitsLeaf (λ _ _. Unit {0}) all nodes →
    AreLeavesOf all nodes →
    IsRow all nodes 1
row_first all nodes some made leaves = record {
  level = 0;
  height_is = refl;
  some = omega (arith, made.count);
  same = rw (each_alone all) at made.same;
  lawful = made.lawful 0 (λ k d lt. refl);
  packed = made.packed 0 (λ k d lt. tt);
  two = λ h. absurd (omega arith);
  half = made.half;
  packing = leaves;
}

row_fits : (all : List Entry) (nodes : List Node) (height : ℕ) (row : IsRow all nodes height) → 2 ≤ length nodes → All (FitsInner (suc row.level)) nodes
row_fits all nodes height row many k d lt = (row.lawful k d lt, omega (arith, row.half many k d lt))

row_fits_packed : (all : List Entry) (nodes : List Node) (height : ℕ) (row : IsRow all nodes height) → 2 ≤ length nodes → All (FitsPacked (suc row.level)) nodes
row_fits_packed all nodes height row many k d lt = (row.half many k d lt, row.packed k d lt)

pub row_next : (all : List Entry) (nodes above : List Node) (height : ℕ) →
    2 ≤ length nodes →
    IsRow all nodes height →
    AreNodesOf entries_of FitsInner FitsPacked nodes above →
    AreNodesAbove nodes above →
    IsRow all above (height + 1)
row_next all nodes above height many row made tiles = record {
  level = suc row.level;
  height_is = omega (arith, row.height_is);
  some = omega (arith, made.count);
  same = λ p. row.same p ∙ made.same p;
  lawful = made.lawful (suc row.level) (row_fits all nodes height row many);
  packed = made.packed (suc row.level) (row_fits_packed all nodes height row many);
  two = λ h. made.two many;
  half = made.half;
  packing = (nodes, many, row.packing, tiles);
}

-- there are fewer nodes on the level above
pub fewer_above : (nodes above : List Node) → 2 ≤ length nodes → AreNodesOf entries_of FitsInner FitsPacked nodes above → length above < length nodes
fewer_above nodes above many made = omega (arith, made.count)

other_number : (e : Entry) (k : ℕ) → e.number < 2 ^ 32 → 2 ^ 32 ≤ k → cond {A = ℕ} (has_number k e) 1 0 ≡ 0
other_number e k small large = grind (arith, nat_tests)

-- no number has more than 32 bits
none_beyond : (k : ℕ) (all : List Entry) → 2 ^ 32 ≤ k → All HasU32 all → count_by (has_number k) all ≡ 0
none_beyond k [] large small = refl
none_beyond k (e ∷ es) large small =
    omega (
      arith,
      none_beyond k es large (All-tail HasU32 e es small),
      other_number e k (All-head HasU32 e es small) large,
      sum_by-cons
          (λ x. cond {A = ℕ} (has_number k x) 1 0) e es,
    )

-- there are no more entries than numbers
pub few_entries : (all : List Entry) → ((k : ℕ) → count_by (has_number k) all ≤ 1) → All HasU32 all → length all ≤ 2 ^ 32
few_entries all distinct small = omega (arith, all_below (2 ^ 32) all (λ k large. none_beyond k all large small), count_below_n (2 ^ 32) all distinct)

pub row_root : (all : List Entry) (n : Node) (height : ℕ) →
    ((k : ℕ) → count_by (has_number k) all ≤ 1) →
    All HasU32 all →
    IsRow all (n ∷ []) height →
    IsPackedTree all n height
row_root all n height distinct small row =
    let lawful : IsLawfulAt row.level n = All-head (IsLawfulAt row.level) n [] row.lawful in
    let level = lawful_level row.level n lawful in
    let same : HasSame all (entries_of n) = rw (append-nil (entries_of n)) at row.same in
    record {
      same = same;
      tree = record {
        lawful = record {
          lawful = lawful_is row.level n lawful;
          two = λ h. All-head (λ m. 2 ≤ size_of m) n [] (row.two (omega arith));
        };
        distinct = λ k. omega (arith, distinct k, same (has_number k));
        in_range = λ k large. omega (arith, none_beyond k all large small, same (has_number k));
      };
      packed = subst (λ l. IsPackedAt l n) (sym level) (All-head (IsPackedAt row.level) n [] row.packed);
      packing = subst (λ l. IsPackedLevel all l (n ∷ [])) (sym level) row.packing;
      height_is = omega (arith, row.height_is, level);
    }

-- the same for a node that equals this one
pub row_root_is : (all : List Entry) (n m : Node) (height : ℕ) →
    m ≡ n →
    ((k : ℕ) → count_by (has_number k) all ≤ 1) →
    All HasU32 all →
    IsRow all (n ∷ []) height →
    IsPackedTree all m height
row_root_is all n m height is distinct small row = rw is (row_root all n height distinct small row)

-- a level above is higher by one, and has fewer nodes
pub small_above : (height : ℕ) (below above : Vec Placed Global) →
    2 ≤ length (map (λ p. p.node) below.items) →
    AreNodesOf entries_of FitsInner FitsPacked (map (λ p. p.node) below.items) (map (λ p. p.node) above.items) →
    height + vec_len below ≤ 2 ^ 31 →
    height + 1 + vec_len above ≤ 2 ^ 31
small_above height below above many made small =
    let node : Placed → Node = λ p. p.node in
    omega (
      arith,
      fewer_above _ _ many made,
      below.ok.0,
      above.ok.0,
      length-map below.items node,
      length-map above.items node,
    )
