-- The effect of removing an entry on a node, from its effect on the node's list.
use Rattle.std.proofs.Common.{arith, ◌≡◌, ℕ, suc, ◌+◌, ◌<◌, ◌≤◌, Bool, cond, List, [], ◌∷◌, ◌++◌, length, get_or, set, take, drop, sym, ◌∙◌, ap, subst}
use Rattle.std.proofs.Common.{true, false, refl, length-append, length-set, get_or-set_same, vec_len, vec_capacity, inl, inr}
use Rattle.std.specs.Prelude.{count_by, sum_by, remove, Contains, IsTrue, ◌↔◌}
use Rattle.std.specs.List.{flat_map}
use Rattle.std.specs.Vec.{with_items}
use Rattle.std.specs.declared.alloc.Global.{Global}
use Rattle.std.specs.declared.vec.Vec.{Vec}
use Rattle.std.proofs.lemmas.Bool.{cases_lt, false≢true}
use Rattle.std.proofs.lemmas.List.{append-nil, get_or_append_left, get_or_default, get_or_push, take-set, drop-set-lt, with_items_is}
use Rattle.std.proofs.lemmas.List.Concat.{flat_map-append}
use Rattle.std.proofs.lemmas.List.Elements.{All-set, All-get_or}
use Rattle.std.proofs.lemmas.List.Sums.{sum_by-append, sum_by-cons, sum_by-set, sum_by-remove}
use Rattle.geom_core.specs.declared.shape.Shape.{Shape}
use Rattle.split_core.specs.Limits.{fewest, most}
use Rattle.rtree_core.specs.declared.node.Entry.{Entry}
use Rattle.rtree_core.specs.declared.node.Below.TheVariants.{outs-Children}
use Rattle.rtree_core.specs.declared.node.Node.{Node}
use Rattle.split_core.specs.Covers.{IsLeastCover}
use Rattle.rtree_core.specs.Items.{leaf_node, inner_node}
use Rattle.rtree_core.specs.Nodes.{entries_of, level_of, size_of, IsPage, IsLawfulAt}
use Rattle.rtree_core.specs.Removals.{IsPlaceOf, IsTakenBelow, IsTakenOut}
use Rattle.rtree_core.proofs.NodeLemmas.{lawful_level}
use Rattle.split_core.proofs.SplitLemmas.{All-remove}
use Rattle.rtree_core.proofs.ItemLemmas.{leaf_entries, leaf_level, leaf_lawful, leaf_size, inner_entries, inner_size, count_below, Opened, child_level}

leaf_taken : (c d : Shape) (v w : Vec Entry Global) (e : Entry) (p : ℕ) →
    IsPage (λ x. x.shape) c v →
    IsPlaceOf v.items e p →
    2 ≤ vec_len v →
    w.items ≡ remove v.items p →
    vec_len w + 1 ≡ vec_len v →
    most + 1 ≤ vec_capacity w →
    IsLeastCover (λ x. x.shape) w.items d →
    IsTakenOut e (leaf_node c v) (leaf_node d w) []
leaf_taken c d v w e p page at two items len room tight = record {
  loses = λ q.
      let f : Entry → ℕ = λ x. cond (q x) 1 0 in
      let gone : sum_by f (remove v.items p) + f e ≡ sum_by f v.items = subst (λ z. sum_by f (remove v.items p) + f z ≡ sum_by f v.items) at.there
      (sum_by-remove f v.items p e at.inside) in
      rw (leaf_entries c v, leaf_entries d w, append-nil, items) (omega (arith, sum_by-cons f e (remove v.items p), gone));
  lawful = rw (leaf_level c v) (leaf_lawful d w (record { some = omega (arith, page.some); few = omega (arith, page.few); room = room; tight = tight }));
  smaller = rw (leaf_size c v, leaf_size d w) (omega arith);
  few = omega arith;
  up_to_here = λ h. sym (leaf_level c v);
  are_aside = λ k b h. absurd (omega arith);
}

-- whether a leaf holds an entry, and the result of removing it, given its list
pub leaf_holds : (c : Shape) (v : Vec Entry Global) (e : Entry) (p : ℕ) (xs : List Entry) → xs ≡ v.items → IsPlaceOf xs e p →
    IsTrue true ↔ Contains (entries_of (leaf_node c v)) e
leaf_holds c v e p xs read at = rw (leaf_entries c v, ← read) (λ h. (p, at.inside, at.there), λ h. refl)

pub leaf_lacks : (c : Shape) (v : Vec Entry Global) (e : Entry) (xs : List Entry) → xs ≡ v.items → (Contains xs e → ⊥) →
    IsTrue false ↔ Contains (entries_of (leaf_node c v)) e
leaf_lacks c v e xs read none = rw (leaf_entries c v, ← read) (λ h. absurd (false≢true h), λ h. absurd (none h))

pub leaf_taken_from : (c : Shape) (v : Vec Entry Global) (e : Entry) (p : ℕ) (xs : List Entry) →
    IsPage (λ x. x.shape) c v →
    2 ≤ vec_len v →
    xs ≡ v.items →
    IsPlaceOf xs e p →
    (d : Shape) (w : Vec Entry Global) (ys : List Entry) →
    w.items ≡ remove v.items p →
    vec_len w + 1 ≡ vec_len v →
    vec_capacity w ≡ vec_capacity v →
    ys ≡ w.items →
    IsLeastCover (λ x. x.shape) ys d →
    IsTakenOut e (leaf_node c v) (leaf_node d w) []
leaf_taken_from c v e p xs page two read at d w ys items len room left tight =
    leaf_taken c d v w e p page (rw read at at) two items len (omega (arith, page.room)) (rw left at tight)

-- the list of nodes after an entry was removed from one of them, given the node at that index
pub record Written (e : Entry) (v w : Vec Node Global) (aside : List Node) (p : ℕ) (y : Node) : Type 0 where
  pub inside : p < length v.items
  pub items : w.items ≡ set v.items p y
  pub at : get_or v.items p y ≡ get_or v.items p (get_or v.items p y)
  pub taken : IsTakenOut e (get_or v.items p y) y aside

pub written : (e : Entry) (v : Vec Node Global) (xs ys : List Node) (aside : List Node) (p : ℕ) (y : Node) →
    xs ≡ v.items →
    IsTakenBelow e xs ys aside p →
    y ≡ get_or (with_items v ys).items p y →
    Written e v (with_items v ys) aside p y
written e v xs ys aside p y is h read =
    let inside : p < length v.items = rw is at h.inside in
    let here : ys ≡ set v.items p (get_or ys p y) = rw is at (h.others y) in
    let len : length ys ≡ v.len = ap length here ∙ length-set v.items p (get_or ys p y) ∙ sym v.ok.0 in
    let there : (with_items v ys).items ≡ ys = with_items_is v ys len in
    let node : y ≡ get_or ys p y = read ∙ ap (λ zs. get_or zs p y) there in
    record {
      inside = inside;
      items = there ∙ here ∙ ap (set v.items p) (sym node);
      at = get_or_default v.items p y (get_or v.items p y) inside;
      taken = subst (λ z. IsTakenOut e (get_or v.items p y) z aside) (sym node)
          (subst (λ zs. IsTakenOut e (get_or zs p y) (get_or ys p y) aside) is (h.taken y));
    }

-- the number of items left in a child, and of those set aside
left : (e : Entry) (x y : Node) (aside : List Node) → IsTakenOut e x y aside → (q : Entry → Bool) →
    cond {A = ℕ} (q e) 1 0 + (count_by q (entries_of y) + count_by q (flat_map entries_of aside)) ≡ count_by q (entries_of x)
left e x y aside h q =
    omega (
      arith,
      h.loses q,
      sum_by-cons (λ z. cond {A = ℕ} (q z) 1 0) e (entries_of y ++ flat_map entries_of aside),
      sum_by-append
          (λ z. cond {A = ℕ} (q z) 1 0) (entries_of y) (flat_map entries_of aside),
    )

remove_changed : {T : Type 0} (xs : List T) (i : ℕ) (y : T) → remove (set xs i y) i ≡ remove xs i
remove_changed xs i y = ap (λ zs. zs ++ drop (suc i) (set xs i y)) (take-set xs i y) ∙ ap (λ zs. take i xs ++ zs) (drop-set-lt (suc i) xs i y (omega arith))

module _ (e : Entry) (c d : Shape) (v w : Vec Node Global) (o : Opened c v) (i : ℕ) (x y : Node) (aside : List Node) (lt : i < length v.items)
    (at : x ≡ get_or v.items i x) (taken : IsTakenOut e x y aside) (tight : IsLeastCover (λ n. n.cover) w.items d) (room : most + 1 ≤ vec_capacity w) where
  level_is : level_of x ≡ o.level
  level_is = lawful_level o.level x (child_level c v o i x lt at)

  lawful : IsLawfulAt o.level y
  lawful = rw level_is at taken.lawful

  enough : fewest ≤ size_of x
  enough = subst (λ n. fewest ≤ size_of n) (sym at) (All-get_or (λ n. fewest ≤ size_of n) v.items i x lt o.inner.enough)

  -- the child is left with enough
  pub child_kept : w.items ≡ set v.items i y → vec_len w ≡ vec_len v → fewest ≤ size_of y → IsTakenOut e (inner_node c v) (inner_node d w) aside
  child_kept items len stays = record {
    loses = λ q.
        let f : Node → ℕ = λ n. count_by q (entries_of n) in
        let count : Entry → ℕ = λ z. cond (q z) 1 0 in
        let changed : sum_by f (set v.items i y) + f x ≡ sum_by f v.items + f y = subst (λ z. sum_by f (set v.items i y) + f z ≡ sum_by f v.items + f y)
        (sym at) (sum_by-set f v.items i y x lt) in
        rw (inner_entries c v, inner_entries d w, items)
        (omega (
          arith,
          sum_by-cons count e (flat_map entries_of (set v.items i y) ++ flat_map entries_of aside),
          sum_by-append count
              (flat_map entries_of (set v.items i y)) (flat_map entries_of aside),
          count_below q (set v.items i y),
          count_below q v.items,
          changed,
          left e x y
              aside taken q,
        ));
    lawful = rw (o.level_is, outs-Children) (record {
      page = record { some = omega (arith, o.inner.page.some); few = omega (arith, o.inner.page.few); room = room; tight = tight };
      children = rw items (All-set (IsLawfulAt o.level) v.items i y lawful o.inner.children);
      enough = rw items (All-set (λ n. fewest ≤ size_of n) v.items i y stays o.inner.enough);
    });
    smaller = rw (inner_size c v, inner_size d w) (omega arith);
    few = omega (arith, taken.few, level_is, o.level_is);
    up_to_here = λ h. absurd (omega (arith, rw (inner_size c v, inner_size d w) at h));
    are_aside = taken.are_aside;
  }

  -- the child is set aside
  pub child_aside : w.items ≡ remove (set v.items i y) i → vec_len w + 1 ≡ vec_len v → 2 ≤ vec_len v → size_of y < fewest → IsTakenOut e (inner_node c v)
      (inner_node d w) (aside ++ y ∷ [])
  child_aside items len two small =
      let here : length aside ≡ o.level = taken.up_to_here (omega (arith, enough)) ∙ level_is in
      let inside : i < length (set v.items i y) = rw length-set lt in
      record {
        loses = λ q.
            let f : Node → ℕ = λ n. count_by q (entries_of n) in
            let count : Entry → ℕ = λ z. cond (q z) 1 0 in
            let changed : sum_by f (set v.items i y) + f x ≡ sum_by f v.items + f y = subst (λ z. sum_by f (set v.items i y) + f z ≡ sum_by f v.items + f y)
            (sym at) (sum_by-set f v.items i y x lt) in
            let there : get_or (set v.items i y) i y ≡ y = get_or-set_same v.items i y y lt in
            let gone : sum_by f (remove (set v.items i y) i) + f y ≡ sum_by f (set v.items i y) = subst
            (λ z. sum_by f (remove (set v.items i y) i) + f z ≡ sum_by f (set v.items i y)) there (sum_by-remove f (set v.items i y) i y inside) in
            let more : flat_map entries_of (aside ++ y ∷ []) ≡ flat_map entries_of aside ++ entries_of y = flat_map-append entries_of aside (y ∷ []) ∙ ap
            (λ zs. flat_map entries_of aside ++ zs) (append-nil (entries_of y)) in
            rw (inner_entries c v, inner_entries d w, items, more)
            (omega (
              arith,
              sum_by-cons count e (flat_map entries_of (remove (set v.items i y) i) ++ (flat_map entries_of aside ++ entries_of y)),
              sum_by-append count (flat_map entries_of (remove (set v.items i y) i)) (flat_map entries_of aside ++ entries_of y),
              sum_by-append count (flat_map entries_of aside) (entries_of y),
              count_below q (remove (set v.items i y) i),
              count_below q v.items,
              changed,
              gone,
              left e x y aside taken q,
            ));
        lawful = rw (o.level_is, outs-Children) (record {
          page = record { some = omega arith; few = omega (arith, o.inner.page.few); room = room; tight = tight };
          children = rw items (All-remove (IsLawfulAt o.level) (set v.items i y) i (All-set (IsLawfulAt o.level) v.items i y lawful o.inner.children));
          enough = rw (items, remove_changed v.items i y) (All-remove (λ n. fewest ≤ size_of n) v.items i o.inner.enough);
        });
        smaller = rw (inner_size c v, inner_size d w) (omega arith);
        few = omega (arith, here, o.level_is, length-append aside (y ∷ []));
        up_to_here = λ h. omega (arith, here, o.level_is, length-append aside (y ∷ []));
        are_aside = λ k b h. elim (cases_lt k (length aside)) [
          | inl p ↦ rw (get_or_append_left aside (y ∷ []) b k p) (taken.are_aside k b p)
          | inr p ↦
              let last : k ≡ length aside = omega (arith, length-append aside (y ∷ [])) in
              let it : get_or (aside ++ y ∷ []) k b ≡ y = get_or_push aside y b k (sym last) in
              rw it (rw (sym (last ∙ here)) at lawful, omega (arith, taken.smaller, enough))
        ];
      }
