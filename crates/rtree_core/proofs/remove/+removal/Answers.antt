use Rattle.std.proofs.Common.{arith, ◌≡◌, ◌<◌, ◌≤◌, ◌+◌, ℕ, length, get_or, set, refl, sym, ◌∙◌, ap, subst, vec_capacity, length-set}
use Rattle.std.specs.Prelude.{All, Contains, remove}
use Rattle.std.specs.Vec.{with_items}
use Rattle.std.proofs.lemmas.Bool.{false≢true}
use Rattle.std.proofs.lemmas.Bool.Decides.{nat_tests}
use Rattle.std.proofs.lemmas.List.{get_or_default, set-get_or}
use Rattle.std.proofs.lemmas.List.Elements.{All-weaker}
use Rattle.geom_core.specs.Cells.{IsIn}
use Rattle.split_core.specs.Limits.{fewest}
use Rattle.rtree_core.specs.declared.node.Below.{Below}
use Rattle.rtree_core.specs.declared.node.Below.TheVariants.{Entries, Children, outs-Entries, outs-Children}
use Rattle.rtree_core.specs.declared.node.Node.{Node}
use Rattle.std.specs.declared.alloc.Global.{Global}
use Rattle.std.specs.declared.vec.Vec.{Vec}
use Rattle.rtree_core.specs.declared.node.Entry.{Entry}
use Rattle.rtree_core.specs.Items.{leaf_node, inner_node}
use Rattle.rtree_core.specs.Removals.{CanTakeOut}
use Rattle.rtree_core.specs.Nodes.{entries_of, level_of, size_of, IsLawful, IsLawfulAt}
use Rattle.rtree_core.proofs.NodeLemmas.{level_inner, lawful_level, lawful_is, top_level, level-le-top}
use Rattle.rtree_core.proofs.ItemLemmas.{cover_of_items, Opened, open_inner, child_level, inner_size, inner_entries}
use Rattle.rtree_core.proofs.RemovalLemmas.{contains_joined, cover_holds, none_above, none_so_far, list_as_it_was}
use Rattle.rtree_core.proofs.TakeLemmas.{Written, written, child_kept, child_aside}
use Rattle.rtree_core.proofs.remove.+removal.Goals as goal
use Rattle.rtree_core.proofs.remove.+removal.Goals.{take_from_inner-After-index-node, take_from_inner-then-is_short, take_from_inner-else-is_short}
use Rattle.rtree_core.proofs.remove.+removal.Goals.{take_from_one-else-may_hold-via-then-may_hold+else-take_out, take_from_one-else-may_hold-via-else-may_hold}

pub take_from_inner-take_from_one-found-requires : goal.take_from_inner-take_from_one-found-requires
take_from_inner-take_from_one-found-requires t c =
    let v = c.args.children.now in
    let o = open_inner c.args.cover.now v c.requires.can_take_out.lawful in
    let level : level_of (inner_node c.args.cover.now v) ≡ top_level v.items + 1 = level_inner (inner_node c.args.cover.now v) v (outs-Children v) in
    let lawful : All IsLawful v.items = All-weaker (IsLawfulAt o.level) IsLawful (λ n h. lawful_is o.level n h) v.items o.inner.children in
    let two : All (λ n. 2 ≤ size_of n) v.items = All-weaker (λ n. fewest ≤ size_of n) (λ n. 2 ≤ size_of n) (λ n h. omega (arith, h)) v.items o.inner.enough in
    let room : All (λ n. level_of n ≤ vec_capacity c.args.aside.now) v.items = All-weaker (IsLawfulAt o.level)
    (λ n. level_of n ≤ vec_capacity c.args.aside.now) (λ n h. omega (arith, lawful_level o.level n h, o.level_is, c.requires.can_take_out.low)) v.items
    o.inner.children in
    let can : All (CanTakeOut (vec_capacity c.args.aside.now)) v.items = λ k d lt. record { lawful = lawful k d lt; two = two k d lt; low = room k d lt } in
    (omega (arith, c.decreases, level, ap top_level c.deref_mut.ensures.value), (rw c.deref_mut.ensures.value can, c.requires.none_aside))

pub take_from_inner-returns-in_default-clause-held : goal.take_from_inner-returns-in_default-clause-held
take_from_inner-returns-in_default-clause-held t c =
    let held = rw c.deref_mut.ensures.value at c.in_default.ensures.held in
    rw (inner_entries c.args.cover.now c.args.children.now) held

pub take_from_inner-returns-in_default-clause-unchanged : goal.take_from_inner-returns-in_default-clause-unchanged
take_from_inner-returns-in_default-clause-unchanged t c =
    λ h. (
      refl,
      list_as_it_was c.args.children.now c.take_from_one-found.new.nodes
          (c.in_default.ensures.unchanged.0 ∙ c.deref_mut.ensures.value),
      c.in_default.ensures.unchanged.1,
    )

opened : (t : ℕ) (c : take_from_inner-After-index-node t) → Opened c.args.cover.now c.args.children.now
opened t c = open_inner c.args.cover.now c.args.children.now c.requires.can_take_out.lawful

child : (t : ℕ) (c : take_from_inner-After-index-node t) →
    Written c.args.entry.now c.args.children.now (with_items c.args.children.now c.take_from_one-found.new.nodes) c.take_from_one-found.new.aside.items c.in-Some.place
    c.index-node.result.now
child t c = written c.args.entry.now c.args.children.now c.deref_mut.result.now c.take_from_one-found.new.nodes c.take_from_one-found.new.aside.items c.in-Some.place
    c.index-node.result.now c.deref_mut.ensures.value c.in-Some.ensures.taken c.index-node.ensures

child_level_is : (t : ℕ) (c : take_from_inner-After-index-node t) → level_of (get_or c.args.children.now.items c.in-Some.place c.index-node.result.now) ≡
    (opened t c).level
child_level_is t c =
    let before = get_or c.args.children.now.items c.in-Some.place c.index-node.result.now in
    lawful_level (opened t c).level before (child_level c.args.cover.now c.args.children.now (opened t c) c.in-Some.place before (child t c).inside
    (child t c).at)

pub take_from_inner-push_reserved-requires : goal.take_from_inner-push_reserved-requires
take_from_inner-push_reserved-requires t c =
    let at = (goal.at.take_from_inner-push_reserved-requires t c).After-index-node in
    omega (
      arith,
      c.take_from_one-found.new.aside.ok.0,
      (child t at).taken.few,
      c.in-Some.ensures.capacity,
      c.requires.can_take_out.low,
      child_level_is t
          at,
      (opened t at).level_is,
    )

pub take_from_inner-returns-clause-held : goal.take_from_inner-returns-clause-held
take_from_inner-returns-clause-held t c =
    let held = rw c.deref_mut.ensures.value at c.in-Some.ensures.held in
    rw (inner_entries c.args.cover.now c.args.children.now) held

pub take_from_inner-returns-clause-taken : goal.take_from_inner-returns-clause-taken
take_from_inner-returns-clause-taken t c =
    let at = (goal.at.take_from_inner-returns-clause-taken t c).After-index-node in
    let v = c.args.children.now in
    let w = with_items v c.take_from_one-found.new.nodes in
    let place = c.in-Some.place in
    let y = c.index-node.result.now in
    let x = get_or v.items place y in
    let aside = c.take_from_one-found.new.aside.items in
    let inside : place < length w.items = omega (arith, (child t at).inside, ap length (child t at).items, length-set v.items place y) in
    λ h. elim c.if-is_short.branch [
      | take_from_inner-then-is_short b ↦
          let removed : b.remove-child.result ≡ y = b.remove-child.ensures.value ∙ get_or_default w.items place b.remove-child.result y inside ∙ sym
          c.index-node.ensures in
          rw (b.children-is, b.aside-is, b.push_reserved.ensures.items, removed)
          (child_aside c.args.entry.now c.args.cover.now _ v b.remove-child.new.self (opened t at) place x y aside (child t at).inside
          (child t at).at (child t at).taken
          (rw (← b.children-is) (search cover_of_items))
          (omega (arith, b.remove-child.ensures.capacity, (opened t at).inner.page.room))
          (b.remove-child.ensures.items ∙ ap (λ zs. remove zs place) (child t at).items) b.remove-child.ensures.len
          (omega (arith, c.requires.can_take_out.two, inner_size c.args.cover.now v)) (grind (arith, nat_tests, b.if-is_short.true)))
      | take_from_inner-else-is_short b ↦
          rw (b.children-is, b.aside-is)
          (child_kept c.args.entry.now c.args.cover.now _ v w (opened t at) place x y aside (child t at).inside
          (child t at).at (child t at).taken
          (cover_of_items _ c.deref.result.now _ _ (c.deref.ensures.value ∙ ap (λ (z : Vec Node Global). z.items) b.children-is) (search))
          (opened t at).inner.page.room
          (child t at).items refl (grind (arith, nat_tests, b.if-is_short.false)))
    ]

pub take_from_one-take_out-requires : goal.take_from_one-take_out-requires
take_from_one-take_out-requires t c =
    let x = get_or c.loop-place.nodes c.loop-place.place c.index-nodes-place.result in
    let same : x ≡ get_or c.args.nodes.now c.loop-place.place c.index-nodes-place.result = ap
    (λ xs. get_or xs c.loop-place.place c.index-nodes-place.result) c.loop-place.invariant.same in
    let lt = c.loop-place-test.true in
    let level = level-le-top c.args.nodes.now c.loop-place.place x lt (same ∙ get_or_default c.args.nodes.now c.loop-place.place c.index-nodes-place.result
    x lt) in
    let node = c.index-nodes-place.result in (
      omega (arith, c.decreases, level),
      (
        rw c.loop-place.invariant.capacity (subst (CanTakeOut (vec_capacity c.args.aside.now)) (sym same) (c.requires.can_take_out c.loop-place.place node lt)),
        c.loop-place.invariant.none_aside,
      ),
    )

pub take_from_one-returns-then-take_out-clause-held : goal.take_from_one-returns-then-take_out-clause-held
take_from_one-returns-then-take_out-clause-held t c =
    let node = c.index-nodes-place.result in
    let at : node ≡ get_or c.args.nodes.now c.loop-place.place node = c.index-nodes-place.is ∙ ap (λ xs. get_or xs c.loop-place.place node)
    c.loop-place.invariant.same in
    let held : Contains (entries_of node) c.args.entry.now = subst (λ n. Contains (entries_of n) c.args.entry.now) (sym c.index-nodes-place.is)
    (c.take_out.ensures.held.0 c.if-take_out.true) in
    (λ h. contains_joined c.args.nodes.now c.args.entry.now c.loop-place.place node c.loop-place-test.true at held, λ h. refl)

pub take_from_one-loop-place-preserved : goal.take_from_one-loop-place-preserved
take_from_one-loop-place-preserved t c =
    let i = c.loop-place.invariant in
    let p = c.loop-place.place in
    let node = c.index-nodes-place.result in
    let lt = c.loop-place-test.true in
    let at : node ≡ get_or c.args.nodes.now p node = c.index-nodes-place.is ∙ ap (λ xs. get_or xs p node) i.same in
    let lawful : IsLawful node = subst IsLawful (sym at) (c.requires.can_take_out p node lt).lawful in
    elim c.else-may_hold.branch [
      | take_from_one-else-may_hold-via-then-may_hold+else-take_out w ↦
          let kept = w.take_out.ensures.unchanged w.if-take_out.false in
          record {
            same = w.nodes-is ∙ ap (set c.loop-place.nodes p) kept.0 ∙ set-get_or c.loop-place.nodes p node ∙ i.same;
            none_aside = rw w.aside-is kept.1;
            capacity = ap vec_capacity w.aside-is ∙ w.take_out.ensures.capacity ∙ i.capacity;
            none = none_so_far c.args.nodes.now c.args.entry.now p node lt at i.none
                (λ h. false≢true (sym w.if-take_out.false ∙ w.take_out.ensures.held.1
                (subst (λ n. Contains (entries_of n) c.args.entry.now) c.index-nodes-place.is h)));
          }
      | take_from_one-else-may_hold-via-else-may_hold w ↦ record {
        same = w.nodes-is ∙ set-get_or c.loop-place.nodes p node ∙ i.same;
        none_aside = rw w.aside-is i.none_aside;
        capacity = ap vec_capacity w.aside-is ∙ i.capacity;
        none = none_so_far c.args.nodes.now c.args.entry.now p node lt at i.none
            (λ h. false≢true (sym w.if-may_hold.false ∙ c.is_in-may_hold.ensures.1
            (subst (λ n. IsIn c.args.entry.now.shape n.cover) c.index-nodes-place.is (cover_holds node c.args.entry.now lawful h))));
      }
    ]

pub take_from_one-returns-clause-held : goal.take_from_one-returns-clause-held
take_from_one-returns-clause-held t c =
    let none = none_above c.args.nodes.now c.args.entry.now c.loop-place.place c.loop-place.invariant.none
    (omega (arith, c.loop-place-test.false, ap length c.loop-place.invariant.same)) in
    (λ h. absurd (false≢true h), λ h. absurd (none h))

pub take_from_inner-returns-clause-unchanged : goal.take_from_inner-returns-clause-unchanged
take_from_inner-returns-clause-unchanged t c = λ e. absurd (false≢true (sym e))

pub take_from_inner-returns-clause-capacity : goal.take_from_inner-returns-clause-capacity
take_from_inner-returns-clause-capacity t c =
    elim c.if-is_short.branch [
      | take_from_inner-then-is_short b ↦ ap vec_capacity b.aside-is ∙ b.push_reserved.ensures.capacity ∙ c.in-Some.ensures.capacity
      | take_from_inner-else-is_short b ↦ ap vec_capacity b.aside-is ∙ c.in-Some.ensures.capacity
    ]

-- a node is made of its cover and its list
leaf_is : (n : Node) (v : Vec Entry Global) → n.below ≡ Entries v → n ≡ leaf_node n.cover v
leaf_is n v e = let make : Below → Node = λ b. record { cover = n.cover; below = b } in ap make e

inner_is : (n : Node) (v : Vec Node Global) → n.below ≡ Children v → n ≡ inner_node n.cover v
inner_is n v e = let make : Below → Node = λ b. record { cover = n.cover; below = b } in ap make e

pub take_out-returns-in-Entries-clause-held : goal.take_out-returns-in-Entries-clause-held
take_out-returns-in-Entries-clause-held t c =
    let node = leaf_is c.args.node.now c.in-Entries.entries c.in-Entries.is in
    rw node (rw c.in-Entries.entries-is at c.take_from_leaf.ensures.held)

pub take_out-returns-in-Entries-clause-taken : goal.take_out-returns-in-Entries-clause-taken
take_out-returns-in-Entries-clause-taken t c =
    let node = leaf_is c.args.node.now c.in-Entries.entries c.in-Entries.is in
    rw (node, outs-Entries c.in-Entries.entries, c.requires.none_aside) (rw c.in-Entries.entries-is at c.take_from_leaf.ensures.taken)

pub take_out-returns-in-Children-clause-held : goal.take_out-returns-in-Children-clause-held
take_out-returns-in-Children-clause-held t c =
    let node = inner_is c.args.node.now c.in-Children.children c.in-Children.is in
    rw node (rw c.in-Children.children-is at c.take_from_inner.ensures.held)

pub take_out-returns-in-Children-clause-taken : goal.take_out-returns-in-Children-clause-taken
take_out-returns-in-Children-clause-taken t c =
    let node = inner_is c.args.node.now c.in-Children.children c.in-Children.is in
    rw (node, outs-Children c.in-Children.children) (rw c.in-Children.children-is at c.take_from_inner.ensures.taken)
