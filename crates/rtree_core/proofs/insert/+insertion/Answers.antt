use Rattle.std.proofs.Common.{arith, ◌≡◌, ◌<◌, ◌+◌, ◌-◌, ℕ, length, refl, subst}
use Rattle.rtree_core.specs.Items.{inner_node}
use Rattle.rtree_core.specs.Nodes.{level_of, IsLawfulAt}
use Rattle.rtree_core.proofs.NodeLemmas.{lawful_level, lawful_is}
use Rattle.rtree_core.proofs.ItemLemmas.{Opened, open_inner, child_level}
use Rattle.rtree_core.proofs.InsertionLemmas.{inner_stays, child_split}
use Rattle.rtree_core.proofs.insert.+insertion.Goals as goal
use Rattle.rtree_core.proofs.insert.+insertion.Goals.{insert_below-After-index_mut-child}

opened : (g : _) (t : ℕ) (c : insert_below-After-index_mut-child g t) → Opened c.args.cover.now c.args.children.now
opened g t c = open_inner c.args.cover.now c.args.children.now c.requires.lawful

inside : (g : _) (t : ℕ) (c : insert_below-After-index_mut-child g t) → c.choose-place.result < length c.args.children.now.items
inside g t c = rw c.deref.ensures.value at c.choose-place.ensures.0

child_lawful : (g : _) (t : ℕ) (c : insert_below-After-index_mut-child g t) → IsLawfulAt (opened g t c).level c.index_mut-child.result.now
child_lawful g t c = child_level c.args.cover.now c.args.children.now (opened g t c) c.choose-place.result c.index_mut-child.result.now (inside g t c)
    c.index_mut-child.ensures.value

child_level_is : (g : _) (t : ℕ) (c : insert_below-After-index_mut-child g t) → level_of c.index_mut-child.result.now ≡ (opened g t c).level
child_level_is g t c = lawful_level (opened g t c).level c.index_mut-child.result.now (child_lawful g t c)

pub insert_below-insert_into-split-requires : goal.insert_below-insert_into-split-requires
insert_below-insert_into-split-requires g t c κs within =
    let at = (goal.at.insert_below-insert_into-split-requires g t c).After-index_mut-child in
    let level : level_of (inner_node c.args.cover.now c.args.children.now) - (c.args.steps + 1) ≡ level_of c.index_mut-child.result.now - c.args.steps = omega
    (arith, child_level_is g t at, (opened g t at).level_is) in (
      omega (arith, c.decreases, child_level_is g t at, (opened g t at).level_is),
      (
        within,
        (
          lawful_is (opened g t at).level _ (child_lawful g t at),
          (
            omega (arith, c.requires.steps, child_level_is g t at, (opened g t at).level_is),
            (
              subst (λ l. g.T.Item.fits l c.args.item) level c.requires.fits,
              record {
                lists = c.requires.ready.lists;
                two_leaves = c.requires.ready.two_leaves;
                some_inners = omega (arith, c.requires.ready.some_inners, child_level_is g t at, (opened g t at).level_is);
              },
            ),
          ),
        ),
      ),
    )

pub insert_below-add-requires-clause-list : goal.insert_below-add-requires-clause-list
insert_below-add-requires-clause-list g t c =
    let page = (opened g t (goal.at.insert_below-add-requires-clause-list g t c).After-index_mut-child).inner.page in
    record { some = page.some; few = page.few; room = page.room }

pub insert_below-add-requires-clause-free : goal.insert_below-add-requires-clause-free
insert_below-add-requires-clause-free g t c =
    let at = (goal.at.insert_below-add-requires-clause-free g t c).After-index_mut-child in
    record {
      free = c.in-Some.ensures.spent.lists.inners;
      enough = omega (arith, c.requires.ready.some_inners, c.in-Some.ensures.spent.inner, child_level_is g t at, (opened g t at).level_is);
    }

pub insert_below-returns-in-None-clause-inserted : goal.insert_below-returns-in-None-clause-inserted
insert_below-returns-in-None-clause-inserted g t c =
    let at = (goal.at.insert_below-returns-in-None-clause-inserted g t c).After-index_mut-child in
    inner_stays _ _ _ _ _ _ (opened g t at) _ _ _ (inside g t at) c.index_mut-child.ensures.value c.in-None.ensures.inserted refl refl refl
    (cc)

pub insert_below-returns-in-None-clause-spent : goal.insert_below-returns-in-None-clause-spent
insert_below-returns-in-None-clause-spent g t c =
    let at = (goal.at.insert_below-returns-in-None-clause-spent g t c).After-index_mut-child in
    record {
      lists = c.in-None.ensures.spent.lists;
      leaf = c.in-None.ensures.spent.leaf;
      inner = omega (arith, c.in-None.ensures.spent.inner, child_level_is g t at, (opened g t at).level_is);
    }

pub insert_below-returns-in-Some-clause-inserted : goal.insert_below-returns-in-Some-clause-inserted
insert_below-returns-in-Some-clause-inserted g t c =
    let at = (goal.at.insert_below-returns-in-Some-clause-inserted g t c).After-index_mut-child in
    child_split _ _ _ _ (opened g t at) _ _ _ _ _ _ _ (inside g t at) c.index_mut-child.ensures.value c.in-Some.ensures.inserted (search)
    (search)

pub insert_below-returns-in-Some-clause-spent : goal.insert_below-returns-in-Some-clause-spent
insert_below-returns-in-Some-clause-spent g t c =
    let at = (goal.at.insert_below-returns-in-Some-clause-spent g t c).After-index_mut-child in
    record {
      lists = record { leaves = c.in-Some.ensures.spent.lists.leaves; inners = search };
      leaf = c.in-Some.ensures.spent.leaf;
      inner = omega (arith, c.in-Some.ensures.spent.inner, child_level_is g t at, (opened g t at).level_is);
    }
