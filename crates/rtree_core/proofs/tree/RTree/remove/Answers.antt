use Rattle.std.proofs.Common.{◌≡◌, ◌-◌, ◌*◌, arith, refl, subst}
use Rattle.rtree_core.specs.EditableTrees.{CanTake}
use Rattle.rtree_core.proofs.TreeLemmas.{tree_height, tree_loses_of, loses_length}
use Rattle.rtree_core.proofs.tree.RTree.remove.Goals as goal

pub invariant_of-self-then-removed : goal.invariant_of-self-then-removed
invariant_of-self-then-removed c = record {
  tree = tree_loses_of c.args.entry.now c.self.inside.tree.root _ c.remove-removed.new.self.root (cc) c.self.invariant.tree
      (c.if-removed.ensures.loses refl) c.remove-removed.ensures.rooted.root;
  sound = c.remove-removed.ensures.rooted.sound;
  len = omega (
    arith,
    c.self.invariant.len,
    loses_length c.args.entry.now c.self.inside.tree.root _ c.remove-removed.new.self.root (cc) (c.if-removed.ensures.loses refl),
  );
  none_aside = c.remove-removed.ensures.none_aside;
}

pub invariant_of-self : goal.invariant_of-self
invariant_of-self c =
    let i = c.self.invariant in
    record { tree = i.tree; sound = i.sound; len = i.len; none_aside = cc }

pub overflow_mul-levels : goal.overflow_mul-levels
overflow_mul-levels c =
    let i = c.self.invariant in
    omega (arith, c.saturating_sub-levels.ensures, i.sound.height_is, tree_height _ i.tree)

pub reserve_lists-requires-clause-small : goal.reserve_lists-requires-clause-small
reserve_lists-requires-clause-small c =
    let i = c.self.invariant in
    omega (arith, c.saturating_sub-levels.ensures, i.sound.height_is, tree_height _ i.tree)

pub remove-removed-requires : goal.remove-removed-requires
remove-removed-requires c =
    let i = c.self.invariant in
    let lists = c.in_ok-reserve_lists.ensures in
    let tree = c.reserve_lists.new.self in
    let levels : c.saturating_sub-levels.result ≡ tree.height - 1 = omega (arith, c.saturating_sub-levels.ensures, lists.height) in
    record {
      rooted = record { sound = lists.sound; root = rw lists.root i.tree.lawful };
      can_take = subst (λ n. CanTake (2 * n) tree) levels lists.can_take;
      none_aside = cc;
      room = omega (arith, c.saturating_sub-levels.ensures, c.in_ok-reserve.ensures.ok, lists.height);
    }

pub overflow_sub-self : goal.overflow_sub-self
overflow_sub-self c =
    omega (
      arith,
      c.self.invariant.len,
      loses_length c.args.entry.now c.self.inside.tree.root _ c.remove-removed.new.self.root (cc) (c.if-removed.ensures.loses refl),
    )
