use Rattle.std.proofs.Common.{arith, ◌≡◌, ◌+◌, ◌-◌, ◌<◌, rules}
use Rattle.std.proofs.lemmas.Bool.{false≢true}
use Rattle.std.proofs.lemmas.Grind.{common_steps}
use Rattle.relation_core.specs.JoinRelations.{relation_of}
use Rattle.rtree_core.specs.Nodes.{entries_of, level_of, node_cover, IsLawful}
use Rattle.rtree_core.proofs.NodeLemmas.{level-le-top}
use Rattle.descent_core.proofs.FindLemmas.{adds_no_lefts, adds_no_rights, adds_node_left, adds_node_right, adds_apart, entries_in_cover}
use Rattle.descent_core.proofs.LowerLemmas.{top_lower, above_zero, at_place}
use Rattle.descent_core.proofs.rows.+descent.Goals as goal

pub descend-loop-child-init : goal.descend-loop-child-init
descend-loop-child-init t c = adds_no_lefts (relation_of c.args.relation.now) (entries_of c.args.right.now) c.args.found.now.items

pub descend-loop-child-preserved-then-not-meet : goal.descend-loop-child-preserved-then-not-meet
descend-loop-child-preserved-then-not-meet t c =
    let relation = relation_of c.args.relation.now in
    let child = c.child-item.result in
    let right = c.args.right.now in
    let lefts = c.lower-lefts.result.now in
    let meets = rw c.cover.ensures.value at c.meets-meet.ensures in
    let lawful = at_place IsLawful lefts c.loop-child.child-index child c.lower-lefts.ensures.step.lawful c.loop-child-test.true c.child-item.is in
    adds_node_left relation lefts (entries_of right) c.loop-child.child-index child _ _ _ c.loop-child-test.true c.child-item.is
    c.loop-child.invariant
    (adds_apart relation c.args.relation.now.forbids_disjoint (entries_of child) (entries_of right) (node_cover child) (node_cover right) _
    (entries_in_cover child lawful) (entries_in_cover right c.requires.right) (λ m. false≢true (rw c.if-not-meet.true at (meets.1 m))))

pub descend-loop-child-preserved : goal.descend-loop-child-preserved
descend-loop-child-preserved t c =
    adds_node_left (relation_of c.args.relation.now) c.lower-lefts.result.now (entries_of c.args.right.now) c.loop-child.child-index
    c.child-item.result _ _ _ c.loop-child-test.true c.child-item.is c.loop-child.invariant
    (rw c.lower-rights.ensures.step.entries (search rules))

pub descend-descend_beside-requires : goal.descend-descend_beside-requires
descend-descend_beside-requires t c =
    let left = c.args.left.now in
    let right = c.args.right.now in
    let child = c.child-item.result in
    let lefts = c.lower-lefts.result.now in
    let step = c.lower-lefts.ensures.step in
    let some : 0 < level_of left + level_of right = grind (arith, common_steps, above_zero) in
    let level = at_place (λ m. level_of m ≡ level_of left - 1) lefts c.loop-child.child-index child step.levels c.loop-child-test.true c.child-item.is in
    let top = top_lower right c.lower-rights.result.now c.lower-rights.ensures.step in (
      omega (arith, c.decreases, some, level, top),
      (at_place IsLawful lefts c.loop-child.child-index child step.lawful c.loop-child-test.true c.child-item.is, c.lower-rights.ensures.step.lawful),
    )

pub descend_beside-loop-right-init : goal.descend_beside-loop-right-init
descend_beside-loop-right-init t c = adds_no_rights (relation_of c.args.relation.now) (entries_of c.args.left.now) c.args.found.now.items

pub descend_beside-descend-requires : goal.descend_beside-descend-requires
descend_beside-descend-requires t c =
    let right = c.right-item.result in
    let rights = c.args.rights.now in
    let level = level-le-top rights c.loop-right.right-index right c.loop-right-test.true c.right-item.is in (
      omega (arith, c.decreases, level),
      (c.requires.left, at_place IsLawful rights c.loop-right.right-index right c.requires.rights c.loop-right-test.true c.right-item.is),
    )

pub descend_beside-loop-right-preserved-then-not-meet : goal.descend_beside-loop-right-preserved-then-not-meet
descend_beside-loop-right-preserved-then-not-meet t c =
    let relation = relation_of c.args.relation.now in
    let left = c.args.left.now in
    let right = c.right-item.result in
    let rights = c.args.rights.now in
    let meets = rw c.cover.ensures.value at c.meets-meet.ensures in
    let lawful = at_place IsLawful rights c.loop-right.right-index right c.requires.rights c.loop-right-test.true c.right-item.is in
    adds_node_right relation (entries_of left) rights c.loop-right.right-index right _ _ _ c.loop-right-test.true c.right-item.is
    c.loop-right.invariant
    (adds_apart relation c.args.relation.now.forbids_disjoint (entries_of left) (entries_of right) (node_cover left) (node_cover right) _
    (entries_in_cover left c.requires.left) (entries_in_cover right lawful) (λ m. false≢true (rw c.if-not-meet.true at (meets.1 m))))

pub descend_beside-loop-right-preserved : goal.descend_beside-loop-right-preserved
descend_beside-loop-right-preserved t c =
    adds_node_right (relation_of c.args.relation.now) (entries_of c.args.left.now) c.args.rights.now c.loop-right.right-index c.right-item.result _ _ _
    c.loop-right-test.true c.right-item.is c.loop-right.invariant (search rules)
