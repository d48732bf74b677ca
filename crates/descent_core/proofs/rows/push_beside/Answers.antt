use Rattle.std.proofs.Common.{[], ◌∷◌, rules}
use Rattle.std.proofs.lemmas.Bool.{false≢true}
use Rattle.relation_core.specs.JoinRelations.{relation_of}
use Rattle.descent_core.proofs.FindLemmas.{adds_no_rights, adds_more_right, adds_one, adds_not_one}
use Rattle.descent_core.proofs.rows.push_beside.Goals as goal

pub loop-right-init : goal.loop-right-init
loop-right-init c = adds_no_rights (relation_of c.args.relation.now) (c.args.left.now ∷ []) c.args.found.now.items

pub loop-right-preserved-then-not-holds : goal.loop-right-preserved-then-not-holds
loop-right-preserved-then-not-holds c =
    let relation = relation_of c.args.relation.now in
    let left = c.args.left.now in
    let right = c.right-item.result in
    adds_more_right relation (left ∷ []) c.args.rights.now c.loop-right.right-index right _ _ _ c.loop-right-test.true c.right-item.is
    c.loop-right.invariant
    (adds_not_one relation left right _ (λ h. false≢true (rw c.if-not-holds.true at (c.holds-holds.ensures.holds.1 h))))

pub loop-right-preserved : goal.loop-right-preserved
loop-right-preserved c =
    let relation = relation_of c.args.relation.now in
    let left = c.args.left.now in
    let right = c.right-item.result in
    adds_more_right relation (left ∷ []) c.args.rights.now c.loop-right.right-index right _ _ _ c.loop-right-test.true c.right-item.is
    c.loop-right.invariant
    (adds_one relation left right _ _ (c.holds-holds.ensures.holds.0 c.if-not-holds.false) (search rules))
