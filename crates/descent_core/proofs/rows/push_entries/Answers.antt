use Rattle.std.proofs.Common.{rules, sym, [], ◌∷◌}
use Rattle.std.proofs.lemmas.Bool.{false≢true}
use Rattle.relation_core.specs.JoinRelations.{relation_of}
use Rattle.rtree_core.specs.Nodes.{entries_of, node_cover}
use Rattle.descent_core.proofs.FindLemmas.{adds_no_lefts, adds_more_left, adds_apart, entries_in_cover, entry_in_itself}
use Rattle.descent_core.proofs.rows.push_entries.Goals as goal

pub loop-left-init : goal.loop-left-init
loop-left-init c = adds_no_lefts (relation_of c.args.relation.now) (entries_of c.args.right.now) c.args.found.now.items

pub loop-left-preserved-then-not-meet : goal.loop-left-preserved-then-not-meet
loop-left-preserved-then-not-meet c =
    let relation = relation_of c.args.relation.now in
    let left = c.left-item.result in
    let right = c.args.right.now in
    adds_more_left relation c.args.lefts.now (entries_of right) c.loop-left.left-index left _ _ _ c.loop-left-test.true c.left-item.is
    c.loop-left.invariant
    (adds_apart relation c.args.relation.now.forbids_disjoint (left ∷ []) (entries_of right) left.shape (node_cover right) _ (entry_in_itself left)
    (entries_in_cover right c.requires.lawful) (λ m. false≢true (rw c.if-not-meet.true at (c.meets-meet.ensures.1 m))))

pub loop-left-preserved : goal.loop-left-preserved
loop-left-preserved c =
    adds_more_left (relation_of c.args.relation.now) c.args.lefts.now (entries_of c.args.right.now) c.loop-left.left-index c.left-item.result _ _ _
    c.loop-left-test.true c.left-item.is c.loop-left.invariant (rw (sym c.entries-rights.ensures.entries) (search rules))
