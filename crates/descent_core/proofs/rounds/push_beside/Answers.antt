use Rattle.std.proofs.Common.{arith, ◌≡◌, ◌≢◌, length, rules}
use Rattle.std.proofs.lemmas.Bool.{false≢true}
use Rattle.std.proofs.lemmas.Grind.{common_steps}
use Rattle.descent_core.specs.Plans.{most_tasks}
use Rattle.descent_core.specs.Steps.{nodes_of}
use Rattle.descent_core.proofs.RoundLemmas.{alone, alone_all, taken_none, taken_more, too_many, taken_all, takes_pushed, nodes_pushed, takes_not_one, full_for_one}
use Rattle.descent_core.proofs.TaskLemmas.{length_nodes}
use Rattle.descent_core.proofs.rounds.push_beside.Goals as goal

pub loop-right-init : goal.loop-right-init
loop-right-init c = taken_none (nodes_of c.args.next.now.items) (omega (arith, length_nodes c.args.next.now.items, c.requires))

pub loop-right-preserved-then-not-meet : goal.loop-right-preserved-then-not-meet
loop-right-preserved-then-not-meet c =
    let left = c.args.left.now in
    let right = c.right-item.result in
    let before = c.loop-right.next in
    let meets = rw c.cover.ensures.value at c.meets-meet.ensures in
    taken_more (alone left) c.args.rights.now c.loop-right.right-index right (nodes_of c.args.next.now.items) (nodes_of before.items) c.loop-right-test.true
    c.right-item.is c.loop-right.invariant _
    (takes_not_one left right (nodes_of before.items) (λ m. false≢true (rw c.if-not-meet.true at (meets.1 m))) c.loop-right.invariant.few)

pub loop-right-preserved : goal.loop-right-preserved
loop-right-preserved c =
    let left = c.args.left.now in
    let right = c.right-item.result in
    let before = c.loop-right.next in
    let meets = rw c.cover.ensures.value at c.meets-meet.ensures in
    let room : length (nodes_of before.items) ≢ most_tasks =
    λ full. absurd (grind (arith, common_steps, full, length_nodes before.items, before.ok.0)) in
    taken_more (alone left) c.args.rights.now c.loop-right.right-index right (nodes_of c.args.next.now.items) (nodes_of before.items) c.loop-right-test.true
    c.right-item.is c.loop-right.invariant _
    (takes_pushed left right (nodes_of before.items) _ (meets.0 c.if-not-meet.false) c.loop-right.invariant.few room (search (rules, nodes_pushed)))

pub returns-then-full : goal.returns-then-full
returns-then-full c =
    let left = c.args.left.now in
    let right = c.right-item.result in
    let before = c.loop-right.next in
    let meets = rw c.cover.ensures.value at c.meets-meet.ensures in
    let full : length (nodes_of before.items) ≡ most_tasks =
    grind (arith, common_steps, length_nodes before.items, before.ok.0) in
    rw (← alone_all left c.args.rights.now) (too_many (alone left) c.args.rights.now c.loop-right.right-index right (nodes_of c.args.next.now.items)
    (nodes_of before.items) c.loop-right-test.true c.right-item.is c.loop-right.invariant
    (full_for_one left right (nodes_of before.items) (meets.0 c.if-not-meet.false) full))

pub returns : goal.returns
returns c =
    let left = c.args.left.now in
    rw (← alone_all left c.args.rights.now) (taken_all (alone left) c.args.rights.now c.loop-right.right-index (nodes_of c.args.next.now.items)
    (nodes_of c.loop-right.next.items) (omega (arith, c.loop-right-test.false)) c.loop-right.invariant)
