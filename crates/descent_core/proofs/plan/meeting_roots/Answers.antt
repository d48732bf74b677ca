use Rattle.std.proofs.Common.{rules}
use Rattle.std.proofs.lemmas.Bool.{false≢true}
use Rattle.descent_core.proofs.TopLemmas.{top_none_left, top_none_right, top_apart, top_pushed}
use Rattle.descent_core.proofs.plan.meeting_roots.Goals as goal

pub returns-in_default : goal.returns-in_default
returns-in_default c =
    rw c.new-top.ensures.items
    (top_none_left c.args.left.now c.args.right.now c.root-left_root.ensures.lawful c.root-right_root.ensures.lawful c.in_default.ensures.root)

pub returns-in_default-right_root : goal.returns-in_default-right_root
returns-in_default-right_root c =
    rw c.new-top.ensures.items
    (top_none_right c.args.left.now c.args.right.now c.root-left_root.ensures.lawful c.root-right_root.ensures.lawful c.in_default-right_root.ensures.root)

pub returns-then-not-meet : goal.returns-then-not-meet
returns-then-not-meet c =
    let meets = rw c.cover.ensures.value at c.meets-meet.ensures in
    rw c.new-top.ensures.items
    (top_apart c.args.left.now c.args.right.now c.in-Some.left_root.now c.in-Some-right_root.right_root.now
    c.root-left_root.ensures.lawful c.root-right_root.ensures.lawful c.in-Some.ensures.root c.in-Some-right_root.ensures.root
    (λ m. false≢true (rw c.if-not-meet.true at (meets.1 m))))

pub returns : goal.returns
returns c =
    let meets = rw c.cover.ensures.value at c.meets-meet.ensures in
    top_pushed c.args.left.now c.args.right.now c.in-Some.left_root c.in-Some-right_root.right_root c.new-top.result.items _
    c.root-left_root.ensures.lawful c.root-right_root.ensures.lawful c.in-Some.ensures.root c.in-Some-right_root.ensures.root
    (meets.0 c.if-not-meet.false) c.new-top.ensures.items (search rules)
