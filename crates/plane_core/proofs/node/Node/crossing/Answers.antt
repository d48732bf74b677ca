use Rattle.std.proofs.Common.{sym, ◌∙◌}
use Rattle.plane_core.specs.Meetings.{divided}
use Rattle.plane_core.proofs.CrossingLemmas.{down_part, down_positive, down_meeting, up_part, up_positive, up_meeting}
use Rattle.plane_core.proofs.CrossingLemmas.{true_lt, false_lt}
use Rattle.plane_core.proofs.node.Node.crossing.Goals as goal

pub along-requires-clause-not_before : goal.along-requires-clause-not_before
along-requires-clause-not_before c =
    let s = c.side_of-side in
    let t = c.turn_to-turn in
    (down_part c.args.e.now c.args.f.now s.result t.result c.requires s.ensures.value t.ensures.value
    s.ensures.bound t.ensures.bound (true_lt _ (sym c.is_low.ensures ∙ c.if-is_low.true))).from

pub along-requires-clause-not_beyond : goal.along-requires-clause-not_beyond
along-requires-clause-not_beyond c =
    let s = c.side_of-side in
    let t = c.turn_to-turn in
    (down_part c.args.e.now c.args.f.now s.result t.result c.requires s.ensures.value t.ensures.value
    s.ensures.bound t.ensures.bound (true_lt _ (sym c.is_low.ensures ∙ c.if-is_low.true))).to

pub along-requires-clause-positive : goal.along-requires-clause-positive
along-requires-clause-positive c =
    let t = c.turn_to-turn in
    down_positive c.args.e.now c.args.f.now t.result t.ensures.value t.ensures.bound (true_lt _ (sym c.is_low.ensures ∙ c.if-is_low.true))

pub along-requires-else-is_low-clause-not_before : goal.along-requires-else-is_low-clause-not_before
along-requires-else-is_low-clause-not_before c =
    let s = c.side_of-side in
    let t = c.turn_to-turn in
    (up_part c.args.e.now c.args.f.now s.result t.result c.requires s.ensures.value t.ensures.value
    s.ensures.bound t.ensures.bound (false_lt _ (sym c.is_low.ensures ∙ c.if-is_low.false))).from

pub along-requires-else-is_low-clause-not_beyond : goal.along-requires-else-is_low-clause-not_beyond
along-requires-else-is_low-clause-not_beyond c =
    let s = c.side_of-side in
    let t = c.turn_to-turn in
    (up_part c.args.e.now c.args.f.now s.result t.result c.requires s.ensures.value t.ensures.value
    s.ensures.bound t.ensures.bound (false_lt _ (sym c.is_low.ensures ∙ c.if-is_low.false))).to

pub along-requires-else-is_low-clause-positive : goal.along-requires-else-is_low-clause-positive
along-requires-else-is_low-clause-positive c =
    let t = c.turn_to-turn in
    up_positive c.args.e.now c.args.f.now t.result c.requires t.ensures.value t.ensures.bound (false_lt _ (sym c.is_low.ensures ∙ c.if-is_low.false))

pub returns-then-is_low-clause-meeting : goal.returns-then-is_low-clause-meeting
returns-then-is_low-clause-meeting c =
    let s = c.side_of-side in
    let t = c.turn_to-turn in
    down_meeting c.args.e.now c.args.f.now s.result t.result _ c.requires s.ensures.value t.ensures.value
    s.ensures.bound t.ensures.bound (true_lt _ (sym c.is_low.ensures ∙ c.if-is_low.true))
    (λ i. divided (c.along.ensures.edge i) (c.along.ensures.n i) (c.along.ensures.w i))

pub returns-else-is_low-clause-meeting : goal.returns-else-is_low-clause-meeting
returns-else-is_low-clause-meeting c =
    let s = c.side_of-side in
    let t = c.turn_to-turn in
    up_meeting c.args.e.now c.args.f.now s.result t.result _ c.requires s.ensures.value t.ensures.value
    s.ensures.bound t.ensures.bound (false_lt _ (sym c.is_low.ensures ∙ c.if-is_low.false))
    (λ i. divided (c.along-else-is_low.ensures.edge i) (c.along-else-is_low.ensures.n i) (c.along-else-is_low.ensures.w i))
