use Rattle.std.proofs.Common.{sym, ◌∙◌}
use Rattle.noding_core.proofs.GatherLemmas.{extends-trans, vertex_kept, ends_kept, joint_meetings, held_meetings}
use Rattle.noding_core.proofs.AsideLemmas.{aside_meetings}
use Rattle.noding_core.proofs.nodes.push_meetings.Goals as goal

pub push_inner-requires-2-clause-ends : goal.push_inner-requires-2-clause-ends
push_inner-requires-2-clause-ends c = ends_kept _ _ _ c.in_ok-push_inner.ensures.kept c.requires.ends

pub returns-then-is_same_edge-clause-meetings : goal.returns-then-is_same_edge-clause-meetings
returns-then-is_same_edge-clause-meetings c =
    held_meetings c.args.e.now c.args.f.now _ c.requires.ends (c.is_same_edge.ensures.first c.if-is_same_edge.true) (c.is_same_edge.ensures.last c.if-is_same_edge.true)

pub returns-then-is_joint-clause-meetings : goal.returns-then-is_joint-clause-meetings
returns-then-is_joint-clause-meetings c = joint_meetings c.args.e.now c.args.f.now _ c.requires.ends (c.is_joint.ensures c.if-is_joint.true)

pub returns-then-is_aside-clause-meetings : goal.returns-then-is_aside-clause-meetings
returns-then-is_aside-clause-meetings c = aside_meetings c.args.e.now c.args.f.now _ (sym c.is_aside.ensures ∙ c.if-is_aside.true)

pub returns-clause-meetings : goal.returns-clause-meetings
returns-clause-meetings c =
    let second = c.in_ok-push_inner-2.ensures in
    let third = c.in_ok-push_meeting.ensures in
    record {
      first = vertex_kept _ _ _ _ (extends-trans _ _ _ second.kept third.kept) c.in_ok-push_inner.ensures.here;
      last = vertex_kept _ _ _ _ third.kept second.here;
      meeting = third.here;
    }
