use Rattle.std.proofs.Common.{rules, All, subst}
use Rattle.std.proofs.lemmas.List.Elements.{All-nil}
use Rattle.std.proofs.lemmas.List.{take_all}
use Rattle.noding_core.specs.Gathered.{HasMeetings}
use Rattle.noding_core.proofs.GatherLemmas.{extends-refl, extends-trans, ends_kept, meetings_more}
use Rattle.noding_core.proofs.nodes.push_each_meetings.Goals as goal

pub loop-f-init : goal.loop-f-init
loop-f-init c = record { kept = extends-refl _; on = c.requires.on; ends = c.requires.ends; meetings = All-nil _ }

pub push_meetings-requires-clause-ends : goal.push_meetings-requires-clause-ends
push_meetings-requires-clause-ends c = c.loop-f.invariant.ends

pub loop-f-preserved : goal.loop-f-preserved
loop-f-preserved c = record {
  kept = extends-trans _ _ _ c.loop-f.invariant.kept c.in_ok-push_meetings.ensures.kept;
  on = c.in_ok-push_meetings.ensures.on;
  ends = ends_kept _ _ _ c.in_ok-push_meetings.ensures.kept c.loop-f.invariant.ends;
  meetings = meetings_more _ _ _ _ _ _ (search rules) (search rules) c.in_ok-push_meetings.ensures.kept c.loop-f.invariant.meetings c.in_ok-push_meetings.ensures.meetings;
}

pub returns-clause-meetings : goal.returns-clause-meetings
returns-clause-meetings c = subst (All (HasMeetings _ _)) (take_all c.loop-f.f-index c.args.edges.now (search rules)) c.loop-f.invariant.meetings
