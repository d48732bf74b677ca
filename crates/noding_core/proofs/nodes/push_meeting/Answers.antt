use Rattle.noding_core.proofs.GatherLemmas.{on_pushed, meeting_pushed}
use Rattle.noding_core.proofs.nodes.push_meeting.Goals as goal

pub returns-in_ok-push-clause-on : goal.returns-in_ok-push-clause-on
returns-in_ok-push-clause-on c =
    on_pushed c.args.e.now _ _ c.in-Some.node c.in_ok-push.ensures.items c.in-Some.ensures.edge c.requires

pub returns-in_ok-push-clause-here : goal.returns-in_ok-push-clause-here
returns-in_ok-push-clause-here c =
    meeting_pushed c.args.e.now _ _ c.in-Some.node c.args.f.now c.in_ok-push.ensures.items c.in-Some.ensures.some
