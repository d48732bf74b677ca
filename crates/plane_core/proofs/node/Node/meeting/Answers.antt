use Rattle.std.proofs.Common.{sym, ◌∙◌}
use Rattle.plane_core.proofs.CrossingLemmas.{no_meeting}
use Rattle.plane_core.proofs.node.Node.meeting.Goals as goal

pub returns-else-do_cross-clause-none : goal.returns-else-do_cross-clause-none
returns-else-do_cross-clause-none c = no_meeting c.args.e.now c.args.f.now (sym c.do_cross.ensures ∙ c.if-do_cross.false)
