use Rattle.arrangement_core.proofs.SettledLemmas.{fitting_fails, answer_holds, answer_fails}
use Rattle.arrangement_core.proofs.wanted.go_on.Goals as goal

pub returns-in-Fails : goal.returns-in-Fails
returns-in-Fails c = fitting_fails _ _ _ _ c.in-Fitting.is c.in_order.ensures (c.decision.ensures.fails c.in-Fails.is)

pub returns-in-Holds : goal.returns-in-Holds
returns-in-Holds c = answer_holds _ _ _ _ c.in-Answer.is c.in_order-in-Answer.ensures (c.loose_decision.ensures.holds c.in-Holds.is)

pub returns-in-Fails-loose_decision : goal.returns-in-Fails-loose_decision
returns-in-Fails-loose_decision c = answer_fails _ _ _ _ c.in-Answer.is c.in_order-in-Answer.ensures (c.loose_decision.ensures.fails c.in-Fails-loose_decision.is)
