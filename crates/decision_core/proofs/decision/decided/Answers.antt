use Rattle.decision_core.proofs.DecisionLemmas.{is_holds, holds_not_none, open_not_none, is_fails}
use Rattle.decision_core.proofs.OpenLemmas.{not_each}
use Rattle.decision_core.proofs.decision.decided.Goals as goal

pub returns-then-one_fits_both-clause-holds : goal.returns-then-one_fits_both-clause-holds
returns-then-one_fits_both-clause-holds c = λ _. is_holds _ _ _ _ c.one_fits_both.ensures c.if-one_fits_both.true

pub returns-then-one_fits_both-clause-none_fits : goal.returns-then-one_fits_both-clause-none_fits
returns-then-one_fits_both-clause-none_fits c = λ below none. absurd (holds_not_none _ _ _ _ below c.one_fits_both.ensures c.if-one_fits_both.true none)

pub returns-then-one_fits_some-clause-none_fits : goal.returns-then-one_fits_some-clause-none_fits
returns-then-one_fits_some-clause-none_fits c = λ below none. absurd (open_not_none _ _ _ _ below c.one_fits_some.ensures c.if-one_fits_some.true none)

pub returns-else-one_fits_some-clause-fails : goal.returns-else-one_fits_some-clause-fails
returns-else-one_fits_some-clause-fails c = λ _. is_fails _ _ _ _ c.one_fits_some.ensures c.if-one_fits_some.false

pub returns-then-one_fits_some-clause-all_fit : goal.returns-then-one_fits_some-clause-all_fit
returns-then-one_fits_some-clause-all_fit c =
    λ r d e is below each. absurd (not_each _ _ _ _ c.one_fits_both.ensures c.if-one_fits_both.false r d e is below each)

pub returns-else-one_fits_some-clause-all_fit : goal.returns-else-one_fits_some-clause-all_fit
returns-else-one_fits_some-clause-all_fit c =
    λ r d e is below each. absurd (not_each _ _ _ _ c.one_fits_both.ensures c.if-one_fits_both.false r d e is below each)
