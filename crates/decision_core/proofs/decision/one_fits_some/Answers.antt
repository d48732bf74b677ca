use Rattle.std.proofs.Common.{rules, tests}
use Rattle.std.proofs.lemmas.Iterator.{cases_from_any, YieldsList-from_slice}
use Rattle.decision_core.specs.Decisions.{FitsSome}
use Rattle.decision_core.proofs.DecisionLemmas.{some_from_cases}
use Rattle.decision_core.proofs.decision.one_fits_some.Goals as goal

pub returns : goal.returns
returns c =
    let masks = c.args.masks.now in
    let fits = FitsSome c.args.least.now c.args.greatest.now in
    some_from_cases c.any.result fits masks
    (cases_from_any _ _ _ fits (λ mask. ¬ (fits mask)) c.any.ensures.ran (YieldsList-from_slice masks cc)
    (λ x q k. search (rules, tests)) (λ x q k. search (rules, tests)))
