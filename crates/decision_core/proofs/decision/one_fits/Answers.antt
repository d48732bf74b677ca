use Rattle.std.proofs.Common.{rules, tests}
use Rattle.std.proofs.lemmas.Iterator.{cases_from_any, YieldsList-from_slice}
use Rattle.relation_core.specs.Masks.{Fits}
use Rattle.relation_core.proofs.DisjointLemmas.{one_from_cases}
use Rattle.decision_core.proofs.decision.one_fits.Goals as goal

pub returns : goal.returns
returns c =
    let masks = c.args.masks.now in
    let matrix = c.args.matrix.now in
    one_from_cases c.any.result masks matrix
    (cases_from_any _ _ _ (λ mask. Fits mask matrix) (λ mask. ¬ (Fits mask matrix)) c.any.ensures.ran (YieldsList-from_slice masks cc)
    (λ x q k. search (rules, tests)) (λ x q k. search (rules, tests)))
