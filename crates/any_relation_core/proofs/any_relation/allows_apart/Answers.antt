use Rattle.std.proofs.Common.{rules, tests}
use Rattle.std.proofs.lemmas.Iterator.{cases_from_any, YieldsList-from_slice}
use Rattle.any_relation_core.specs.Classes.{AllowsBeside}
use Rattle.any_relation_core.proofs.ClassLemmas.{some_from_cases}
use Rattle.any_relation_core.proofs.any_relation.allows_apart.Goals as goal

pub returns : goal.returns
returns c =
    let relation = c.args.relation.now in
    let found = some_from_cases c.any.result (λ d. AllowsBeside c.args.rings relation d) c.classes_of-classes.result.now
    (cases_from_any _ _ _ (λ d. AllowsBeside c.args.rings relation d) (λ d. ¬ (AllowsBeside c.args.rings relation d)) c.any.ensures.ran (YieldsList-from_slice c.classes_of-classes.result.now cc)
    (λ x q k. search (rules, tests)) (λ x q k. search (rules, tests))) in
    rw c.classes_of-classes.ensures at found
