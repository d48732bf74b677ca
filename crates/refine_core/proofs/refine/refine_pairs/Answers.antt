use Rattle.std.proofs.Common.{◌≡◌, true}
use Rattle.std.proofs.lemmas.Result.{IfOk-weaker}
use Rattle.refine_core.proofs.RefinementLemmas.{all_pairs_refined}
use Rattle.refine_core.proofs.refine.refine_pairs.Goals as goal

pub returns-clause-each_once : goal.returns-clause-each_once
returns-clause-each_once g c = λ near.
    IfOk-weaker c.refine_by_workers.result _ _ (λ refined is. c.refinement_law.ensures.each_once c.args.pairs.now refined.items near is) c.refine_by_workers.ensures

pub returns-clause-in_order : goal.returns-clause-in_order
returns-clause-in_order g c = λ before ordered.
    IfOk-weaker c.refine_by_workers.result _ _ (λ refined is.
    all_pairs_refined (g.C.Condition.stands c.args.condition.now) (g.C.Condition.answers c.args.condition.now) (λ p q. before p q ≡ true) is ordered)
    c.refine_by_workers.ensures
