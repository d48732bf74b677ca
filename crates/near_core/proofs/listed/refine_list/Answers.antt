use Rattle.near_core.proofs.JoinLemmas.{refined_list, correct_answers}
use Rattle.near_core.proofs.listed.refine_list.Goals as goal

pub returns-clause-list : goal.returns-clause-list
returns-clause-list g c =
    refined_list (g.C.Condition.near c.args.condition.now) (g.C.Condition.stands c.args.condition.now) (λ v. v.items) c.args.pairs.now c.refine_pairs.result
    c.requires.near c.refine_pairs.ensures.each_once c.refine_pairs.ensures.in_order

pub returns-clause-answers : goal.returns-clause-answers
returns-clause-answers g c =
    correct_answers (g.C.Condition.near c.args.condition.now) (g.C.Condition.stands c.args.condition.now) (λ v. v.items) c.args.pairs.now
    (g.C.Condition.answers c.args.condition.now) c.refine_pairs.result c.refine_pairs.ensures.refined
