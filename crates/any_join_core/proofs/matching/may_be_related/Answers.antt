use Rattle.any_join_core.proofs.EnvelopeLemmas.{none_lost_of}
use Rattle.any_join_core.proofs.matching.may_be_related.Goals as goal

pub returns-clause-none_lost : goal.returns-clause-none_lost
returns-clause-none_lost c =
    none_lost_of c.args.relation.now c.args.first.now c.args.second.now c.allows_boxes.result
    (λ g h is_g is_h of_g of_h holds. c.allows_boxes.ensures.none_lost g h is_g is_h (rw c.bounds-a.ensures of_g) (rw c.bounds-b.ensures of_h) holds)
