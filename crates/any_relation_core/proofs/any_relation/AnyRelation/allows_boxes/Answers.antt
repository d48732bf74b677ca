use Rattle.any_relation_core.specs.AnyRelations.{relation_of, rings_of, forbids_disjoint}
use Rattle.any_relation_core.proofs.BoxLemmas.{allows_by, allows_envelopes}
use Rattle.any_relation_core.proofs.any_relation.AnyRelation.allows_boxes.Goals as goal

pub returns-clause-exact : goal.returns-clause-exact
returns-clause-exact c =
    let join = c.args.self.now in
    allows_by (relation_of join) c.args.first.now c.args.second.now join.boxes c.allows.result join.implied c.allows.ensures

pub returns-clause-none_lost : goal.returns-clause-none_lost
returns-clause-none_lost c = λ g h is_g is_h of_g of_h holds.
    let join = c.args.self.now in
    let allows = allows_envelopes (rings_of join) (relation_of join) g h c.args.first.now c.args.second.now (forbids_disjoint join) is_g is_h of_g of_h holds in
    (allows_by (relation_of join) c.args.first.now c.args.second.now join.boxes c.allows.result join.implied c.allows.ensures).1 allows
