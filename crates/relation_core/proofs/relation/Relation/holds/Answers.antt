use Rattle.std.proofs.lemmas.Bool.Decides.{Decides-not}
use Rattle.relation_core.specs.declared.relation.Relation.TheVariants as relations
use Rattle.relation_core.proofs.MatrixOf.{by_mask, by_dims, by_sets, masks_told, sets_told}
use Rattle.relation_core.proofs.relation.Relation.holds.Goals as goal

pub returns-in-Mask-clause-masks : goal.returns-in-Mask-clause-masks
returns-in-Mask-clause-masks c = rw c.in-Mask.is (masks_told (relations.Mask c.in-Mask.mask) c.args.a.now c.args.b.now _ (search by_mask))

pub returns-in-Mask-clause-sets : goal.returns-in-Mask-clause-sets
returns-in-Mask-clause-sets c = rw c.in-Mask.is (sets_told (relations.Mask c.in-Mask.mask) c.args.a.now c.args.b.now _ (search by_mask))

pub returns-in-Disjoint-clause-masks : goal.returns-in-Disjoint-clause-masks
returns-in-Disjoint-clause-masks c = rw c.in-Disjoint.is (masks_told relations.Disjoint c.args.a.now c.args.b.now _ (by_sets _ _ _ _ (Decides-not _ (search))))

pub returns-in-Disjoint-clause-sets : goal.returns-in-Disjoint-clause-sets
returns-in-Disjoint-clause-sets c = rw c.in-Disjoint.is (sets_told relations.Disjoint c.args.a.now c.args.b.now _ (by_sets _ _ _ _ (Decides-not _ (search))))

pub returns-in-Intersects-clause-masks : goal.returns-in-Intersects-clause-masks
returns-in-Intersects-clause-masks c = rw c.in-Intersects.is (masks_told relations.Intersects c.args.a.now c.args.b.now _ (search by_sets))

pub returns-in-Intersects-clause-sets : goal.returns-in-Intersects-clause-sets
returns-in-Intersects-clause-sets c = rw c.in-Intersects.is (sets_told relations.Intersects c.args.a.now c.args.b.now _ (search by_sets))

pub returns-in-Touches-clause-masks : goal.returns-in-Touches-clause-masks
returns-in-Touches-clause-masks c = rw c.in-Touches.is (masks_told relations.Touches c.args.a.now c.args.b.now _ (search by_sets))

pub returns-in-Touches-clause-sets : goal.returns-in-Touches-clause-sets
returns-in-Touches-clause-sets c = rw c.in-Touches.is (sets_told relations.Touches c.args.a.now c.args.b.now _ (search by_sets))

pub returns-in-Crosses-clause-masks : goal.returns-in-Crosses-clause-masks
returns-in-Crosses-clause-masks c = rw c.in-Crosses.is (masks_told relations.Crosses c.args.a.now c.args.b.now _ (search by_dims))

pub returns-in-Crosses-clause-sets : goal.returns-in-Crosses-clause-sets
returns-in-Crosses-clause-sets c = rw c.in-Crosses.is (sets_told relations.Crosses c.args.a.now c.args.b.now _ (search by_dims))

pub returns-in-Within-clause-masks : goal.returns-in-Within-clause-masks
returns-in-Within-clause-masks c = rw c.in-Within.is (masks_told relations.Within c.args.a.now c.args.b.now _ (search by_sets))

pub returns-in-Within-clause-sets : goal.returns-in-Within-clause-sets
returns-in-Within-clause-sets c = rw c.in-Within.is (sets_told relations.Within c.args.a.now c.args.b.now _ (search by_sets))

pub returns-in-Contains-clause-masks : goal.returns-in-Contains-clause-masks
returns-in-Contains-clause-masks c = rw c.in-Contains.is (masks_told relations.Contains c.args.a.now c.args.b.now _ (search by_sets))

pub returns-in-Contains-clause-sets : goal.returns-in-Contains-clause-sets
returns-in-Contains-clause-sets c = rw c.in-Contains.is (sets_told relations.Contains c.args.a.now c.args.b.now _ (search by_sets))

pub returns-in-Overlaps-clause-masks : goal.returns-in-Overlaps-clause-masks
returns-in-Overlaps-clause-masks c = rw c.in-Overlaps.is (masks_told relations.Overlaps c.args.a.now c.args.b.now _ (search by_dims))

pub returns-in-Overlaps-clause-sets : goal.returns-in-Overlaps-clause-sets
returns-in-Overlaps-clause-sets c = rw c.in-Overlaps.is (sets_told relations.Overlaps c.args.a.now c.args.b.now _ (search by_dims))

pub returns-in-Equals-clause-masks : goal.returns-in-Equals-clause-masks
returns-in-Equals-clause-masks c = rw c.in-Equals.is (masks_told relations.Equals c.args.a.now c.args.b.now _ (search by_sets))

pub returns-in-Equals-clause-sets : goal.returns-in-Equals-clause-sets
returns-in-Equals-clause-sets c = rw c.in-Equals.is (sets_told relations.Equals c.args.a.now c.args.b.now _ (search by_sets))

pub returns-in-Covers-clause-masks : goal.returns-in-Covers-clause-masks
returns-in-Covers-clause-masks c = rw c.in-Covers.is (masks_told relations.Covers c.args.a.now c.args.b.now _ (search by_sets))

pub returns-in-Covers-clause-sets : goal.returns-in-Covers-clause-sets
returns-in-Covers-clause-sets c = rw c.in-Covers.is (sets_told relations.Covers c.args.a.now c.args.b.now _ (search by_sets))

pub returns-in-CoveredBy-clause-masks : goal.returns-in-CoveredBy-clause-masks
returns-in-CoveredBy-clause-masks c = rw c.in-CoveredBy.is (masks_told relations.CoveredBy c.args.a.now c.args.b.now _ (search by_sets))

pub returns-in-CoveredBy-clause-sets : goal.returns-in-CoveredBy-clause-sets
returns-in-CoveredBy-clause-sets c = rw c.in-CoveredBy.is (sets_told relations.CoveredBy c.args.a.now c.args.b.now _ (search by_sets))

pub returns-in-ContainsProperly-clause-masks : goal.returns-in-ContainsProperly-clause-masks
returns-in-ContainsProperly-clause-masks c = rw c.in-ContainsProperly.is (masks_told relations.ContainsProperly c.args.a.now c.args.b.now _ (search by_sets))

pub returns-in-ContainsProperly-clause-sets : goal.returns-in-ContainsProperly-clause-sets
returns-in-ContainsProperly-clause-sets c = rw c.in-ContainsProperly.is (sets_told relations.ContainsProperly c.args.a.now c.args.b.now _ (search by_sets))
