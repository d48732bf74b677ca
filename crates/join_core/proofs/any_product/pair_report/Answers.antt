use denote.Param.Send.{sendable}
use Rattle.layer_core.specs.Edits.{both}
use Rattle.any_join_core.specs.Conditions.{features_of}
use Rattle.any_join_core.proofs.SyncLemmas.{pairs_sync}
use Rattle.join_core.proofs.AnyJoinLemmas.{near_pairs, near_there, pairs_match, pairs_reported, report_here}
use Rattle.join_core.proofs.any_product.pair_report.Goals as goal

pub report_refining-requires-clause-near : goal.report_refining-requires-clause-near
report_refining-requires-clause-near g c κs within =
    let new = c.in_ok-condition.ensures in
    near_there (features_of c.in_ok-condition.condition) _ _ _ new.left new.right new.relation _
    (near_pairs c.args.relation.now (both c.args.left.now.list c.args.right.now.list) _ _ c.pairs-candidates.ensures c.in_ok-outcome.ensures.pairs)

pub report_refining-requires-clause-matches : goal.report_refining-requires-clause-matches
report_refining-requires-clause-matches g c κs within =
    let new = c.in_ok-condition.ensures in
    pairs_match (features_of c.in_ok-condition.condition) _ _ _ new.left new.right new.relation _

pub report_refining-requires-sync-C : goal.report_refining-requires-sync-C
report_refining-requires-sync-C g c κs within = search (sendable, pairs_sync) depth 10

pub returns-clause-ok : goal.returns-clause-ok
returns-clause-ok g c =
    let new = c.in_ok-condition.ensures in
    pairs_reported c.args.relation.now (both c.args.left.now.list c.args.right.now.list) _ _ c.pairs-candidates.ensures c.in_ok-outcome.ensures.pairs
    (λ i j m. Unit {0}) _
    (report_here (features_of c.in_ok-condition.condition) _ _ _ new.left new.right new.relation (λ x y i j m. Unit {0}) _ _ _ c.in_ok-texts.ensures.report)
