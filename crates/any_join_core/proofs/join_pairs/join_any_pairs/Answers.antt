use denote.Param.Send.{sendable}
use Rattle.any_join_core.specs.Conditions.{features_of}
use Rattle.any_join_core.proofs.RefinedLayers.{near_pairs, related_list}
use Rattle.any_join_core.proofs.SyncLemmas.{pairs_sync}
use Rattle.any_join_core.proofs.join_pairs.join_any_pairs.Goals as goal

pub refine_pairs-requires-clause-near : goal.refine_pairs-requires-clause-near
refine_pairs-requires-clause-near g c κs within =
    let new = c.in_ok-condition.ensures in
    near_pairs (features_of c.in_ok-condition.condition) _ _ _ new.left new.right new.relation _ _ c.pairs-2.ensures c.in_ok-candidates.ensures.pairs

pub returns-clause-pairs : goal.returns-clause-pairs
returns-clause-pairs g c =
    let new = c.in_ok-condition.ensures in
    let refined = c.in_ok-matches.ensures in
    related_list (features_of c.in_ok-condition.condition) _ _ _ new.left new.right new.relation _ _ _ c.pairs-2.ensures c.in_ok-candidates.ensures.pairs refined.each_once refined.in_order

pub refine_pairs-requires-sync-C : goal.refine_pairs-requires-sync-C
refine_pairs-requires-sync-C g c κs within = search (sendable, pairs_sync) depth 10
