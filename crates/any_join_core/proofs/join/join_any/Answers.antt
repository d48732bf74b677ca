use denote.Param.Send.{sendable}
use Rattle.any_join_core.proofs.RefinedLayers.{near_pairs, related_list, has_matrices}
use Rattle.any_join_core.proofs.SyncLemmas.{related_sync}
use Rattle.any_join_core.proofs.join.join_any.Goals as goal

pub refine_pairs-requires-clause-near : goal.refine_pairs-requires-clause-near
refine_pairs-requires-clause-near g c κs within =
    let new = c.in_ok-condition.ensures in
    near_pairs c.in_ok-condition.condition _ _ _ new.left new.right new.relation _ _ c.pairs-2.ensures c.in_ok-candidates.ensures.pairs

pub returns-clause-pairs : goal.returns-clause-pairs
returns-clause-pairs g c =
    let new = c.in_ok-condition.ensures in
    let refined = c.in_ok-matches.ensures in
    related_list c.in_ok-condition.condition _ _ _ new.left new.right new.relation _ _ _ c.pairs-2.ensures c.in_ok-candidates.ensures.pairs refined.each_once refined.in_order

pub returns-clause-matrices : goal.returns-clause-matrices
returns-clause-matrices g c =
    let new = c.in_ok-condition.ensures in
    has_matrices c.in_ok-condition.condition _ _ _ new.left new.right new.relation _ _ c.in_ok-matches.ensures.refined

pub refine_pairs-requires-sync-C : goal.refine_pairs-requires-sync-C
refine_pairs-requires-sync-C g c κs within = search (sendable, related_sync) depth 10
