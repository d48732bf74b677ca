use denote.Param.Send.{sendable}
use Rattle.filter_core.specs.Joins.{StandIn}
use Rattle.any_join_core.specs.Matches.{HaveMatrix}
use Rattle.any_join_core.proofs.SyncLemmas.{related_sync}
use Rattle.join_core.proofs.AnyJoinLemmas.{matrices_match, near_there, report_here}
use Rattle.join_core.proofs.any_product.matrix_report.Goals as goal

pub report_refining-requires-clause-near : goal.report_refining-requires-clause-near
report_refining-requires-clause-near g c κs within =
    let new = c.in_ok-condition.ensures in
    near_there c.in_ok-condition.condition _ _ _ new.left new.right new.relation _ c.requires.near

pub report_refining-requires-clause-matches : goal.report_refining-requires-clause-matches
report_refining-requires-clause-matches g c κs within =
    let new = c.in_ok-condition.ensures in
    matrices_match c.in_ok-condition.condition _ _ _ new.left new.right new.relation

pub report_refining-requires-sync-C : goal.report_refining-requires-sync-C
report_refining-requires-sync-C g c κs within = search (sendable, related_sync) depth 10

pub returns-clause-ok : goal.returns-clause-ok
returns-clause-ok g c =
    let new = c.in_ok-condition.ensures in
    report_here c.in_ok-condition.condition _ _ _ new.left new.right new.relation (λ x y i j m. StandIn (HaveMatrix m) x y (i, j)) _ _ _
    c.in_ok-texts.ensures.report
