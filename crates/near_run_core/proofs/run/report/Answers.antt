use denote.Param.Send.{sendable}
use Rattle.layer_core.specs.Edits.{both}
use Rattle.filter_core.specs.Joins.{StandIn}
use Rattle.near_core.specs.Conditions.{left_of, right_of}
use Rattle.near_core.specs.Near.{BoxesMeet}
use Rattle.near_core.proofs.JoinLemmas.{each_listed}
use Rattle.near_core.proofs.SyncLemmas.{near_sync}
use Rattle.near_run_core.proofs.NearRunLemmas.{candidates_near, matches_are, near_report_made}
use Rattle.near_run_core.proofs.run.report.Goals as goal

pub report_refining-requires-clause-near : goal.report_refining-requires-clause-near
report_refining-requires-clause-near g c κs within =
    let laws = g.met.G.Planar g.world.𝓛 g.world.𝓜 g.world.𝓡 ((λ s x. x), (λ x. x), (λ x. x), (λ x. x)) in
    let new = c.in_ok-condition.ensures in
    let condition = c.in_ok-condition.condition in
    let layers = both c.args.left.now.list c.args.right.now.list in
    each_listed (λ i j. StandIn (BoxesMeet g.G.Geometry.box_of) (left_of condition) (right_of condition) (i, j)) _
    (candidates_near g.G.Geometry.box_of g.G.Planar.has_point laws.in_box g.G.Square.Square.fraction condition layers new.left new.right _ _
    c.pairs-pairs.ensures c.in_ok-candidates.ensures.pairs)

pub report_refining-requires-clause-matches : goal.report_refining-requires-clause-matches
report_refining-requires-clause-matches g c κs within =
    let laws = g.met.G.Planar g.world.𝓛 g.world.𝓜 g.world.𝓡 ((λ s x. x), (λ x. x), (λ x. x), (λ x. x)) in
    let new = c.in_ok-condition.ensures in
    matches_are g.G.Geometry.box_of g.G.Planar.has_point laws.in_box g.G.Square.Square.fraction c.in_ok-condition.condition
    (both c.args.left.now.list c.args.right.now.list) new.left new.right

pub returns-clause-ok : goal.returns-clause-ok
returns-clause-ok g c =
    let laws = g.met.G.Planar g.world.𝓛 g.world.𝓜 g.world.𝓡 ((λ s x. x), (λ x. x), (λ x. x), (λ x. x)) in
    let new = c.in_ok-condition.ensures in
    near_report_made g.G.Geometry.box_of g.G.Planar.has_point laws.in_box g.G.Square.Square.fraction c.in_ok-condition.condition
    (both c.args.left.now.list c.args.right.now.list) new.left new.right c.args.job.now.nearness c.args.job.now.scale _ _ _
    new.nearness c.pairs-pairs.ensures c.in_ok-candidates.ensures.pairs c.in_ok-texts.ensures.report

pub report_refining-requires-sync-C : goal.report_refining-requires-sync-C
report_refining-requires-sync-C g c κs within = search (sendable, near_sync) depth 10
