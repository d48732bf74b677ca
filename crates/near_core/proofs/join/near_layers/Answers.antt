use denote.Param.Send.{sendable}
use Rattle.near_core.proofs.LayerLemmas.{meeting_list, wanted_list, with_squares}
use Rattle.near_core.proofs.SyncLemmas.{near_sync}
use Rattle.near_core.proofs.join.near_layers.Goals as goal

pub refine_list-requires-clause-near : goal.refine_list-requires-clause-near
refine_list-requires-clause-near g c κs within =
    let new = c.in_ok-condition.ensures in
    meeting_list c.in_ok-condition.condition _ _ new.left new.right g.G.Geometry.box_of _ _ c.pairs-2.ensures c.in_ok-candidates.ensures.pairs

pub returns-clause-pairs : goal.returns-clause-pairs
returns-clause-pairs g c =
    let new = c.in_ok-condition.ensures in
    wanted_list c.in_ok-condition.condition _ _ new.left new.right g.G.Planar.has_point _ _ new.nearness c.in_ok-matches.ensures.list

pub returns-clause-squares : goal.returns-clause-squares
returns-clause-squares g c =
    let new = c.in_ok-condition.ensures in
    with_squares c.in_ok-condition.condition _ _ new.left new.right g.G.Square.Square.fraction g.G.Planar.has_point _ c.in_ok-matches.ensures.answers

pub refine_list-requires-sync-C : goal.refine_list-requires-sync-C
refine_list-requires-sync-C g c κs within = search (sendable, near_sync) depth 10
