use Rattle.std.proofs.Common.{sym, subst}
use Rattle.plane_core.specs.declared.edge.Edge.{Edge}
use Rattle.plane_core.specs.Points.{is_on}
use Rattle.noding_core.specs.Nodes.{IsAmong}
use Rattle.noding_core.proofs.TurnLemmas.{get_among}
use Rattle.shown_core.proofs.ShownLemmas.{any_among}
use Rattle.arrangement_core.proofs.early.stop_where_met.Goals as goal

pub stop_at-requires-clause-on : goal.stop_at-requires-clause-on
stop_at-requires-clause-on c =
    any_among (λ (g : Edge). is_on g _) c.args.pair.now.first.now.edges.items c.args.course.now.edge c.requires.own c.in-Some.ensures.some.first

pub stop_at-requires-clause-on_other : goal.stop_at-requires-clause-on_other
stop_at-requires-clause-on_other c =
    let f = c.f-item.result in
    let near = c.args.near.now in
    any_among (λ (g : Edge). is_on g _) c.args.pair.now.second.now.edges.items f
    (c.requires.near.own f (subst (λ (x : Edge). IsAmong x near) (sym c.f-item.is) (get_among near c.loop-f.f-index f c.loop-f-test.true))) c.in-Some.ensures.some.second
