use Rattle.distance_core.proofs.MeetingLemmas.{meeting_least, ends_least}
use Rattle.distance_core.proofs.edges.edge_to_edge.Goals as goal

pub returns-in-Some : goal.returns-in-Some
returns-in-Some c =
    meeting_least c.args.e.now c.args.f.now _ _ c.in-Some.field-0 c.whole.ensures.numerator c.whole.ensures.denominator c.in-Some.ensures.some

pub returns-in-None : goal.returns-in-None
returns-in-None c =
    ends_least c.args.e.now c.args.f.now c.vertex_to_edge.result c.vertex_to_edge-in-None.result c.vertex_to_edge-in-None-2.result
    c.vertex_to_edge-in-None-3.result c.lesser-first.result c.lesser-second.result c.lesser.result c.in-None.ensures.none
    c.vertex_to_edge.ensures c.vertex_to_edge-in-None.ensures c.vertex_to_edge-in-None-2.ensures c.vertex_to_edge-in-None-3.ensures
    (record { one = c.lesser-first.ensures.one; first = c.lesser-first.ensures.first; second = c.lesser-first.ensures.second })
    (record { one = c.lesser-second.ensures.one; first = c.lesser-second.ensures.first; second = c.lesser-second.ensures.second })
    (record { one = c.lesser.ensures.one; first = c.lesser.ensures.first; second = c.lesser.ensures.second })
