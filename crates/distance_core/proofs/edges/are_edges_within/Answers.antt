use Rattle.distance_core.specs.Units.{units_of}
use Rattle.distance_core.specs.Fractions.{IsOnEdge}
use Rattle.distance_core.proofs.MeetingLemmas.{within_by_fraction}
use Rattle.distance_core.proofs.edges.are_edges_within.Goals as goal

pub returns : goal.returns
returns c =
    let by = within_by_fraction (IsOnEdge c.args.e.now) (IsOnEdge c.args.f.now) _ c.edge_to_edge.result.denominator (units_of c.args.distance)
    c.edge_to_edge.result.positive c.edge_to_edge.ensures in
    (λ tested. by.0 (c.is_within.ensures.0 tested), λ within. c.is_within.ensures.1 (by.1 within))
