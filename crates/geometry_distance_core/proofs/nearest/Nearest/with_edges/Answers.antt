use Rattle.geometry_distance_core.specs.NearestPairs.{of_edges}
use Rattle.geometry_distance_core.proofs.SearchLemmas.{edges_far, edges_least}
use Rattle.geometry_distance_core.proofs.nearest.Nearest.with_edges.Goals as goal

pub returns-then-is_past : goal.returns-then-is_past
returns-then-is_past c =
    edges_far c.args.e.now c.args.f.now c.squared_distance.result c.args.bounds.now c.bounds_of.result c.args.self c.requires c.bounds_of.ensures
    (c.is_past.ensures.0 c.if-is_past.true) c.squared_distance.ensures.least

pub returns-else-is_past : goal.returns-else-is_past
returns-else-is_past c = c.with.ensures (of_edges c.args.e.now c.args.f.now) (edges_least c.args.e.now c.args.f.now c.edge_to_edge.result c.edge_to_edge.ensures)
