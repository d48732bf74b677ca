use Rattle.std.proofs.Common.{◌≤◌, List, subst, ◌∙◌}
use Rattle.plane_core.specs.declared.edge.Edge.{Edge}
use Rattle.geometry_distance_core.specs.NearestPairs.{AddsPairs, of_all}
use Rattle.geometry_distance_core.proofs.MeasuredLemmas.{all_none, all_more, all_all, box_far, from_none}
use Rattle.geometry_distance_core.proofs.measured.MeasuredGeometry.nearest_edges.Goals as goal

pub loop-e-init : goal.loop-e-init
loop-e-init c = all_none c.other.inside.index.now.edges.edges.items c.of_none-nearest.result

pub loop-e-preserved-then-is_far : goal.loop-e-preserved-then-is_far
loop-e-preserved-then-is_far c =
    let other = c.other.inside in
    all_more c.edges-e-items.result.now other.index.now.edges.edges.items c.loop-e.e-index c.e-item.result _ _ _ c.loop-e-test.true c.e-item.is c.loop-e.invariant
    (box_far other.geometry.now other.index.now.edges other.index.now.bounds c.e-item.result c.bounds_of-bounds.result c.squared_distance.result c.loop-e.nearest c.other.invariant
    c.bounds_of-bounds.ensures (c.is_past-is_far.ensures.0 c.if-is_far.true) c.squared_distance.ensures.least)

pub loop-e-preserved : goal.loop-e-preserved
loop-e-preserved c =
    all_more c.edges-e-items.result.now c.other.inside.index.now.edges.edges.items c.loop-e.e-index c.e-item.result _ _ _ c.loop-e-test.true c.e-item.is c.loop-e.invariant
    c.with_outline-nearest.ensures

pub returns-clause-distance : goal.returns-clause-distance
returns-clause-distance c = c.loop-e.invariant.distance ∙ c.of_none-nearest.ensures.distance

pub returns-clause-nearest : goal.returns-clause-nearest
returns-clause-nearest c =
    let own = c.self.inside in
    let other = c.other.inside in
    rw (← c.self.view_is, ← c.other.view_is)
    (from_none own.geometry.now other.geometry.now own.index.now.edges other.index.now.edges c.of_none-nearest.result c.loop-e.nearest c.self.invariant.skeleton c.other.invariant.skeleton c.of_none-nearest.ensures.square
    (subst (λ (es : List Edge). AddsPairs (of_all es other.index.now.edges.edges.items) c.of_none-nearest.result c.loop-e.nearest) c.edges-e-items.ensures
    (all_all c.edges-e-items.result.now other.index.now.edges.edges.items c.loop-e.e-index c.of_none-nearest.result c.loop-e.nearest c.loop-e-test.false c.loop-e.invariant)))
