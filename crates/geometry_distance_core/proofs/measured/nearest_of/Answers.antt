use Rattle.std.proofs.Common.{subst}
use Rattle.plane_core.specs.Figures.{IsGeometry}
use Rattle.geometry_distance_core.proofs.MeasuredLemmas.{flipped}
use Rattle.geometry_distance_core.proofs.measured.nearest_of.Goals as goal

pub returns-then-edges-clause-geometries : goal.returns-then-edges-clause-geometries
returns-then-edges-clause-geometries c = (subst IsGeometry c.first.view_is c.first.invariant.geometry, subst IsGeometry c.second.view_is c.second.invariant.geometry)

pub returns-else-edges-clause-geometries : goal.returns-else-edges-clause-geometries
returns-else-edges-clause-geometries c = (subst IsGeometry c.first.view_is c.first.invariant.geometry, subst IsGeometry c.second.view_is c.second.invariant.geometry)

pub returns-else-edges-clause-nearest : goal.returns-else-edges-clause-nearest
returns-else-edges-clause-nearest c = flipped c.args.first.now c.args.second.now c.nearest_edges-else-edges.result c.nearest_edges-else-edges.ensures.nearest
