use Rattle.std.proofs.Common.{◌≡◌, ◌⊎◌, refl, List, subst}
use Rattle.plane_core.specs.declared.vertex.Vertex.{Vertex}
use Rattle.geometry_distance_core.specs.Measured.{ArePointEdges}
use Rattle.geometry_distance_core.proofs.MeasuredLemmas.{same_skeleton, dots_skeleton, not_dots}
use Rattle.geometry_distance_core.proofs.index.skeleton_of.Goals as goal

pub returns-in_ok-point_edges-in-Points-clause-skeleton : goal.returns-in_ok-point_edges-in-Points-clause-skeleton
returns-in_ok-point_edges-in-Points-clause-skeleton c =
    dots_skeleton c.args.geometry.now c.in_ok-outline.outline _ c.in-Points.is c.in_ok-outline.ensures.outline refl
    (subst (λ (vs : List Vertex). ArePointEdges vs c.in_ok-point_edges-in-Points.field-0.items) c.deref.ensures.value c.in_ok-point_edges-in-Points.ensures) refl

pub returns-in-Lines : goal.returns-in-Lines
returns-in-Lines c = record {
  skeleton = same_skeleton c.args.geometry.now c.in_ok-outline.outline (not_dots c.in_ok-outline.outline.kind c.in-Lines.is) c.in_ok-outline.ensures.outline;
  geometry = c.in_ok-outline.ensures.geometry;
}
