use Rattle.std.proofs.Common.{sym, subst}
use Rattle.geometry_distance_core.specs.Measured.{IsSkeletonOf}
use Rattle.geometry_distance_core.proofs.MeasuredLemmas.{skeleton_held}
use Rattle.geometry_distance_core.proofs.index.GeometryIndex.new.Goals as goal

pub returns : goal.returns
returns c = record {
  geometry = c.in_ok-skeleton.ensures.geometry;
  skeleton = subst (IsSkeletonOf c.args.geometry.now) (sym c.in_ok-edges.ensures) c.in_ok-skeleton.ensures.skeleton;
  box = skeleton_held c.args.geometry.now c.bounds-bounds.result c.bounds-bounds.ensures.holds;
}
