use Rattle.std.proofs.Common.{sym, subst₂}
use Rattle.geom_core.specs.Cells.{Meets}
use Rattle.plane_core.specs.PlaneMatrices.{IsPlaneMatrix}
use Rattle.any_geometry_core.specs.AnyGeometries.{figure_of}
use Rattle.any_relation_core.proofs.SetLemmas.{common_where_intersect}
use Rattle.layer_run_core.proofs.IntersectionLemmas.{boxes_meet}
use Rattle.layer_run_core.proofs.intersection.intersect.Goals as goal

-- boxes that don't meet
pub returns-then-not-meets : goal.returns-then-not-meets
returns-then-not-meets c = (
  (λ no. absurd (let is = no in cc)),
  (λ both. absurd (let boxes = c.meets.ensures.1 (subst₂ Meets (sym c.bounds.ensures) (sym c.bounds-2.ensures) (boxes_meet c.args.first.now c.args.second.now both)) in
      let not = c.if-not-meets.true in cc)),
)

pub returns : goal.returns
returns c =
    let same = common_where_intersect (figure_of c.args.first.now) (figure_of c.args.second.now) c.in_ok-matrix.matrix
    (subst₂ (λ g h. IsPlaneMatrix g h c.in_ok-matrix.matrix) c.geometry.ensures c.geometry-2.ensures c.in_ok-matrix.ensures) in
    ((λ is. same.1 (c.has_common.ensures.0 is)), (λ both. c.has_common.ensures.1 (same.0 both)))
