use Rattle.std.proofs.Common.{rules, subst, map, List}
use Rattle.relation_core.specs.declared.extent.Extent.TheVariants.{Point as Dot}
use Rattle.plane_core.specs.declared.vertex.Vertex.{Vertex}
use Rattle.plane_core.specs.Points.{at}
use Rattle.noding_core.specs.Growth.{mark_at, HasGrownBy}
use Rattle.noding_core.proofs.GrowthLemmas.{grown_more, grown_whole}
use Rattle.shown_core.proofs.ShownLemmas.{point_marked}
use Rattle.arrangement_core.proofs.marks.mark_each.Goals as goal

pub loop-v-preserved : goal.loop-v-preserved
loop-v-preserved c =
    grown_more (λ (v : Vertex). mark_at c.args.own.now c.args.other.now Dot (at v)) c.as_slice-points.result.now c.loop-v.v-index c.v-item.result _ _ _
    (search rules) (search rules) c.loop-v.invariant
    (point_marked c.args.own.now c.args.other.now c.as_slice-points.result.now c.loop-v.v-index c.v-item.result _ _ _ c.requires (rw c.outline.ensures at c.as_slice-points.ensures.value) (search rules) (search rules) c.at.ensures c.mark_place-grown.ensures)

pub returns : goal.returns
returns c =
    subst (λ (vs : List Vertex). HasGrownBy (map (λ (v : Vertex). mark_at c.args.own.now c.args.other.now Dot (at v)) vs) c.args.matrix c.loop-v.grown) (rw c.outline.ensures at c.as_slice-points.ensures.value)
    (grown_whole (λ (v : Vertex). mark_at c.args.own.now c.args.other.now Dot (at v)) c.as_slice-points.result.now c.loop-v.v-index _ _
    (search rules) c.loop-v.invariant)
