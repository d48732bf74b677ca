use Rattle.geometry_distance_core.proofs.MeasuredLemmas.{more_dots, all_dots}
use Rattle.geometry_distance_core.proofs.index.point_edges.Goals as goal

pub loop-v-preserved : goal.loop-v-preserved
loop-v-preserved c = more_dots c.args.points.now c.loop-v.v-index c.v-item.result _ _ c.loop-v-test.true c.v-item.is c.loop-v.invariant c.in_ok-push.ensures.items

pub returns : goal.returns
returns c = all_dots c.args.points.now c.loop-v.v-index _ c.loop-v-test.false c.loop-v.invariant
