use Rattle.std.proofs.Common.{rules}
use Rattle.plane_core.proofs.EnvelopeLemmas.{in_at, vertex_held, held_none, held_more, held_all}
use Rattle.plane_core.proofs.envelope.envelope_of.Goals as goal

pub loop-v-init : goal.loop-v-init
loop-v-init c =
    let vs = c.args.vertices.now in
    let first = c.index-vertices-0 in
    record {
      holds = held_none c.shape_at-envelope.result vs;
      least = λ s all. in_at _ first.result s c.shape_at-envelope.ensures (vertex_held s vs 0 first.result c.requires first.is all);
    }

pub loop-v-preserved : goal.loop-v-preserved
loop-v-preserved c =
    let vs = c.args.vertices.now in
    let cover = c.cover-envelope.ensures in
    let at = c.shape_at-shape.ensures in
    record {
      holds = held_more _ _ _ vs c.loop-v.v-index c.v-item.result (search rules) c.v-item.is cover.first cover.second at c.loop-v.invariant.holds;
      least = λ s all. cover.least s (c.loop-v.invariant.least s all)
          (in_at _ c.v-item.result s at (vertex_held s vs c.loop-v.v-index c.v-item.result (search rules) c.v-item.is all));
    }

pub returns-clause-holds : goal.returns-clause-holds
returns-clause-holds c = held_all _ c.args.vertices.now c.loop-v.v-index (search rules) c.loop-v.invariant.holds
