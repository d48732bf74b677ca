use Rattle.distance_core.proofs.LeastLemmas.{foot_below, foot_least, length_below, side_size, side_square}
use Rattle.distance_core.proofs.edges.vertex_to_foot.Goals as goal

pub invariant_of-result-clause-narrow : goal.invariant_of-result-clause-narrow
invariant_of-result-clause-narrow c = length_below c.args.e.now c.args.length c.requires.length

pub invariant_of-result-clause-low : goal.invariant_of-result-clause-low
invariant_of-result-clause-low c =
    foot_below c.args.v.now c.args.e.now _ c.args.length c.unsigned_abs-side.result c.product.ensures
    (side_size _ _ _ c.unsigned_abs-side.ensures.value c.side_of.ensures.value c.side_of.ensures.bound) c.requires.length

pub returns : goal.returns
returns c =
    foot_least _ c.args.length c.args.v.now c.args.e.now c.requires.after c.requires.before
    (side_square _ c.unsigned_abs-side.result _ c.product.ensures
    (side_size _ _ _ c.unsigned_abs-side.ensures.value c.side_of.ensures.value c.side_of.ensures.bound))
    c.requires.length
