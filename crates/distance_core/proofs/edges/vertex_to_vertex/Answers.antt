use Rattle.std.proofs.Common.{◌∙◌}
use Rattle.distance_core.proofs.LeastLemmas.{vertices_least, vector_square}
use Rattle.distance_core.proofs.edges.vertex_to_vertex.Goals as goal

pub returns : goal.returns
returns c =
    rw c.whole.ensures.denominator
    (vertices_least _ c.args.v.now c.args.w.now
    (c.whole.ensures.numerator ∙ vector_square c.args.v.now c.args.w.now _ _ _ c.between.ensures.x c.between.ensures.y c.square.ensures.value))
