use Rattle.std.proofs.Common.{arith}
use Rattle.std.specs.Prelude.{pos, ◌≤ℤ◌, ◌<ℤ◌}
use Rattle.std.proofs.lemmas.Int.{ints}
use Rattle.plane_core.specs.Points.{at}
use Rattle.distance_core.specs.Frames.{along, reach}
use Rattle.distance_core.proofs.LeastLemmas.{before_least, beyond_least, length_is}
use Rattle.distance_core.proofs.edges.vertex_to_edge.Goals as goal

pub returns-then-along-le0 : goal.returns-then-along-le0
returns-then-along-le0 c =
    let before : along c.args.e.now (at c.args.v.now) ≤ℤ pos 0 = omega (arith, ints) in
    before_least _ _ c.args.v.now c.args.e.now before c.vertex_to_vertex.ensures

pub returns-then-unsigned_abs-length : goal.returns-then-unsigned_abs-length
returns-then-unsigned_abs-length c =
    let over : pos 0 <ℤ along c.args.e.now (at c.args.v.now) = omega (arith, ints) in
    let is = length_is c.args.e.now _ _ _ c.between.ensures.x c.between.ensures.y c.square-length.ensures.value in
    let beyond : reach c.args.e.now ≤ℤ along c.args.e.now (at c.args.v.now) = omega (arith, ints, is) in
    beyond_least _ _ c.args.v.now c.args.e.now over beyond c.vertex_to_vertex-then-unsigned_abs-length.ensures
