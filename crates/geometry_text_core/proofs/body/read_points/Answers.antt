use Rattle.std.proofs.Common.{[], ◌∷◌, arith}
use Rattle.wkt_any_core.specs.Held.{AddsPointsBy}
use Rattle.geometry_text_core.specs.Positions.{TakesPosition, HasPosition, the_position}
use Rattle.geometry_text_core.proofs.EachLemmas.{none_counted, one_more, is_counted}
use Rattle.geometry_text_core.proofs.HeldLemmas.{more_points, path_closed}
use Rattle.geometry_text_core.proofs.OnlyLemmas.{position_only}
use Rattle.geometry_text_core.proofs.body.read_points.Goals as goal

pub returns-in_default-clause-none : goal.returns-in_default-clause-none
returns-in_default-clause-none c = λ xs rest (m, some, number, each). let none = rw c.in_default.is at c.read_count.ensures.none in none _ m some number

pub returns-in_default-2-clause-none : goal.returns-in_default-2-clause-none
returns-in_default-2-clause-none c =
    let none = rw c.in_default-2.is at c.in_ok-behind.ensures.none in
    none_counted (TakesPosition c.args.scale c.args.order) (position_only c.args.scale c.args.order) c.args.order c.in-Some.count c.args.bytes.now c.in-Some.rest.now c.loop.rest.now
    c.loop.invariant.done c.in-Some.ensures.some.1 c.loop.invariant.each (omega (arith, c.loop.invariant.many, c.loop-test.true)) (λ next. none next.0 next.1 next.2)

pub loop-preserved : goal.loop-preserved
loop-preserved c =
    let (x, taken, adds) = rw c.in-Some-2.is at c.in_ok-behind.ensures.some in
    one_more (TakesPosition c.args.scale c.args.order) (λ ps. AddsPointsBy HasPosition the_position c.args.paths.now ps c.loop.paths) (λ ps. AddsPointsBy HasPosition the_position c.args.paths.now ps c.read_point.new.paths) _ _ _ _ x c.loop.invariant taken
    (λ done held. more_points _ _ _ done (x ∷ []) held adds)

pub returns-clause-some : goal.returns-clause-some
returns-clause-some c = (
  c.loop.invariant.done,
  is_counted (TakesPosition c.args.scale c.args.order) c.args.order c.in-Some.count c.args.bytes.now c.in-Some.rest.now c.loop.rest.now c.loop.invariant.done
      c.in-Some.ensures.some.0 c.in-Some.ensures.some.1 c.loop.invariant.each (omega (arith, c.loop.invariant.many, c.loop-test.false, c.loop.auto.counter-end)),
  path_closed _ _ _ c.loop.invariant.done c.loop.invariant.holds c.in_ok-end_path.ensures,
)
