use Rattle.std.proofs.Common.{[], ◌∷◌, arith}
use Rattle.geometry_text_core.specs.Binary.{TakesCounted}
use Rattle.geometry_text_core.specs.Held.{AddsPaths}
use Rattle.geometry_text_core.specs.Positions.{TakesPosition}
use Rattle.geometry_text_core.proofs.EachLemmas.{none_counted, counted_only, one_more}
use Rattle.geometry_text_core.proofs.HeldLemmas.{more_paths}
use Rattle.geometry_text_core.proofs.OnlyLemmas.{position_only}
use Rattle.geometry_text_core.proofs.body.read_rings.Goals as goal

pub returns-in_default-clause-none : goal.returns-in_default-clause-none
returns-in_default-clause-none c = λ xs rest (m, some, number, each). let none = rw c.in_default.is at c.read_count.ensures.none in none _ m some number

pub returns-in_default-2-clause-none : goal.returns-in_default-2-clause-none
returns-in_default-2-clause-none c =
    let none = rw c.in_default-2.is at c.in_ok-behind.ensures.none in
    none_counted (TakesCounted c.args.order (TakesPosition c.args.scale c.args.order)) (counted_only (TakesPosition c.args.scale c.args.order) (position_only c.args.scale c.args.order) c.args.order) c.args.order c.in-Some.count c.args.bytes.now c.in-Some.rest.now c.loop.rest.now
    c.loop.invariant.done c.in-Some.ensures.some.1 c.loop.invariant.each (omega (arith, c.loop.invariant.many, c.loop-test.true)) (λ next. none next.0 next.1 next.2)

pub loop-preserved : goal.loop-preserved
loop-preserved c =
    let (x, taken, adds) = rw c.in-Some-2.is at c.in_ok-behind.ensures.some in
    one_more (TakesCounted c.args.order (TakesPosition c.args.scale c.args.order)) (λ lists. AddsPaths c.args.paths.now lists c.loop.paths) (λ lists. AddsPaths c.args.paths.now lists c.read_points.new.paths) _ _ _ _ x c.loop.invariant taken
    (λ done held. more_paths _ _ _ done (x ∷ []) held adds)
