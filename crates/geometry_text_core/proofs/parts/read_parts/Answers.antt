use Rattle.std.proofs.Common.{arith}
use Rattle.wkt_any_core.specs.Grammar.{joined}
use Rattle.geometry_text_core.specs.Binary.{TakesPart}
use Rattle.geometry_text_core.specs.Held.{AddsLists}
use Rattle.geometry_text_core.specs.Positions.{TakesPosition}
use Rattle.geometry_text_core.proofs.EachLemmas.{none_counted, one_more}
use Rattle.geometry_text_core.proofs.HeldLemmas.{more_parts}
use Rattle.geometry_text_core.proofs.OnlyLemmas.{position_only, part_only}
use Rattle.geometry_text_core.proofs.parts.read_parts.Goals as goal

pub returns-in_default-clause-none : goal.returns-in_default-clause-none
returns-in_default-clause-none c = λ lists rest (parts, is, (m, some, number, each)). let none = rw c.in_default.is at c.read_count.ensures.none in none _ m some number

pub returns-in_default-2-clause-none : goal.returns-in_default-2-clause-none
returns-in_default-2-clause-none c =
    let none = rw c.in_default-2.is at c.in_ok-behind.ensures.none in
    λ lists rest (parts, is, counted).
    none_counted (TakesPart (TakesPosition c.args.scale) c.args.keyword) (part_only (TakesPosition c.args.scale) (position_only c.args.scale) c.args.keyword) c.args.order c.in-Some.count c.args.bytes.now c.in-Some.rest.now c.loop.rest.now
    c.loop.invariant.done c.in-Some.ensures.some.1 c.loop.invariant.each (omega (arith, c.loop.invariant.many, c.loop-test.true)) (λ next. none next.0 next.1 next.2) parts rest counted

pub loop-preserved : goal.loop-preserved
loop-preserved c =
    let (x, taken, adds) = rw c.in-Some-2.is at c.in_ok-behind.ensures.some in
    one_more (TakesPart (TakesPosition c.args.scale) c.args.keyword) (λ parts. AddsLists c.args.keyword c.args.paths.now (joined parts) c.loop.paths) (λ parts. AddsLists c.args.keyword c.args.paths.now (joined parts) c.read_part.new.paths) _ _ _ _ x c.loop.invariant taken
    (λ done held. more_parts c.args.keyword _ _ _ done x held adds)
