use Rattle.wkt_any_core.specs.Grammar.{joined}
use Rattle.geometry_text_core.specs.Binary.{TakesPart}
use Rattle.geometry_text_core.specs.Held.{AddsLists}
use Rattle.geometry_text_core.specs.Positions.{TakesPosition}
use Rattle.geometry_text_core.proofs.EachLemmas.{SoFar}
use Rattle.geometry_text_core.proofs.parts.read_parts.Given as goal

abbrev pub invariant-loop : goal.invariant-loop
invariant-loop l = SoFar (TakesPart (TakesPosition l.fn.scale) l.fn.keyword) (λ parts. AddsLists l.fn.keyword l.fn.paths (joined parts) l.paths) l.initial.rest l.rest l.counter
