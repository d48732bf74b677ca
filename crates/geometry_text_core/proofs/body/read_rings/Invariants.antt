use Rattle.geometry_text_core.specs.Binary.{TakesCounted}
use Rattle.geometry_text_core.specs.Held.{AddsPaths}
use Rattle.geometry_text_core.specs.Positions.{TakesPosition}
use Rattle.geometry_text_core.proofs.EachLemmas.{SoFar}
use Rattle.geometry_text_core.proofs.body.read_rings.Given as goal

abbrev pub invariant-loop : goal.invariant-loop
invariant-loop l = SoFar (TakesCounted l.fn.order (TakesPosition l.fn.scale l.fn.order)) (λ lists. AddsPaths l.fn.paths lists l.paths) l.initial.rest l.rest l.counter
