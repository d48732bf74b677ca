use Rattle.std.proofs.Common.{length}
use Rattle.wkt_core.specs.ListSteps.{TakesLists}
use Rattle.wkt_any_core.specs.Held.{AddsPaths}
use Rattle.wkt_any_core.specs.Grammar.{joined}
use Rattle.wkt_any_core.proofs.LoopLemmas.{SoFar}
use Rattle.wkt_any_core.proofs.list.read_polygons.Given as goal

abbrev pub invariant-loop-after : goal.invariant-loop-after
invariant-loop-after l = SoFar (TakesLists l.fn.scale) (λ xs. AddsPaths l.scale l.fn.paths (joined xs) l.paths) l.initial.rest l.rest

abbrev pub decreases-loop-after : goal.decreases-loop-after
decreases-loop-after l = length l.rest
