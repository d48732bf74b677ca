use Rattle.std.proofs.Common.{All}
use Rattle.refine_core.specs.Refinements.{IsPairIn}
use Rattle.output_tests.specs.Parities.{AreHeld}
use Rattle.output_tests.proofs.refining.all_pairs.Given as goal

abbrev pub invariant-loop-place : goal.invariant-loop-place
invariant-loop-place l = All (IsPairIn (AreHeld l.left.list l.right.list)) l.pairs.items
