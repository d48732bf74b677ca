use Rattle.std.proofs.Common.{All}
use Rattle.refine_core.specs.Refinements.{IsPairIn}
use Rattle.join_tests.specs.Sums.{AreClose}
use Rattle.join_tests.proofs.even_sums.close_pairs.Given as goal

abbrev pub invariant-loop-number : goal.invariant-loop-number
invariant-loop-number l = All (IsPairIn AreClose) l.pairs.items
