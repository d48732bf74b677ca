use Rattle.std.proofs.Common.{All}
use Rattle.report_core.specs.AnyMatches.{IsAnyMatch}
use Rattle.output_tests.proofs.matching.matches_of.Given as goal

abbrev pub invariant-loop-pair : goal.invariant-loop-pair
invariant-loop-pair l = All (IsAnyMatch l.left.list l.right.list) l.matches.items
