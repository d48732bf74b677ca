use Rattle.std.proofs.Common.{rules}
use Rattle.output_tests.proofs.MatchLemmas.{pushed}
use Rattle.output_tests.proofs.matching.matches_of.Goals as goal

pub loop-pair-preserved : goal.loop-pair-preserved
loop-pair-preserved c = pushed _ _ _ _ _ (search rules) c.loop-pair.invariant c.in_ok-found.ensures
