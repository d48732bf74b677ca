use Rattle.std.proofs.Common.{rules}
use Rattle.output_tests.proofs.MatchLemmas.{is_match}
use Rattle.output_tests.proofs.matching.matched.Goals as goal

pub returns-in-Ok : goal.returns-in-Ok
returns-in-Ok c =
    is_match _ _ _ _ _ c.in_ok-first.first c.in_ok-second.second _ _ _ c.shape.ensures c.in_ok-first.was c.shape-2.ensures c.in_ok-second.was
    c.geometry.ensures c.geometry-2.ensures c.in-Ok.ensures
