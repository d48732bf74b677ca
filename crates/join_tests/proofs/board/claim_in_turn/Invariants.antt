use Rattle.deliver_core.specs.Boards.{IsSeatOf}
use Rattle.join_tests.proofs.board.claim_in_turn.Given as goal

abbrev pub invariant-loop-of_first : goal.invariant-loop-of_first
invariant-loop-of_first l = IsSeatOf l.board l.first × IsSeatOf l.board l.second
