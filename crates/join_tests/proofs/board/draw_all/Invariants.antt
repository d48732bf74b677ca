use Rattle.deliver_core.specs.Boards.{IsSeatOf}
use Rattle.join_tests.proofs.board.draw_all.Given as goal

abbrev pub invariant-loop : goal.invariant-loop
invariant-loop l = IsSeatOf l.board l.seat
