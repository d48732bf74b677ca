use Rattle.std.proofs.Common.{All, vec_len}
use Rattle.deliver_core.specs.Boards.{IsSeatOf}
use Rattle.join_tests.proofs.board.gathered.Given as goal

abbrev pub invariant-loop-worker : goal.invariant-loop-worker
invariant-loop-worker l = record {
  left : All (λ w. IsSeatOf l.board w.seat) l.workers.items;
  seats : All (IsSeatOf l.board) l.seats.items;
}

abbrev pub decreases-loop-worker : goal.decreases-loop-worker
decreases-loop-worker l = vec_len l.workers
