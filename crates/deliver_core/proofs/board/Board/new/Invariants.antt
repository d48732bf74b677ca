use Rattle.std.proofs.Common.{◌≡◌, ◌+◌, ◌-◌, ◌≤◌, [], replicate, vec_len, vec_capacity}
use Rattle.deliver_core.specs.Boards.{fresh_seat}
use Rattle.deliver_core.specs.BoardRule.{seat_view}
use Rattle.deliver_core.proofs.board.Board.new.Given as goal

-- the first seat at the table stands for all that were not given yet
abbrev pub invariant-loop : goal.invariant-loop
invariant-loop l = record {
  place : l.first.table_id ≡ l.table.shared.table_id;
  slots : l.first.me.1 ≡ [];
  view : l.first.me.0 ≡ seat_view l.tasks l.seats (l.seats + 1 - l.counter) [] 0;
  given : l.given.items ≡ replicate (l.counter - 1) (fresh_seat (record { id = l.table.shared.table_id; tasks = l.tasks; seats = l.seats }));
  count : vec_len l.given + 1 ≡ l.counter;
  room : l.seats ≤ vec_capacity l.given;
}
