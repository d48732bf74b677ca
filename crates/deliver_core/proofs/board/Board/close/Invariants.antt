use Rattle.std.proofs.Common.{◌≡◌, ◌++◌, All, map, take, drop}
use Rattle.deliver_core.specs.Boards.{spent_seat}
use Rattle.deliver_core.proofs.BoardClosing.{IsGathered, IsCountRight}
use Rattle.deliver_core.proofs.board.Board.close.Given as goal

abbrev pub invariant-loop-i : goal.invariant-loop-i
invariant-loop-i l = record {
  spent : l.seats.items ≡ map spent_seat (take l.i l.fn.seats.items) ++ drop l.i l.fn.seats.items;
  counted : All IsCountRight (take l.i l.fn.seats.items);
  gathered : IsGathered l.fn.self (take l.i l.fn.seats.items) l.all;
}
