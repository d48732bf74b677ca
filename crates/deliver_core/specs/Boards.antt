-- The values of a board and of its seats in contracts.
use Rattle.std.specs.Prelude.{◌≡◌, ℕ, ◌+◌, ◌^◌, ◌<◌, ◌≤◌, nat_lt, Bool, true, false, if◌then◌else◌}
use Rattle.std.specs.Prelude.{List, [], ◌∷◌, ◌++◌, length, All, Option, Some, None}
use Rattle.atomic_table.specs.Seated.{TableId}
use Rattle.atomic_table.specs.declared.shared.Seat.{Seat}
use Rattle.deliver_core.specs.declared.board.rule.SeatView.{SeatView}
use Rattle.deliver_core.specs.declared.board.rule.Size.{Size}
use Rattle.deliver_core.specs.Draws.{SeatState, seat_after}
use Rattle.pair_core.specs.Limits.{most_workers}

-- a board: its identity, its number of tasks and its number of seats
pub record BoardValue : Type 0 where
  pub id : TableId
  pub tasks : ℕ
  pub seats : ℕ

-- A seat: the board that it draws from, until that is closed and the seat is spent; the numbers
-- that it has drawn from it, in order, and how many of its draws found no number, both as the
-- board's table knows them, which only a draw changes; the number of numbers that it has drawn; and
-- whether it has met the end of them
pub record SeatValue : Type 0 where
  pub board : Option BoardValue
  pub drawn : List ℕ
  pub over : ℕ
  pub count : ℕ
  pub done : Bool

-- a seat of this board that has drawn nothing
abbrev pub fresh_seat : BoardValue → SeatValue
fresh_seat b = record { board = Some b; drawn = []; over = 0; count = 0; done = false }

-- the seat, after its board was closed
abbrev pub spent_seat : SeatValue → SeatValue
spent_seat s = record { board = None; drawn = []; over = 0; count = s.count; done = s.done }

-- the draws of a seat and whether it is done, as in the definition of the board
abbrev pub state_of : SeatValue → SeatState
state_of s = record { drawn = s.drawn; done = s.done }

-- a seat of this board, which isn't spent
abbrev pub IsSeatOf : BoardValue → SeatValue → Type 0
IsSeatOf b s = s.board ≡ Some b

-- the seat before and after it drew the number of a task, greater than all that it had drawn
pub record IsAfterNumber (b : BoardValue) (s t : SeatValue) (number : ℕ) : Type 0 where
  pub task : number < b.tasks
  pub above : All (λ earlier. earlier < number) s.drawn
  pub drawn : t.drawn ≡ s.drawn ++ number ∷ []
  pub before : s.done ≡ false
  pub after : t.done ≡ false

-- the seat before and after it met the end of the numbers, or had met it already
pub record IsAfterEnd (s t : SeatValue) : Type 0 where
  pub drawn : t.drawn ≡ s.drawn
  pub done : t.done ≡ true

-- The seat before and after a draw that found this word. It has drawn one more number, or made one
-- more draw that found none, which the board's table knows: so the word was the board's at that
-- time
pub record IsDrawOf (b : BoardValue) (s t : SeatValue) (word : ℕ) : Type 0 where
  pub below : word < b.tasks + b.seats
  pub state : state_of t ≡ seat_after b.tasks word (state_of s)
  pub over : t.over ≡ s.over + (if nat_lt word b.tasks then 0 else 1)

-- the seat before and after one draw, whatever word it found
abbrev pub IsDraw : BoardValue → SeatValue → SeatValue → Type 0
IsDraw b s t = (word : ℕ) × IsDrawOf b s t word

-- the numbers of tasks and seats of a board
abbrev pub size_of : BoardValue → Size
size_of b = record { tasks = b.tasks; seats = b.seats }

-- the board of a seat at a table
abbrev pub board_of : Seat (Unit {0}) SeatView → BoardValue
board_of s = record { id = s.table_id; tasks = s.me.0.tasks; seats = s.me.0.seats }

-- the value of a seat, given its seat at the table, if it isn't spent
abbrev pub seat_value : Option (Seat (Unit {0}) SeatView) → ℕ → Bool → SeatValue
seat_value (Some place) count done =
    record {
      board = Some (board_of place);
      drawn = place.me.0.drawn;
      over = place.me.0.over;
      count = count;
      done = done;
    }
seat_value None count done =
    record { board = None; drawn = []; over = 0; count = count; done = done }

-- the knowledge of the seat at the table agrees with the seat's counts: it stands for one seat,
-- holds no slot, and is done once one of its draws has met the end
pub record IsCounted (s : Seat (Unit {0}) SeatView) (count : ℕ) (done : Bool) : Type 0 where
  pub one : s.me.0.parts ≡ 1
  pub slots : s.me.1 ≡ []
  pub count_is : count ≡ length s.me.0.drawn
  pub over_is : s.me.0.over ≡ (if done then 1 else 0)

-- the same for a seat that may be spent
abbrev pub IsCountedSeat : Option (Seat (Unit {0}) SeatView) → ℕ → Bool → Type 0
IsCountedSeat (Some place) count done = IsCounted place count done
IsCountedSeat None count done = Unit {0}

-- the board's table has one word and no slot, and was made for this number of tasks, of 32 bits
pub record IsMadeFor (id : TableId) (size : Size) (tasks : ℕ) : Type 0 where
  pub words : id.words ≡ 1
  pub slots : id.slots ≡ 0
  pub tasks_are : tasks ≡ size.tasks
  pub few_tasks : size.tasks < 2 ^ 32
  pub some_seats : 1 ≤ size.seats
  pub few_seats : size.seats ≤ most_workers
