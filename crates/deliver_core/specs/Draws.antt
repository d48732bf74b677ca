-- The board as a list of events: seats draw the numbers of tasks, one after another, from one word.
use Rattle.std.specs.Prelude.{◌≡◌, ℕ, ◌+◌, ◌≤◌, Bool, true, false, List, [], ◌∷◌, ◌++◌, min, nat_lt}
use Rattle.std.specs.Prelude.{◌==◌, if◌then◌else◌, slice_get, slice_set, replicate, length}
use Rattle.std.specs.Prelude.{count_by, sum_by, fold}
use Rattle.std.specs.Option.{option_map_or}

-- the numbers that a seat has drawn, in order, and whether it is done: it has met the end of them
pub record SeatState : Type 0 where
  pub drawn : List ℕ
  pub done : Bool

-- the word, and the draws of each seat
pub record BoardState : Type 0 where
  pub word : ℕ
  pub seats : List SeatState

-- a new board with this number of seats: the word is 0, no seat has drawn, and none is done
abbrev pub opened : ℕ → BoardState
opened seats = record { word = 0; seats = replicate seats (record { drawn = []; done = false }) }

-- a seat after a draw that found this word: the word is drawn if it is less than the number of
-- tasks, otherwise the seat is done
abbrev pub seat_after : ℕ → ℕ → SeatState → SeatState
seat_after tasks word s =
    if nat_lt word tasks then record { drawn = s.drawn ++ word ∷ []; done = s.done }
    else record { drawn = s.drawn; done = true }

-- the board after a draw of the seat at this index, which is s: the word increases by one. A seat
-- that is done doesn't draw
abbrev pub drawn_by : ℕ → BoardState → ℕ → SeatState → BoardState
drawn_by tasks b place s =
    if s.done then b
    else record { word = b.word + 1; seats = slice_set b.seats place (seat_after tasks b.word s) }

-- the board after a draw of the seat at this index. It is unchanged if there is no such seat, or if
-- the seat is done
abbrev pub after_draw : ℕ → BoardState → ℕ → BoardState
after_draw tasks b place = option_map_or (drawn_by tasks b place) (slice_get b.seats place) b

-- the board after these draws, each given by its seat's index
abbrev pub after_draws : ℕ → ℕ → List ℕ → BoardState
after_draws tasks seats events = fold (after_draw tasks) (opened seats) events

-- the number of occurrences of x in the list
abbrev pub times : ℕ → List ℕ → ℕ
times x xs = count_by (λ y. y == x) xs

-- the number of occurrences of x in the list of the numbers less than n: 1 or 0
abbrev pub once_below : ℕ → ℕ → ℕ
once_below n x = if nat_lt x n then 1 else 0

-- the list has exactly the numbers less than n, each once
abbrev pub AreNumbersBelow : ℕ → List ℕ → Type 0
AreNumbersBelow n xs = (x : ℕ) → times x xs ≡ once_below n x

-- the list has only numbers less than n, each at most once
abbrev pub AreSomeBelow : ℕ → List ℕ → Type 0
AreSomeBelow n xs = (x : ℕ) → times x xs ≤ once_below n x

-- The draws of several holders together: the numbers less than the word that are those of tasks,
-- each once; the other draws, which found no number, are counted by `over`.
pub record Tally {X : Type 0} (drawn : X → List ℕ) (over : X → ℕ)
    (tasks word : ℕ) (holders : List X) : Type 0 where
  pub numbers : (x : ℕ)
      → sum_by (λ h. times x (drawn h)) holders ≡ once_below (min word tasks) x
  pub lengths : sum_by (λ h. length (drawn h)) holders ≡ min word tasks
  pub word_is : word ≡ min word tasks + sum_by over holders
