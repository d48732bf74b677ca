-- The rule of the board's word, in terms of the knowledge of the seats at its table.
use Rattle.std.specs.Prelude.{◌≡◌, ℕ, ◌+◌, ◌<◌, ◌≤◌, List, [], ◌∷◌, ◌++◌, All, MatchBool, nat_lt}
use Rattle.std.specs.Prelude.{length, slice_index, sum_by}
use Rattle.std.specs.List.Sorted.{IsStrictlyIncreasing}
use mathlib.Core.Option.{some}
use lib.ListN.{get_elem?}
use Rattle.atomic_table.specs.Table.{State, Me, Step}
use Rattle.deliver_core.specs.declared.board.rule.SeatView.{SeatView}
use Rattle.deliver_core.specs.declared.board.rule.Size.{Size}
use Rattle.deliver_core.specs.Draws.{Tally}

-- a view, by its fields
abbrev pub seat_view : ℕ → ℕ → ℕ → List ℕ → ℕ → SeatView
seat_view tasks seats parts drawn over =
    record { tasks = tasks; seats = seats; parts = parts; drawn = drawn; over = over }

-- The conditions on each view: one that stands for seats knows the board's size, each of its seats
-- made at most one draw that found no number, and the numbers drawn by one seat ascend; one that
-- stands for no seat has drawn nothing
pub record FitsBoard (size : Size) (v : SeatView) : Type 0 where
  pub live : 0 < v.parts → (v.tasks ≡ size.tasks) × (v.seats ≡ size.seats)
  pub over : v.over ≤ v.parts
  pub idle : v.parts ≡ 0 → v.drawn ≡ []
  pub rises : v.parts ≡ 1 → IsStrictlyIncreasing v.drawn

-- The rule: the views stand for all seats together, and the word is the count of their draws
pub record ObeysRule (size : Size) (word : ℕ) (views : List SeatView) : Type 0 where
  pub parts : sum_by (λ (v : SeatView). v.parts) views ≡ size.seats
  pub tally : Tally (λ (v : SeatView). v.drawn) (λ (v : SeatView). v.over) size.tasks word views
  pub each : (id : ℕ) (v : SeatView) → get_elem? views id ≡ some v → FitsBoard size v

-- the same for the state of a table, which has one word
abbrev pub TableObeysRule : Size → State (Unit {0}) SeatView → Type 0
TableObeysRule size s = (length s.words ≡ 1) × ObeysRule size (slice_index s.words 0) s.views

-- The effect of a draw that found this word. The word is less than the sum of the numbers of tasks
-- and seats. If it is the number of a task, it is drawn, and is greater than all numbers drawn
-- before, which are at most `word` numbers; otherwise the draw found no number
abbrev pub Drew
    : Step (Unit {0}) → Me (Unit {0}) SeatView → ℕ → Me (Unit {0}) SeatView → Type 0
Drew step v word w =
    (word < v.0.tasks + v.0.seats) × (w.1 ≡ v.1)
    × MatchBool (nat_lt word v.0.tasks)
    (All (λ k. k < word) v.0.drawn × (length v.0.drawn ≤ word)
    × (w.0 ≡ seat_view v.0.tasks v.0.seats v.0.parts (v.0.drawn ++ word ∷ []) v.0.over))
    (w.0 ≡ seat_view v.0.tasks v.0.seats v.0.parts v.0.drawn (v.0.over + 1))
