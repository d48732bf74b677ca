-- The messages of a worker when it has processed the tasks that it drew.
use Rattle.std.specs.Prelude.{◌≡◌, ℕ, ◌<◌, Bool, true, false, List, [], ◌∷◌, ◌++◌, map, All}
use Rattle.std.specs.Prelude.{MatchBool, IsSomeAnd, slice_get}
use mathlib.Core.List.{IsPrefix}
use Rattle.relation_core.specs.declared.relation.Relation.{Relation}
use Rattle.rtree_core.specs.declared.node.Node.{Node}
use Rattle.descent_core.specs.Rows.{IsRow}
use Rattle.deliver_core.specs.declared.outlet.Outlet.{Outlet}
use Rattle.deliver_core.specs.declared.port.Port.{Port}
use Rattle.deliver_core.specs.Boards.{BoardValue, SeatValue, IsSeatOf}
use Rattle.deliver_core.specs.OutletCalls.{IsEndedPort}
use Rattle.deliver_core.specs.Ports.{index_of, is_spent}
use Rattle.deliver_core.specs.Scripts.{Content, Task, bye, scripts_of}
use Rattle.parallel_core.specs.declared.working.Worked.{Worked}
use Rattle.parallel_core.specs.Sending.{said_by, Says}
use Rattle.parallel_core.specs.Jobs.{JobValue}

-- the row of the task with this number in the plan
abbrev pub IsRowIn : Relation → List (Node × Node) → Task → Type 0
IsRowIn relation plan row = IsSomeAnd (slice_get plan row.0) (λ task. IsRow relation task row.1)

-- the scripts of the tasks with these numbers, in this order
pub record AreScripts (relation : Relation) (plan : List (Node × Node)) (size : ℕ)
    (numbers : List ℕ) (said : List Content) : Type 0 where
  pub rows : List Task
  pub each : All (IsRowIn relation plan) rows
  pub numbers_are : map (λ row. row.0) rows ≡ numbers
  pub scripts : said ≡ scripts_of size rows

-- a prefix, by whole messages, of the scripts of the first of these tasks
pub record BeginScripts (relation : Relation) (plan : List (Node × Node)) (size : ℕ)
    (numbers : List ℕ) (said : List Content) : Type 0 where
  pub first : List ℕ
  pub are_first : IsPrefix first numbers
  pub whole : List Content
  pub scripts : AreScripts relation plan size first whole
  pub begins : IsPrefix said whole

-- the port has also sent the scripts of these tasks
pub record SaysScripts (relation : Relation) (plan : List (Node × Node)) (size : ℕ)
    (numbers : List ℕ) (old new : Port) : Type 0 where
  pub more : List Content
  pub scripts : AreScripts relation plan size numbers more
  pub says : Says old new more

-- the port has also sent a prefix of the scripts of these tasks
pub record SaysBeginning (relation : Relation) (plan : List (Node × Node)) (size : ℕ)
    (numbers : List ℕ) (old new : Port) : Type 0 where
  pub more : List Content
  pub scripts : BeginScripts relation plan size numbers more
  pub says : Says old new more

-- the messages of a worker, given the numbers that its seat drew and whether it is successful: if
-- it is, the scripts of these tasks, in that order, otherwise a prefix of them; and then its bye
pub record WorkerSays (relation : Relation) (plan : List (Node × Node)) (size : ℕ)
    (numbers : List ℕ) (ok : Bool) (said : List Content) : Type 0 where
  pub before : List Content
  pub said_is : said ≡ before ++ bye ok ∷ []
  pub scripts : MatchBool ok
      (AreScripts relation plan size numbers before)
      (BeginScripts relation plan size numbers before)

-- a seat of the board that has only drawn numbers of the board's tasks
pub record IsSeatBelow (board : BoardValue) (seat : SeatValue) : Type 0 where
  pub own : IsSeatOf board seat
  pub below : All (λ number. number < board.tasks) seat.drawn

-- the port with this index, which has said bye and wasn't met
pub record IsReadyToMeet (outlet : Outlet) (index : ℕ) (port : Port) : Type 0 where
  pub ended : IsEndedPort outlet port
  pub unmet : is_spent port ≡ false
  pub index_is : index_of port ≡ index

-- the result of a worker: its port has sent the worker's messages, and its seat is done if it is
-- successful
pub record ComesBack (job : JobValue) (index : ℕ) (w : Worked) : Type 0 where
  pub says : WorkerSays job.relation job.plan job.size w.seat.drawn w.ok (said_by w.port)
  pub seat : IsSeatBelow job.board w.seat
  pub done : w.ok ≡ true → w.seat.done ≡ true
  pub port : IsReadyToMeet job.outlet index w.port
