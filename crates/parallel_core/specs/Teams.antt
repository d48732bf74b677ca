-- A team of workers: its state before it starts, and after it has ended.
use Rattle.std.specs.Prelude.{◌≡◌, ℕ, ◌<◌, ◌≤◌, Bool, true, List, All, Some, map, length, slice_get}
use Rattle.std.specs.Prelude.{vec_capacity}
use Rattle.relation_core.specs.declared.relation.Relation.{Relation}
use Rattle.rtree_core.specs.declared.node.Node.{Node}
use Rattle.deliver_core.specs.declared.message.Message.{Message}
use Rattle.deliver_core.specs.declared.outlet.Outlet.{Outlet}
use Rattle.deliver_core.specs.declared.port.Port.{Port}
use Rattle.deliver_core.specs.Boards.{BoardValue, SeatValue, fresh_seat}
use Rattle.deliver_core.specs.Byes.{has_bye}
use Rattle.deliver_core.specs.OutletCalls.{IsFreshPort}
use Rattle.deliver_core.specs.Outlets.{of_port}
use Rattle.deliver_core.specs.Ports.{index_of, taken_by, port_count}
use Rattle.deliver_core.specs.Scripts.{content_of}
use Rattle.parallel_core.specs.declared.receiver.Receiver.{Receiver}
use Rattle.parallel_core.specs.declared.team.Team.{Team}
use Rattle.parallel_core.specs.Receivers.{ReceivesFrom, Continues}
use Rattle.parallel_core.specs.Jobs.{JobValue}
use Rattle.parallel_core.specs.Workers.{WorkerSays, IsSeatBelow}

-- the team has as many fresh seats as ports, which are the outlet's first ones and fresh
pub record IsReady (board : BoardValue) (outlet : Outlet) (team : Team) : Type 0 where
  pub as_many : length team.seats.items ≡ length team.ports.items
  pub seats : All (λ seat. seat ≡ fresh_seat board) team.seats.items
  pub indexes : (index : ℕ) (port : Port) → slice_get team.ports.items index ≡ Some port
      → index_of port ≡ index
  pub fresh : All (IsFreshPort outlet) team.ports.items
  pub few : length team.ports.items ≤ port_count team.receiver.tap
  pub receives : ReceivesFrom outlet team.receiver

-- apart from the team there are a worker's seat and port, the next one by index, and there is room
-- for the seat to be returned
pub record IsBeside (board : BoardValue) (outlet : Outlet) (team : Team) (seat : SeatValue)
    (port : Port) : Type 0 where
  pub ready : IsReady board outlet team
  pub seat_is : seat ≡ fresh_seat board
  pub port_is : IsFreshPort outlet port
  pub index : index_of port ≡ length team.ports.items
  pub below : length team.ports.items < port_count team.receiver.tap
  pub room : length team.ports.items < vec_capacity team.seats

-- the team has received and started as before, and has the same capacity
pub record IsAsBefore (old new : Team) : Type 0 where
  pub receiver : new.receiver ≡ old.receiver
  pub capacity : vec_capacity new.seats ≡ vec_capacity old.seats

-- the result of one worker: the messages taken of its port, up to its Bye, are those that it sends
-- for the numbers that its seat drew; and it was successful if all are
pub record IsShare (relation : Relation) (plan : List (Node × Node)) (size : ℕ)
    (board : BoardValue) (taken : List Message) (all_ok : Bool) (index : ℕ) (seat : SeatValue)
    : Type 0 where
  pub ok : Bool
  pub says : WorkerSays relation plan size seat.drawn ok (map content_of (of_port index taken))
  pub bye : has_bye (of_port index taken) ≡ true
  pub drew : IsSeatBelow board seat
  pub done : ok ≡ true → seat.done ≡ true
  pub counts : all_ok ≡ true → ok ≡ true

-- the results of `count` workers, each at its index
pub record AreShares (relation : Relation) (plan : List (Node × Node)) (size : ℕ)
    (board : BoardValue) (count : ℕ) (team : Team) : Type 0 where
  pub count_is : length team.seats.items ≡ count
  pub each : (index : ℕ) (seat : SeatValue) → slice_get team.seats.items index ≡ Some seat
      → IsShare relation plan size board (taken_by team.receiver.tap) team.all_ok index seat

-- the result of a team of `count` workers that started with this receiver and capacity
pub record HasRun (job : JobValue) (count room : ℕ) (begun : Receiver) (team : Team)
    : Type 0 where
  pub receiver : Continues job.outlet begun team.receiver
  pub room_is : vec_capacity team.seats ≡ room
  pub few : length team.seats.items ≤ count
  pub shares : team.all_started ≡ true
      → AreShares job.relation job.plan job.size job.board count team
