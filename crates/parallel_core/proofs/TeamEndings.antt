-- A team from its start to its outcome.
use Rattle.std.proofs.Common.{◌≡◌, ℕ, ◌+◌, ◌<◌, ◌≤◌, true, Some, Result, IfOk, IfErr, List, All, length, map, slice_get, get_or, replicate, refl, sym, ap, ◌∙◌}
use Rattle.std.proofs.Common.{subst, arith}
use Rattle.std.specs.Prelude.{Any}
use Rattle.std.specs.List.{flat_map, range_with_len}
use Rattle.std.proofs.lemmas.List.{get_or-map, length-replicate}
use Rattle.std.proofs.lemmas.List.Elements.{All-replicate}
use Rattle.std.proofs.lemmas.List.FromFn.{get_or-range_with_len}
use Rattle.std.proofs.lemmas.Option.{slice_get_within, get_or_from_slice_get, slice_get-get_or}
use Rattle.deliver_core.specs.declared.message.Message.{Message}
use Rattle.deliver_core.specs.declared.outlet.Outlet.{Outlet}
use Rattle.deliver_core.specs.declared.port.Port.{Port}
use Rattle.deliver_core.specs.Boards.{BoardValue, SeatValue, fresh_seat, IsSeatOf}
use Rattle.deliver_core.specs.Collectors.{Delivery}
use Rattle.deliver_core.specs.Draws.{AreNumbersBelow}
use Rattle.deliver_core.specs.OutletCalls.{IsFreshPort}
use Rattle.deliver_core.specs.Ports.{index_of, taken_by, port_count}
use Rattle.parallel_core.specs.declared.fault.JoinFault.{JoinFault}
use Rattle.parallel_core.specs.declared.receiver.Receiver.{Receiver}
use Rattle.parallel_core.specs.declared.team.Team.{Team}
use Rattle.parallel_core.specs.Deliveries.{IsDelivered}
use Rattle.parallel_core.specs.Faults.{IsWant}
use Rattle.parallel_core.specs.Receivers.{ReceivesFrom}
use Rattle.parallel_core.specs.Teams.{IsReady, HasRun}
use Rattle.parallel_core.specs.Jobs.{JobValue}
use Rattle.parallel_core.proofs.Endings.{Law, Finishes, only_want, delivered}
use Rattle.parallel_core.proofs.Ownership.{AreOwners, are_owners}

index_at : (ports : List Port) (n index : ℕ) (port : Port) → map index_of ports ≡ range_with_len 0 n → length ports ≡ n → slice_get ports index ≡ Some port
    → index_of port ≡ index
index_at ports n index port indexes many is =
    let inside = slice_get_within ports index port is in
    let below : index < n = omega arith in
    let at : index_of port ≡ 0 + index =
    ap index_of (sym (get_or_from_slice_get ports index port port is)) ∙ sym (get_or-map index_of ports index port 0 inside)
    ∙ ap (λ l. get_or l index 0) indexes ∙ get_or-range_with_len 0 n index 0 below in
    omega arith

pub first_ready : (board : BoardValue) (outlet : Outlet) (n : ℕ) (team : Team) → team.seats.items ≡ replicate n (fresh_seat board) → length team.ports.items ≡ n
    → map index_of team.ports.items ≡ range_with_len 0 n → All (IsFreshPort outlet) team.ports.items → port_count team.receiver.tap ≡ n
    → ReceivesFrom outlet team.receiver
    → IsReady board outlet team
first_ready board outlet n team seats many indexes fresh count receives = record {
  as_many = ap length seats ∙ length-replicate n (fresh_seat board) ∙ sym many;
  seats = subst (All (λ seat. seat ≡ fresh_seat board)) (sym seats) (All-replicate (λ seat. seat ≡ fresh_seat board) n (fresh_seat board) refl);
  indexes = λ index port is. index_at team.ports.items n index port indexes many is;
  fresh = fresh;
  few = omega arith;
  receives = receives;
}

module _ (job : JobValue) where
  pub all_end : (workers room : ℕ) (begun : Receiver) (team : Team) (result : Result Delivery JoinFault) → 1 ≤ workers → 1 ≤ job.size
      → job.board.tasks ≡ length job.plan → port_count begun.tap ≡ workers → begun.fused.collector.tasks ≡ job.board.tasks
      → HasRun job workers room begun team → team.all_started ≡ true
      → ((n : ℕ) × (n ≤ job.board.tasks) × AreNumbersBelow n (flat_map (λ (s : SeatValue). s.drawn) team.seats.items)
      × (Any (λ (s : SeatValue). s.done ≡ true) team.seats.items → n ≡ job.board.tasks))
      → Law → Finishes team.receiver.fused.accepted team.all_ok team.receiver.fused.collector result
      → IfOk result (IsDelivered job.relation job.plan job.size) × IfErr result IsWant
  all_end workers room begun team result some_workers some tasks ports counts run started numbers law ends =
      let shares = run.shares started in
      let many = shares.count_is in
      let receives = run.receiver.receives in
      let taken : List Message = taken_by team.receiver.tap in
      let as_many : port_count team.receiver.tap ≡ length team.seats.items = run.receiver.ports ∙ ports ∙ sym many in
      let known : All (λ (m : Message). m.port < length team.seats.items) taken =
      subst (λ (n : ℕ). All (λ (m : Message). m.port < n) taken) as_many receives.known in
      let owners : AreOwners job.relation job.plan job.size job.board.tasks team.all_ok taken =
      are_owners job.relation job.plan job.size job.board taken team.all_ok team.seats.items (omega arith) known shares.each numbers in
      let same : team.receiver.fused.collector.tasks ≡ job.board.tasks = run.receiver.tasks ∙ counts in (
        delivered job.relation job.plan job.size job.board.tasks team.all_ok taken team.receiver.fused.collector law owners same tasks some
            team.receiver.fused.accepted result receives.taken_in ends,
        only_want job.relation job.plan job.size job.board.tasks team.all_ok taken team.receiver.fused.collector law owners same
            team.receiver.fused.accepted result receives.taken_in ends,
      )

  pub all_own : (workers room : ℕ) (begun : Receiver) (team : Team) → HasRun job workers room begun team → team.all_started ≡ true
      → All (IsSeatOf job.board) team.seats.items
  all_own workers room begun team run started k d inside =
      ((run.shares started).each k (get_or team.seats.items k d) (slice_get-get_or team.seats.items k d inside)).drew.own
