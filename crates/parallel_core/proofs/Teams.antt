-- The worker that is taken off a team, and the result of a team that has ended.
use Rattle.std.proofs.Common.{◌≡◌, ℕ, zero, suc, ◌+◌, ◌≤◌, ◌⊎◌, ◌&&◌, inl, inr, Bool, true, false, Some, List, [], ◌∷◌, ◌++◌, All, length, map, slice_get}
use Rattle.std.proofs.Common.{vec_capacity, refl, sym, ap, ◌∙◌, subst, arith, length-append}
use Rattle.std.proofs.lemmas.List.{get_or_append_left}
use Rattle.std.proofs.lemmas.Option.{slice_get_within, same_Some, none-some}
use Rattle.std.proofs.Math.Seq.{get_or-append_seam}
use Rattle.relation_core.specs.declared.relation.Relation.{Relation}
use Rattle.rtree_core.specs.declared.node.Node.{Node}
use Rattle.deliver_core.specs.declared.message.Message.{Message}
use Rattle.deliver_core.specs.declared.outlet.Outlet.{Outlet}
use Rattle.deliver_core.specs.declared.port.Port.{Port}
use Rattle.deliver_core.specs.Boards.{BoardValue, SeatValue, fresh_seat}
use Rattle.deliver_core.specs.Byes.{has_bye}
use Rattle.deliver_core.specs.OutletCalls.{IsFreshPort}
use Rattle.deliver_core.specs.Outlets.{of_port}
use Rattle.deliver_core.specs.Ports.{taken_by, port_count}
use Rattle.deliver_core.specs.Scripts.{content_of}
use Rattle.parallel_core.specs.declared.receiver.Receiver.{Receiver}
use Rattle.parallel_core.specs.declared.team.Team.{Team}
use Rattle.parallel_core.specs.declared.working.Worked.{Worked}
use Rattle.parallel_core.specs.Receivers.{ReceivesFrom, Continues}
use Rattle.parallel_core.specs.Sending.{said_by}
use Rattle.parallel_core.specs.Teams.{IsReady, IsBeside, IsAsBefore, IsShare, HasRun}
use Rattle.parallel_core.specs.Jobs.{JobValue}
use Rattle.parallel_core.specs.Workers.{WorkerSays, ComesBack}
use Rattle.parallel_core.proofs.Receivers.{continues_here, continues_on}

-- the elements of a list with one more at its end
pub get_push : {X : Type 0} (xs : List X) (x : X) (k : ℕ) (y : X) → slice_get (xs ++ x ∷ []) k ≡ Some y
    → (slice_get xs k ≡ Some y) ⊎ ((k ≡ length xs) × (x ≡ y))
get_push [] x zero y is = inr (refl, same_Some _ _ is)
get_push [] x (suc k) y is = absurd (none-some _ is)
get_push (z ∷ xs) x zero y is = inl is
get_push (z ∷ xs) x (suc k) y is = elim (get_push xs x k y is) [ inl before ↦ inl before | inr last ↦ inr (ap suc last.0, last.1) ]

pub get_front : {X : Type 0} (xs : List X) (x : X) (k : ℕ) (y : X) → slice_get xs k ≡ Some y → slice_get (xs ++ x ∷ []) k ≡ Some y
get_front [] x k y is = absurd (none-some _ is)
get_front (z ∷ xs) x zero y is = is
get_front (z ∷ xs) x (suc k) y is = get_front xs x k y is

pub get_last : {X : Type 0} (xs : List X) (x : X) → slice_get (xs ++ x ∷ []) (length xs) ≡ Some x
get_last [] x = refl
get_last (z ∷ xs) x = get_last xs x

all_front : {X : Type 0} (P : X → Type 0) (xs : List X) (x : X) → All P (xs ++ x ∷ []) → All P xs
all_front P xs x all k d inside = subst P (get_or_append_left xs (x ∷ []) d k inside) (all k d (omega (arith, length-append xs (x ∷ []))))

all_last : {X : Type 0} (P : X → Type 0) (xs : List X) (x : X) → All P (xs ++ x ∷ []) → P x
all_last P xs x all = subst P (get_or-append_seam xs x [] x) (all (length xs) x (omega (arith, length-append xs (x ∷ []))))

-- the next worker's seat and port
pub is_beside : (board : BoardValue) (outlet : Outlet) (old new : Team) (seat : SeatValue) (port : Port) → IsReady board outlet old
    → old.ports.items ≡ new.ports.items ++ port ∷ [] → old.seats.items ≡ new.seats.items ++ seat ∷ [] → new.receiver ≡ old.receiver
    → vec_capacity new.seats ≡ vec_capacity old.seats → length old.seats.items ≤ vec_capacity old.seats → IsBeside board outlet new seat port
is_beside board outlet old new seat port h ports seats receiver capacity room =
    let longer : length old.ports.items ≡ length new.ports.items + 1 = ap length ports ∙ length-append new.ports.items (port ∷ []) in
    let longer_seats : length old.seats.items ≡ length new.seats.items + 1 = ap length seats ∙ length-append new.seats.items (seat ∷ []) in
    let counts : port_count new.receiver.tap ≡ port_count old.receiver.tap = ap (λ g. port_count g.tap) receiver in
    let same = h.as_many in
    let few = h.few in
    let all_seats : All (λ s. s ≡ fresh_seat board) (new.seats.items ++ seat ∷ []) = subst (All (λ s. s ≡ fresh_seat board)) seats h.seats in
    let all_fresh : All (IsFreshPort outlet) (new.ports.items ++ port ∷ []) = subst (All (IsFreshPort outlet)) ports h.fresh in
    record {
      ready = record {
        as_many = omega arith;
        seats = all_front (λ s. s ≡ fresh_seat board) new.seats.items seat all_seats;
        indexes = λ index p is. h.indexes index p (ap (λ l. slice_get l index) ports ∙ get_front new.ports.items port index p is);
        fresh = all_front (IsFreshPort outlet) new.ports.items port all_fresh;
        few = omega arith;
        receives = subst (ReceivesFrom outlet) (sym receiver) h.receives;
      };
      seat_is = all_last (λ s. s ≡ fresh_seat board) new.seats.items seat all_seats;
      port_is = all_last (IsFreshPort outlet) new.ports.items port all_fresh;
      index = h.indexes (length new.ports.items) port (ap (λ l. slice_get l (length new.ports.items)) ports ∙ get_last new.ports.items port);
      below = omega arith;
      room = omega arith;
    }

-- a share stays as it is, while more is taken
share_stays : (relation : Relation) (plan : List (Node × Node)) (size : ℕ) (board : BoardValue) (taken more : List Message) (ok more_ok : Bool)
    (index : ℕ) (seat : SeatValue)
    → of_port index more ≡ of_port index taken → (more_ok ≡ true → ok ≡ true)
    → IsShare relation plan size board taken ok index seat → IsShare relation plan size board more more_ok index seat
share_stays relation plan size board taken more ok more_ok index seat same all h = record {
  ok = h.ok;
  says = rw same h.says;
  bye = ap has_bye same ∙ h.bye;
  drew = h.drew;
  done = h.done;
  counts = λ is. h.counts (all is);
}

left_true : (a b : Bool) → (a && b) ≡ true → a ≡ true
left_true true b is = refl
left_true false b is = is

right_true : (a b : Bool) → (a && b) ≡ true → b ≡ true
right_true true b is = is
right_true false b is = cc

module _ (job : JobValue) where
  -- of no workers, and of workers of which one wasn't started
  pub none_run : (old new : Team) → IsReady job.board job.outlet old → length old.ports.items ≡ 0 → new.seats ≡ old.seats → IsAsBefore old new
      → HasRun job (length old.ports.items) (vec_capacity old.seats) old.receiver new
  none_run old new h none seats same =
      let many : length new.seats.items ≡ length old.ports.items = ap (λ v. length v.items) seats ∙ h.as_many in
      record {
        receiver = subst (Continues job.outlet old.receiver) (sym same.receiver) (continues_here job.outlet old.receiver h.receives);
        room_is = same.capacity;
        few = omega arith;
        shares = λ started. record {
          count_is = many;
          each = λ index seat is. absurd (let inside = slice_get_within new.seats.items index seat is in omega arith);
        };
      }

  pub not_started : (count room : ℕ) (begun : Receiver) (team : Team) → ReceivesFrom job.outlet begun → team.receiver ≡ begun → vec_capacity team.seats ≡ room
      → length team.seats.items ≤ count → team.all_started ≡ false → HasRun job count room begun team
  not_started count room begun team h same capacity few not = record {
    receiver = subst (Continues job.outlet begun) (sym same) (continues_here job.outlet begun h);
    room_is = capacity;
    few = few;
    shares = λ started. cc;
  }

  -- the facts known of the worker after the others
  last_share : (taken : List Message) (all_ok : Bool) (index : ℕ) (w : Worked) → ComesBack job index w
      → map content_of (of_port index taken) ≡ said_by w.port → has_bye (of_port index taken) ≡ true → (all_ok ≡ true → w.ok ≡ true)
      → IsShare job.relation job.plan job.size job.board taken all_ok index w.seat
  last_share taken all_ok index w back whole bye ok = record {
    ok = w.ok;
    says = subst (WorkerSays job.relation job.plan job.size w.seat.drawn w.ok) (sym whole) back.says;
    bye = bye;
    drew = back.seat;
    done = back.done;
    counts = ok;
  }

  pub has_run : (count room index : ℕ) (begun : Receiver) (rest : Team) (taken met : Receiver) (w : Worked) (team : Team)
      → HasRun job count room begun rest → Continues job.outlet rest.receiver taken → Continues job.outlet taken met
      → index ≡ count → ComesBack job index w → has_bye (of_port index (taken_by taken.tap)) ≡ true
      → map content_of (of_port index (taken_by met.tap)) ≡ said_by w.port → team.receiver ≡ met → team.seats.items ≡ rest.seats.items ++ w.seat ∷ []
      → vec_capacity team.seats ≡ vec_capacity rest.seats → team.all_started ≡ rest.all_started → team.all_ok ≡ (rest.all_ok && w.ok)
      → HasRun job (count + 1) room begun team
  has_run count room index begun rest taken met w team h one two at back bye whole receiver seats capacity started ok =
      let both = continues_on job.outlet rest.receiver taken met one two in
      let longer : length team.seats.items ≡ length rest.seats.items + 1 = ap length seats ∙ length-append rest.seats.items (w.seat ∷ []) in
      let few = h.few in
      record {
        receiver = subst (Continues job.outlet begun) (sym receiver) (continues_on job.outlet begun rest.receiver met h.receiver both);
        room_is = capacity ∙ h.room_is;
        few = omega arith;
        shares = λ all.
            let inner = h.shares (sym started ∙ all) in
            let many = inner.count_is in
            record {
              count_is = longer ∙ ap (λ n. n + 1) many;
              each = λ k seat is. elim (get_push rest.seats.items w.seat k seat (ap (λ l. slice_get l k) (sym seats) ∙ is)) [
                | inl before ↦
                    let share = inner.each k seat before in
                    share_stays job.relation job.plan job.size job.board
                    (taken_by rest.receiver.tap) (taken_by team.receiver.tap) rest.all_ok team.all_ok k seat
                    (ap (λ g. of_port k (taken_by g.tap)) receiver ∙ both.final k share.bye)
                    (λ is_ok. left_true rest.all_ok w.ok (sym ok ∙ is_ok)) share
                | inr last ↦
                    let here : k ≡ index = last.0 ∙ many ∙ sym at in
                    let final : of_port index (taken_by team.receiver.tap) ≡ of_port index (taken_by taken.tap) =
                    ap (λ g. of_port index (taken_by g.tap)) receiver ∙ two.final index bye in
                    let share = last_share (taken_by team.receiver.tap) team.all_ok index w back
                    (ap (λ g. map content_of (of_port index (taken_by g.tap))) receiver ∙ whole)
                    (ap has_bye final ∙ bye) (λ is_ok. right_true rest.all_ok w.ok (sym ok ∙ is_ok)) in
                    subst (λ (n : ℕ). IsShare job.relation job.plan job.size job.board (taken_by team.receiver.tap) team.all_ok n seat) (sym here)
                    (subst (IsShare job.relation job.plan job.size job.board (taken_by team.receiver.tap) team.all_ok index) last.1 share)
              ];
            };
      }

  -- from the start of the team, and not from where the first worker was taken off
  pub as_begun : (old new team : Team) → length old.ports.items ≡ length new.ports.items + 1 → IsAsBefore old new
      → HasRun job (length new.ports.items + 1) (vec_capacity new.seats) new.receiver team
      → HasRun job (length old.ports.items) (vec_capacity old.seats) old.receiver team
  as_begun old new team count same h = rw (count, ← same.capacity, ← same.receiver) h
