-- The knowledge that the calls of an outlet gain from the steps of its queue.
use Rattle.std.proofs.Common.{◌≡◌, ℕ, ◌+◌, true, false, Option, Some, None, is_some, IfSome, MatchOption, List, [], ◌∷◌, ◌++◌, length, map, refl, sym, ap, ◌∙◌}
use Rattle.std.proofs.Common.{subst, arith}
use mathlib.Core.List.{IsPrefix}
use Rattle.std.specs.List.{range_with_len}
use Rattle.std.proofs.lemmas.List.{append-nil, map-id, map-append}
use Rattle.std.proofs.lemmas.List.FromFn.{map-range_with_len_more}
use Rattle.std.proofs.lemmas.List.Elements.{All-head, All-weaker}
use Rattle.crossbeam_queue.specs.Fifo.{Held}
use Rattle.crossbeam_queue.specs.Passes.{Pass, IsPassOf, view}
use Rattle.deliver_core.specs.declared.message.Message.{Message}
use Rattle.deliver_core.specs.declared.outlet.Outlet.{Outlet}
use Rattle.deliver_core.specs.declared.port.Port.{Port}
use Rattle.deliver_core.specs.declared.pass_view.Met.{Met}
use Rattle.deliver_core.specs.declared.pass_view.PassView.{PassView}
use Rattle.deliver_core.specs.declared.pass_view.PassView.TheVariants.{Sender, Receiver, Spent}
use Rattle.deliver_core.specs.Outlets.{of_port}
use Rattle.deliver_core.specs.OutletCalls.{IsFreshPort}
use Rattle.deliver_core.specs.Ports.{index_of, sent_with, IsNewPort}
use Rattle.deliver_core.specs.Byes.{has_bye, EndsAtBye}
use Rattle.deliver_core.specs.PassViews.{sender_of, is_receiver, sent_of, with_sent, with_met}
use Rattle.deliver_core.specs.OutletSteps.{Begins, IsSettled, TellsWaiting, IsAfterSend, IsAfterTake, IsAfterMiss, IsAfterMeet}
use Rattle.deliver_core.proofs.Byes.{has_bye-snoc}

-- the knowledge gained by a push
pub after_send : (m : Message) (v w : PassView) → sender_of v ≡ Some m.port → has_bye (sent_of v) ≡ false → w ≡ with_sent v m → IsAfterSend m v w
after_send m (Receiver made taken met) w is quiet e = cc
after_send m Spent w is quiet e = cc
after_send m (Sender index sent) w is quiet e =
    subst (IsAfterSend m (Sender index sent)) (sym e) (record { sender = is; sent = refl; bye = has_bye-snoc sent m quiet })

-- the messages taken of a port are all that it sent, if none of them waits
settled : (taken items sent : List Message) (port : ℕ) → of_port port items ≡ [] → of_port port taken ++ of_port port items ≡ sent → of_port port taken ≡ sent
settled taken items sent port none e = sym (append-nil (of_port port taken)) ∙ (ap (λ l. of_port port taken ++ l) (sym none) ∙ e)

-- of an empty queue
none_waits : (items : List Message) (port : ℕ) → length items ≡ 0 → of_port port items ≡ []
none_waits [] port none = refl
none_waits (m ∷ ms) port none = absurd (omega arith)

-- the knowledge gained by a pop from an empty queue
pub after_miss : (v w : PassView) → is_receiver v ≡ true → w ≡ v → Held 0 (TellsWaiting v) → IsAfterMiss v w
after_miss (Sender index sent) w is e told = cc
after_miss Spent w is e told = cc
after_miss (Receiver made taken met) w is e told =
    let items = told.0 in
    let v : PassView = Receiver made taken met in
    let Told : Met → Type 0 = λ p. (of_port p.index taken ++ of_port p.index items ≡ p.sent) × EndsAtBye p.sent in
    let begins : Begins v = All-weaker Told (λ p. IsPrefix (of_port p.index taken) p.sent) (λ p h. (of_port p.index items, h.0)) met told.2 in
    let all : IsSettled v = All-weaker Told (λ p. of_port p.index taken ≡ p.sent)
    (λ p h. settled taken items p.sent p.index (none_waits items p.index told.1) h.0) met told.2 in
    record { view = e; begins = subst Begins (sym e) begins; settled = subst IsSettled (sym e) all }

-- whether it took a message or found none, a beginning of each list was taken
pub begins_after : (r : Option Message) (v w : PassView) → is_receiver v ≡ true
    → MatchOption r ((w ≡ v) × Held 0 (TellsWaiting v)) (λ m. IsAfterTake m v w) → Begins w
begins_after None v w is rule = (after_miss v w is rule.0 rule.1).begins
begins_after (Some m) v w is rule = rule.begins

-- what a view tells of a sender, it tells of its index
pub the_index : (o : Option ℕ) → is_some o ≡ true → (index : ℕ) × (o ≡ Some index)
the_index (Some index) some = (index, refl)
the_index None some = cc

-- the knowledge gained by a meeting and by reading the queue
after_meeting : (index : ℕ) (v port w : PassView) (items : List Message) → is_receiver v ≡ true → sender_of port ≡ Some index → w ≡ with_met v port
    → TellsWaiting w items → IsAfterMeet port v w index
after_meeting index (Sender i l) port w items is that e told = cc
after_meeting index Spent port w items is that e told = cc
after_meeting index (Receiver made taken met) (Receiver made' taken' met') w items is that e told = cc
after_meeting index (Receiver made taken met) Spent w items is that e told = cc
after_meeting index (Receiver made taken met) (Sender i sent) w items is that e told =
    let first = All-head (λ (p : Met). (of_port p.index taken ++ of_port p.index items ≡ p.sent) × EndsAtBye p.sent) (record { index = i; sent = sent }) met
    (subst (λ (x : PassView). TellsWaiting x items) e told) in
    let same : i ≡ index = cc in
    let tied : of_port index taken ++ of_port index items ≡ sent = subst (λ (n : ℕ). of_port n taken ++ of_port n items ≡ sent) same first.0 in
    subst (λ (x : PassView). IsAfterMeet (Sender i sent) (Receiver made taken met) x index) (sym e) (record {
      view = refl;
      begins = (of_port index items, tied);
      whole = λ bye. settled taken items sent index (first.1 (of_port index taken) (of_port index items) tied bye) tied;
    })

pub after_meet : (v port w : PassView) (items : List Message) → is_receiver v ≡ true → is_some (sender_of port) ≡ true → w ≡ with_met v port
    → TellsWaiting w items
    → IfSome (sender_of port) (IsAfterMeet port v w)
after_meet v port w items is some e told =
    let one = the_index (sender_of port) some in
    subst (λ (o : Option ℕ). IfSome o (IsAfterMeet port v w)) (sym one.1) (after_meeting one.0 v port w items is one.1 e told)

-- the tap's pass stays the tap's
pub receiver_after_meet : (v w : PassView) → is_receiver v ≡ true → is_receiver (with_met v w) ≡ true
receiver_after_meet (Sender index sent) w is = cc
receiver_after_meet Spent w is = cc
receiver_after_meet (Receiver made taken met) (Sender index sent) is = refl
receiver_after_meet (Receiver made taken met) (Receiver made' taken' met') is = refl
receiver_after_meet (Receiver made taken met) Spent is = refl

-- a port more, with the next index
pub more_indexes : (all : List Port) (port : Port) (n : ℕ) → map index_of all ≡ range_with_len 0 n → index_of port ≡ n
    → map index_of (all ++ port ∷ []) ≡ range_with_len 0 (n + 1)
more_indexes all port n are is =
    let more : range_with_len 0 (n + 1) ≡ range_with_len 0 n ++ n ∷ [] =
    sym (map-id (range_with_len 0 (n + 1)))
    ∙ (map-range_with_len_more (λ (k : ℕ). k) 0 n n (omega arith) ∙ ap (λ l. l ++ n ∷ []) (map-id (range_with_len 0 n))) in
    map-append index_of all (port ∷ []) ∙ (ap (λ (x : List ℕ × ℕ). x.0 ++ x.1 ∷ []) (λ i. (are i, is i)) ∙ sym more)

-- the port of a new pass is fresh
pub fresh_port : (outlet : Outlet) (index : ℕ) (pass : Pass Message PassView) (port : Port) → IsPassOf outlet.queue pass → IsNewPort index pass port
    → view pass ≡ Sender index [] → IsFreshPort outlet port
fresh_port outlet index pass port of_queue made new = record {
  belongs = λ other is. let same : pass ≡ other = cc (made.holds) in subst (λ (p : Pass Message PassView). IsPassOf outlet.queue p) same of_queue;
  silent = made.silent;
  empty = ap sent_with made.holds ∙ ap sent_of new;
}
