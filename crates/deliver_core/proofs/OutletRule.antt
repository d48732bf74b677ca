-- Each step of an outlet's passes preserves the rule of its queue.
use Rattle.std.proofs.Common.{◌≡◌, ◌≢◌, ℕ, zero, suc, ◌+◌, ◌<◌, Bool, true, false, eqb, cond, Some, List, [], ◌∷◌, ◌++◌, All, length, set, sym, refl, ap, ◌∙◌}
use Rattle.std.proofs.Common.{subst, ⊎_elim, inl, inr, ◌⊎◌, append_assoc, eq-eqb, ne_eqb, arith}
use mathlib.Core.Option.{some, some-injective, some-ne-none}
use mathlib.Core.List.{IsPrefix}
use lib.ListN.{get_elem?}
use Rattle.std.proofs.lemmas.Bool.Decides.{eqb_tells}
use Rattle.std.proofs.lemmas.List.Elements.{All-nil, All-cons, All-head, All-tail, All-push, All-weaker, All-contains, Contains-append_left, Contains-push}
use Rattle.std.proofs.lemmas.List.Elements.{filter-append}
use Rattle.crossbeam_queue.specs.Fifo.{Pushes, Pops, Forks, Merges, Learns}
use Rattle.crossbeam_queue.proofs.Lists.{at_set}
use Rattle.deliver_core.specs.declared.message.Message.{Message}
use Rattle.deliver_core.specs.declared.pass_view.Met.{Met}
use Rattle.deliver_core.specs.declared.pass_view.PassView.{PassView}
use Rattle.deliver_core.specs.declared.pass_view.PassView.TheVariants.{Sender, Receiver, Spent}
use Rattle.deliver_core.specs.Outlets.{State, Event, Put, Take, IsEventOf, initial, after_put, after_take, after_all, of_port}
use Rattle.deliver_core.specs.Byes.{has_bye, EndsAtBye}
use Rattle.deliver_core.specs.PassViews.{sender_of, is_receiver, sent_of, with_port, new_port, with_sent, with_met}
use Rattle.deliver_core.specs.OutletRule.{KnowsMet, Knows, Delivers}
use Rattle.deliver_core.specs.OutletSteps.{TellsWaiting, IsAfterTake}
use Rattle.deliver_core.proofs.OutletLaws.{lawful, after_all-snoc}
use Rattle.deliver_core.proofs.Byes.{ends-none, ends-snoc}

-- F holds of each pass and its view
abbrev Each : (ℕ → PassView → Type 0) → List PassView → Type 0
Each F views = (pass : ℕ) (v : PassView) → get_elem? views pass ≡ some v → F pass v

-- one view is changed, and the others stay
each_set : (F : ℕ → PassView → Type 0) (views : List PassView) (pass : ℕ) (w : PassView) → F pass w
    → ((j : ℕ) (u : PassView) → j ≢ pass → get_elem? views j ≡ some u → F j u) → Each F (set views pass w)
each_set F views pass w mine others j u at = ⊎_elim (λ (x : (j ≡ pass) × (w ≡ u)). subst (λ (y : ℕ × PassView). F y.0 y.1) (λ i. (sym x.0 i, x.1 i)) mine)
    (λ (x : (j ≢ pass) × (get_elem? views j ≡ some u)). others j u x.0 x.1) (at_set views pass j w u at)

-- a view comes at the end
at_end : (views : List PassView) (w u : PassView) (j : ℕ) → get_elem? (views ++ w ∷ []) j ≡ some u
    → (get_elem? views j ≡ some u) ⊎ ((j ≡ length views) × (w ≡ u))
at_end [] w u zero at = inr (refl, some-injective w u at)
at_end [] w u (suc j) at = absurd (some-ne-none u (sym at))
at_end (x ∷ xs) w u zero at = inl at
at_end (x ∷ xs) w u (suc j) at = ⊎_elim inl (λ (e : (j ≡ length xs) × (w ≡ u)). inr (ap suc e.0, e.1)) (at_end xs w u j at)

-- the rule, from a state that is equal to that of the events
from_state : (items : List Message) (views : List PassView) (ports tap : ℕ) (holder : ℕ → ℕ) (events : List Event) (s : State)
    → after_all events initial ≡ s → All (IsEventOf ports) events → s.waiting ≡ items → ((port : ℕ) → EndsAtBye (s.sent port))
    → Each (Knows ports tap holder s) views
    → Delivers items views
from_state items views ports tap holder events s is legal waits ends knows = record {
  ports = ports;
  tap = tap;
  holder = holder;
  events = events;
  legal = legal;
  waits = ap (λ (t : State). t.waiting) is ∙ waits;
  ends = subst (λ (t : State). (port : ℕ) → EndsAtBye (t.sent port)) (sym is) ends;
  knows = subst (λ (t : State). Each (Knows ports tap holder t) views) (sym is) knows;
}

-- the queue is made: its one pass is the tap's
begins_knows : Each (Knows 0 0 (λ _. 0) initial) (Receiver 0 [] [] ∷ [])
begins_knows zero v at = subst (λ (u : PassView). Knows 0 0 (λ _. 0) initial 0 u) (some-injective (Receiver 0 [] []) v at)
    (refl, refl, refl, All-nil (KnowsMet 0 0 (λ _. 0) initial))
begins_knows (suc pass) v at = absurd (some-ne-none v (sym at))

pub begins : Delivers [] (Receiver 0 [] [] ∷ [])
begins = from_state [] (Receiver 0 [] [] ∷ []) 0 0 (λ _. 0) [] initial refl (All-nil (IsEventOf 0)) refl (λ _. ends-none) begins_knows

-- a put changes only the list of its own port
sent_same : (s : State) (index : ℕ) (m : Message) → s.sent index ++ m ∷ [] ≡ (after_put index m s).sent index
sent_same s index m = rw (eq-eqb index index refl) refl

sent_other : (s : State) (index : ℕ) (m : Message) (i : ℕ) → (i ≡ index → ⊥) → s.sent i ≡ (after_put index m s).sent i
sent_other s index m i other = rw (ne_eqb i index other) refl

-- the knowledge of the other passes stays the same, as their lists are others
others_put : (ports tap : ℕ) (holder : ℕ → ℕ) (s : State) (index : ℕ) (m : Message) (pass j : ℕ) (u : PassView) → holder index ≡ pass → j ≢ pass
    → Knows ports tap holder s j u → Knows ports tap holder (after_put index m s) j u
others_put ports tap holder s index m pass j (Sender i sent) is other k = (k.0, k.1, k.2 ∙ sent_other s index m i (λ e. other (sym k.1 ∙ (ap holder e ∙ is))))
others_put ports tap holder s index m pass j (Receiver made taken met) is other k = (
  k.0,
  k.1,
  k.2,
  All-weaker (KnowsMet ports tap holder s) (KnowsMet ports tap holder (after_put index m s))
      (λ p h. (h.0, h.1, h.2 ∙ sent_other s index m p.index (λ e. other (k.0 ∙ (sym h.1 ∙ (ap holder e ∙ is)))))) met k.3,
)
others_put ports tap holder s index m pass j Spent is other k = tt

-- nothing follows a Bye after a message of a port that hadn't ended
ends_put : (s : State) (index : ℕ) (m : Message) → has_bye (s.sent index) ≡ false → ((p : ℕ) → EndsAtBye (s.sent p)) → (p : ℕ)
    → EndsAtBye ((after_put index m s).sent p)
ends_put s index m quiet ends p = ⊎_elim
    (λ (same : (eqb p index ≡ true) × (p ≡ index)). subst EndsAtBye (sent_same s index m ∙ ap (after_put index m s).sent (sym same.1))
    (ends-snoc (s.sent index) m quiet))
    (λ (other : (eqb p index ≡ false) × (p ≡ index → ⊥)). subst EndsAtBye (sent_other s index m p other.1) (ends p))
    (eqb_tells p index)

-- a port's push is a Put
pub sends : (n pass : ℕ) (v : PassView) (m : Message) → sender_of v ≡ Some m.port → has_bye (sent_of v) ≡ false
    → Pushes (λ items views. Delivers items views) n pass v m (λ w. w ≡ with_sent v m)
sends n pass (Receiver ports taken met) m is quiet items views room d at = cc
sends n pass Spent m is quiet items views room d at = cc
sends n pass (Sender index sent) m is quiet items views room d at =
    let s : State = after_all d.events initial in
    let mine = d.knows pass (Sender index sent) at in
    let carries : m.port ≡ index = cc in
    let w : PassView = Sender index (sent ++ m ∷ []) in (
      w,
      from_state (items ++ m ∷ []) (set views pass w) d.ports d.tap d.holder (d.events ++ Put index m ∷ []) (after_put index m s)
          (after_all-snoc d.events (Put index m) initial)
          (All-push (IsEventOf d.ports) d.events (Put index m) d.legal (mine.0, carries)) (ap (λ l. l ++ m ∷ []) d.waits)
          (ends_put s index m (ap has_bye (sym mine.2) ∙ quiet) d.ends)
          (each_set (Knows d.ports d.tap d.holder (after_put index m s)) views pass w (mine.0, mine.1, ap (λ l. l ++ m ∷ []) mine.2 ∙ sent_same s index m)
          (λ j u other at'. others_put d.ports d.tap d.holder s index m pass j u mine.1 other (d.knows j u at'))),
      refl,
    )

-- the parts of a list of messages
of_port-append : (port : ℕ) (xs ys : List Message) → of_port port (xs ++ ys) ≡ of_port port xs ++ of_port port ys
of_port-append port xs ys = filter-append (λ (m : Message). eqb m.port port) xs ys

-- the messages taken of a port and those that wait are those that it sent, if a pass knows these
-- lists
tied : (items : List Message) (views : List PassView) (d : Delivers items views) (taken sent : List Message) (port : ℕ)
    → taken ≡ (after_all d.events initial).taken
    → sent ≡ (after_all d.events initial).sent port → of_port port taken ++ of_port port items ≡ sent
tied items views d taken sent port t s =
    sym (of_port-append port taken items)
    ∙ (ap (λ (l : List Message × List Message). of_port port (l.0 ++ l.1)) (λ i. (t i, sym d.waits i))
    ∙ ((lawful d.ports d.events d.legal).each port ∙ sym s))

-- the knowledge that the tap gains by reading the queue
pub waits : (pass : ℕ) (v : PassView) → is_receiver v ≡ true → Learns (λ items views. Delivers items views) pass v (TellsWaiting v)
waits pass (Sender index sent) is items views d at = cc
waits pass Spent is items views d at = cc
waits pass (Receiver made taken met) is items views d at =
    let s : State = after_all d.events initial in
    let mine = d.knows pass (Receiver made taken met) at in
    All-weaker (KnowsMet d.ports d.tap d.holder s) (λ (p : Met). (of_port p.index taken ++ of_port p.index items ≡ p.sent) × EndsAtBye p.sent)
    (λ p h. (tied items views d taken p.sent p.index mine.2 h.2, subst EndsAtBye (sym h.2) (d.ends p.index))) met mine.3

-- a port of which a message waits has not ended
live_port : (port : ℕ) (taken items sent : List Message) (m : Message) (b : Bool) → has_bye (of_port port taken) ≡ b → m.port ≡ port → EndsAtBye sent
    → of_port port taken ++ of_port port (m ∷ items) ≡ sent → b ≡ false
live_port port taken items sent m false is here ends e = refl
live_port port taken items sent m true is here ends e =
    let none : of_port port (m ∷ items) ≡ [] = ends (of_port port taken) (of_port port (m ∷ items)) e is in
    let first : of_port port (m ∷ items) ≡ m ∷ of_port port items = rw (eq-eqb m.port port here) refl in
    cc

-- no other pass knows the messages taken
others_take : (ports tap : ℕ) (holder : ℕ → ℕ) (s : State) (items taken : List Message) (pass j : ℕ) (u : PassView) → pass ≡ tap → j ≢ pass
    → Knows ports tap holder s j u → Knows ports tap holder (record { waiting = items; sent = s.sent; taken = taken }) j u
others_take ports tap holder s items taken pass j (Sender i sent) is other k = k
others_take ports tap holder s items taken pass j (Receiver made got met) is other k = absurd (other (k.0 ∙ sym is))
others_take ports tap holder s items taken pass j Spent is other k = tt

-- the consequence of the law for the oldest message
told_taken : (items : List Message) (views : List PassView) (made : ℕ) (taken : List Message) (met : List Met) (pass : ℕ) (m : Message)
    (d : Delivers (m ∷ items) views)
    → Knows d.ports d.tap d.holder (after_all d.events initial) pass (Receiver made taken met)
    → IsAfterTake m (Receiver made taken met) (Receiver made (taken ++ m ∷ []) met)
told_taken items views made taken met pass m d mine =
    let s : State = after_all d.events initial in
    let law = lawful d.ports d.events d.legal in
    let all : s.taken ++ s.waiting ≡ (taken ++ m ∷ []) ++ items = ap (λ (l : List Message × List Message). l.0 ++ l.1) (λ i. (sym mine.2 i, d.waits i))
    ∙ sym (append_assoc taken (m ∷ []) items) in
    record {
      view = refl;
      known = subst (λ (n : ℕ). m.port < n) (sym mine.1)
          (All-contains (λ (n : Message). n.port < d.ports) ((taken ++ m ∷ []) ++ items) m
          (subst (λ (l : List Message). All (λ (n : Message). n.port < d.ports) l) all law.known)
          (Contains-append_left (taken ++ m ∷ []) items m (Contains-push taken m)));
      live = live_port m.port taken items (s.sent m.port) m (has_bye (of_port m.port taken)) refl refl (d.ends m.port)
          (tied (m ∷ items) views d taken (s.sent m.port) m.port mine.2 refl);
      begins = All-weaker (KnowsMet d.ports d.tap d.holder s) (λ (p : Met). IsPrefix (of_port p.index (taken ++ m ∷ [])) p.sent)
          (λ p h. (
            of_port p.index items,
            sym (of_port-append p.index (taken ++ m ∷ []) items)
                ∙ (ap (of_port p.index) (sym all) ∙ (law.each p.index ∙ sym h.2)),
          )) met mine.3;
    }

-- the tap's pop is a Take
pub takes : (pass : ℕ) (v : PassView) → is_receiver v ≡ true → Pops (λ items views. Delivers items views) pass v (λ m w. IsAfterTake m v w)
takes pass (Sender index sent) is m items views d at = cc
takes pass Spent is m items views d at = cc
takes pass (Receiver made taken met) is m items views d at =
    let s : State = after_all d.events initial in
    let mine = d.knows pass (Receiver made taken met) at in
    let w : PassView = Receiver made (taken ++ m ∷ []) met in
    let t : State = record { waiting = items; sent = s.sent; taken = s.taken ++ m ∷ [] } in (
      w,
      from_state items (set views pass w) d.ports d.tap d.holder (d.events ++ Take ∷ []) t
          (after_all-snoc d.events Take initial ∙ ap (λ (l : List Message). after_take l s) d.waits)
          (All-push (IsEventOf d.ports) d.events Take d.legal tt) refl d.ends
          (each_set (Knows d.ports d.tap d.holder t) views pass w (mine.0, mine.1, ap (λ l. l ++ m ∷ []) mine.2, mine.3)
          (λ j u other at'. others_take d.ports d.tap d.holder s items (s.taken ++ m ∷ []) pass j u mine.0 other (d.knows j u at'))),
      told_taken items views made taken met pass m d mine,
    )

-- no message of a list is of a port above all of its ports
none_of_port : (port : ℕ) (ms : List Message) → All (λ m. m.port < port) ms → of_port port ms ≡ []
none_of_port port [] below = refl
none_of_port port (m ∷ ms) below =
    let lt : m.port < port = All-head (λ (n : Message). n.port < port) m ms below in
    let rest = none_of_port port ms (All-tail (λ (n : Message). n.port < port) m ms below) in
    rw (ne_eqb m.port port (λ e. omega arith)) rest

-- the holder of each port, once a pass has the list of this one
abbrev held_by : ℕ → ℕ → (ℕ → ℕ) → ℕ → ℕ
held_by index pass holder p = cond (eqb p index) pass (holder p)

held_same : (index pass : ℕ) (holder : ℕ → ℕ) (p : ℕ) → p ≡ index → held_by index pass holder p ≡ pass
held_same index pass holder p is = rw (eq-eqb p index is) refl

held_other : (index pass : ℕ) (holder : ℕ → ℕ) (p : ℕ) → (p ≡ index → ⊥) → held_by index pass holder p ≡ holder p
held_other index pass holder p other = rw (ne_eqb p index other) refl

-- with one more port, each pass has the same knowledge
met_after_make : (ports tap pass : ℕ) (holder : ℕ → ℕ) (s : State) (p : Met) → KnowsMet ports tap holder s p
    → KnowsMet (ports + 1) tap (held_by ports pass holder) s p
met_after_make ports tap pass holder s p h = let lt = h.0 in (omega arith, held_other ports pass holder p.index (λ e. omega arith) ∙ h.1, h.2)

others_make : (ports tap last pass j : ℕ) (holder : ℕ → ℕ) (s : State) (u : PassView) → pass ≡ tap → j ≢ pass → Knows ports tap holder s j u
    → Knows (ports + 1) tap (held_by ports last holder) s j u
others_make ports tap last pass j holder s (Sender i sent) is other k = let lt = k.0 in
    (omega arith, held_other ports last holder i (λ e. omega arith) ∙ k.1, k.2)
others_make ports tap last pass j holder s (Receiver made taken met) is other k = absurd (other (k.0 ∙ sym is))
others_make ports tap last pass j holder s Spent is other k = tt

more_ports : (ports : ℕ) (event : Event) → IsEventOf ports event → IsEventOf (ports + 1) event
more_ports ports (Put port m) legal = let lt = legal.0 in (omega arith, legal.1)
more_ports ports Take legal = tt

-- a port is made: it has the list of the next index, which is empty
pub makes : (pass : ℕ) (v : PassView) → is_receiver v ≡ true → Forks (λ items views. Delivers items views) pass v (with_port v) (new_port v)
makes pass (Sender index sent) is items views d at = cc
makes pass Spent is items views d at = cc
makes pass (Receiver made taken met) is items views d at =
    let s : State = after_all d.events initial in
    let law = lawful d.ports d.events d.legal in
    let mine = d.knows pass (Receiver made taken met) at in
    let left : PassView = Receiver (made + 1) taken met in
    let right : PassView = Sender made [] in
    let front : List PassView = set views pass left in
    let holder : ℕ → ℕ = held_by d.ports (length front) d.holder in
    let F : ℕ → PassView → Type 0 = Knows (d.ports + 1) d.tap holder s in
    let known : made ≡ d.ports = mine.1 in
    let old : Each F front = each_set F views pass left (
      mine.0,
      ap (λ n. n + 1) mine.1,
      mine.2,
      All-weaker (KnowsMet d.ports d.tap d.holder s) (KnowsMet (d.ports + 1) d.tap holder s)
          (met_after_make d.ports d.tap (length front) d.holder s) met mine.3,
    )
    (λ j u other at'. others_make d.ports d.tap (length front) pass j d.holder s u mine.0 other (d.knows j u at')) in
    let new : F (length front) right = (
      omega arith,
      held_same d.ports (length front) d.holder made mine.1,
      sym
          (ap s.sent mine.1 ∙ (sym (law.each d.ports) ∙ none_of_port d.ports (s.taken ++ s.waiting) law.known)),
    ) in
    from_state items (front ++ right ∷ []) (d.ports + 1) d.tap holder d.events s refl
    (All-weaker (IsEventOf d.ports) (IsEventOf (d.ports + 1)) (more_ports d.ports) d.events d.legal) d.waits d.ends
    (λ j u at'. ⊎_elim (old j u) (λ (e : (j ≡ length front) × (right ≡ u)). subst (λ (y : ℕ × PassView). F y.0 y.1) (λ i. (sym e.0 i, e.1 i)) new)
    (at_end front right u j at'))

-- when the tap has also the list of a port, each other pass has the same knowledge
met_after_meet : (ports tap index : ℕ) (holder : ℕ → ℕ) (s : State) (p : Met) → KnowsMet ports tap holder s p
    → KnowsMet ports tap (held_by index tap holder) s p
met_after_meet ports tap index holder s p h = (
  h.0,
  ⊎_elim (λ (e : (eqb p.index index ≡ true) × (p.index ≡ index)). held_same index tap holder p.index e.1)
      (λ (e : (eqb p.index index ≡ false) × (p.index ≡ index → ⊥)). held_other index tap holder p.index e.1 ∙ h.1)
      (eqb_tells p.index index),
  h.2,
)

others_meet : (ports tap index pass other j : ℕ) (holder : ℕ → ℕ) (s : State) (u : PassView) → pass ≡ tap → holder index ≡ other → j ≢ pass → j ≢ other
    → Knows ports tap holder s j u → Knows ports tap (held_by index tap holder) s j u
others_meet ports tap index pass other j holder s (Sender i sent) is had apart else k =
    (k.0, held_other index tap holder i (λ e. else (sym k.1 ∙ (ap holder e ∙ had))) ∙ k.1, k.2)
others_meet ports tap index pass other j holder s (Receiver made taken met) is had apart else k = absurd (apart (k.0 ∙ sym is))
others_meet ports tap index pass other j holder s Spent is had apart else k = tt

-- a port is met: its list goes over to the tap
pub meets : (pass : ℕ) (v : PassView) (other index : ℕ) (w : PassView) → is_receiver v ≡ true → sender_of w ≡ Some index
    → Merges (λ items views. Delivers items views) pass v other w (with_met v w) Spent
meets pass (Sender i l) other index w is that items views d at apart at' = cc
meets pass Spent other index w is that items views d at apart at' = cc
meets pass (Receiver made taken met) other index (Receiver made' taken' met') is that items views d at apart at' = cc
meets pass (Receiver made taken met) other index Spent is that items views d at apart at' = cc
meets pass (Receiver made taken met) other index (Sender i sent) is that items views d at apart at' =
    let s : State = after_all d.events initial in
    let mine = d.knows pass (Receiver made taken met) at in
    let both : PassView = Receiver made taken (record { index = i; sent = sent } ∷ met) in
    let front : List PassView = set views pass both in
    let was : get_elem? views other ≡ some (Sender i sent) =
    ⊎_elim (λ (x : (other ≡ pass) × (both ≡ Sender i sent)). absurd (apart x.0))
    (λ (x : (other ≢ pass) × (get_elem? views other ≡ some (Sender i sent))). x.1) (at_set views pass other both (Sender i sent) at') in
    let theirs = d.knows other (Sender i sent) was in
    let holder : ℕ → ℕ = held_by i d.tap d.holder in
    let F : ℕ → PassView → Type 0 = Knows d.ports d.tap holder s in
    let joined : F pass both = (
      mine.0,
      mine.1,
      mine.2,
      All-cons (KnowsMet d.ports d.tap holder s) (record { index = i; sent = sent }) met (theirs.0, held_same i d.tap d.holder i refl, theirs.2)
          (All-weaker (KnowsMet d.ports d.tap d.holder s) (KnowsMet d.ports d.tap holder s) (met_after_meet d.ports d.tap i d.holder s) met mine.3),
    ) in
    let rest : Each (λ j u. j ≢ other → F j u) front = each_set (λ j u. j ≢ other → F j u) views pass both (λ _. joined)
    (λ j u away at'' else. others_meet d.ports d.tap i pass other j d.holder s u mine.0 theirs.1 away else (d.knows j u at'')) in
    from_state items (set front other Spent) d.ports d.tap holder d.events s refl d.legal d.waits d.ends
    (each_set F front other Spent tt (λ j u else at''. rest j u at'' else))
