-- The messages taken of an outlet, one after another.
use Rattle.std.proofs.Common.{◌≡◌, ℕ, ◌<◌, ◌⊎◌, ◌||◌, inl, inr, Bool, true, false, cond, eqb, Some, List, [], ◌∷◌, ◌++◌, length, replicate, map, slice_get, refl, sym, ap}
use Rattle.std.proofs.Common.{arith, ◌∙◌}
use Rattle.std.proofs.lemmas.Bool.Decides.{eqb_tells}
use Rattle.std.proofs.lemmas.Bool.{false≢true}
use Rattle.std.proofs.lemmas.Option.{get_or_from_slice_get, slice_get_within}
use Rattle.std.proofs.lemmas.List.{append-nil, get_or-replicate, length-replicate, map-append}
use Rattle.std.proofs.lemmas.List.Elements.{All-nil, All-push, filter-append}
use Rattle.std.proofs.lemmas.List.Folds.{list_any-append}
use Rattle.deliver_core.specs.declared.message.Message.{Message}
use Rattle.deliver_core.specs.declared.outlet.Outlet.{Outlet}
use Rattle.deliver_core.specs.Byes.{is_bye, has_bye}
use Rattle.deliver_core.specs.OutletCalls.{IsAfterTaking, IsFreshTap}
use Rattle.deliver_core.specs.Outlets.{of_port}
use Rattle.deliver_core.specs.Ports.{taken_by, port_count, IsTapOf}
use Rattle.deliver_core.specs.Scripts.{Content, content_of}
use Rattle.parallel_core.specs.declared.receiver.Receiver.{Receiver}
use Rattle.parallel_core.specs.Receivers.{ReceivesFrom, Continues}
use Rattle.parallel_core.specs.FusedCollectors.{HasTakenIn}

-- of a fresh tap nothing was taken
pub receives_nothing : (outlet : Outlet) (ports : ℕ) (g : Receiver) → IsFreshTap outlet ports g.tap → g.ended.items ≡ replicate ports false
    → HasTakenIn [] g.fused.collector g.fused.accepted → ReceivesFrom outlet g
receives_nothing outlet ports g fresh none empty = record {
  tap = fresh.belongs;
  known = rw fresh.idle (All-nil (λ (m : Message). m.port < port_count g.tap));
  ports = ap length none ∙ length-replicate ports false ∙ sym fresh.count;
  ended = λ port some.
      let all = replicate ports false in
      let there : slice_get all port ≡ Some true = ap (λ (l : List Bool). slice_get l port) (sym none) ∙ some in
      let inside = slice_get_within all port true there in
      let is = get_or_from_slice_get all port true false there in
      let not = get_or-replicate ports port false false (omega (arith, inside, length-replicate ports false)) in
      absurd (false≢true (sym not ∙ is));
  taken_in = rw fresh.idle empty;
}

pub continues_here : (outlet : Outlet) (g : Receiver) → ReceivesFrom outlet g → Continues outlet g g
continues_here outlet g h = record { receives = h; ports = refl; tasks = refl; final = λ port bye. refl }

pub continues_on : (outlet : Outlet) (a b c : Receiver) → Continues outlet a b → Continues outlet b c → Continues outlet a c
continues_on outlet a b c one two = record {
  receives = two.receives;
  ports = two.ports ∙ one.ports;
  tasks = two.tasks ∙ one.tasks;
  final = λ port bye. two.final port (ap has_bye (one.final port bye) ∙ bye) ∙ one.final port bye;
}

-- the same was taken
pub continues_same : (outlet : Outlet) (a b : Receiver) → ReceivesFrom outlet a → IsTapOf outlet b.tap → port_count b.tap ≡ port_count a.tap
    → taken_by b.tap ≡ taken_by a.tap → b.ended ≡ a.ended → b.fused ≡ a.fused → Continues outlet a b
continues_same outlet a b h own ports taken ended fused = record {
  receives = record {
    tap = own;
    known = rw (taken, ports) h.known;
    ports = ap (λ e. length e.items) ended ∙ h.ports ∙ sym ports;
    ended = λ port is. ap (λ ms. has_bye (of_port port ms)) taken ∙ h.ended port (ap (λ e. slice_get e.items port) (sym ended) ∙ is);
    taken_in = rw (taken, fused) h.taken_in;
  };
  ports = ports;
  tasks = ap (λ i. i.collector.tasks) fused;
  final = λ port bye. ap (of_port port) taken;
}

-- one more message was taken
more : (port : ℕ) (taken : List Message) (m : Message) → of_port port (taken ++ m ∷ []) ≡ of_port port taken ++ of_port port (m ∷ [])
more port taken m = filter-append (λ x. eqb x.port port) taken (m ∷ [])

pub bye_stays : (port : ℕ) (taken : List Message) (m : Message) → has_bye (of_port port taken) ≡ true → has_bye (of_port port (taken ++ m ∷ [])) ≡ true
bye_stays port taken m bye =
    ap has_bye (more port taken m) ∙ list_any-append is_bye (of_port port taken) (of_port port (m ∷ []))
    ∙ ap (λ (b : Bool). b || has_bye (of_port port (m ∷ []))) bye

or_true : (b : Bool) → (b || true) ≡ true
or_true true = refl
or_true false = refl

one_bye : (port : ℕ) (m : Message) → m.port ≡ port → is_bye m ≡ true → has_bye (of_port port (m ∷ [])) ≡ true
one_bye port m same bye =
    elim (eqb_tells m.port port) [
      | inl here ↦ ap (λ (b : Bool). has_bye (cond b (m ∷ []) [])) here.0 ∙ ap (λ (b : Bool). b || false) bye
      | inr other ↦ absurd (other.1 same)
    ]

bye_comes : (port : ℕ) (taken : List Message) (m : Message) → m.port ≡ port → is_bye m ≡ true → has_bye (of_port port (taken ++ m ∷ [])) ≡ true
bye_comes port taken m same bye =
    ap has_bye (more port taken m) ∙ list_any-append is_bye (of_port port taken) (of_port port (m ∷ []))
    ∙ ap (λ (b : Bool). has_bye (of_port port taken) || b) (one_bye port m same bye) ∙ or_true (has_bye (of_port port taken))

stays_final : (port : ℕ) (taken : List Message) (m : Message) → has_bye (of_port m.port taken) ≡ false → has_bye (of_port port taken) ≡ true
    → of_port port (taken ++ m ∷ []) ≡ of_port port taken
stays_final port taken m live bye =
    elim (eqb_tells m.port port) [
      | inl here ↦ let same = ap (λ p. has_bye (of_port p taken)) here.1 in cc
      | inr other ↦
          more port taken m
          ∙ ap (λ l. of_port port taken ++ l) (ap (λ (b : Bool). cond b (m ∷ []) []) other.0)
          ∙ append-nil (of_port port taken)
    ]

pub continues_with : (outlet : Outlet) (a b : Receiver) (m : Message) → ReceivesFrom outlet a → IsTapOf outlet b.tap → port_count b.tap ≡ port_count a.tap
    → IsAfterTaking a.tap b.tap m → length b.ended.items ≡ length a.ended.items
    → ((port : ℕ) → slice_get b.ended.items port ≡ Some true → (slice_get a.ended.items port ≡ Some true) ⊎ ((m.port ≡ port) × (is_bye m ≡ true)))
    → b.fused.collector.tasks ≡ a.fused.collector.tasks
    → ((contents : List Content) → HasTakenIn contents a.fused.collector a.fused.accepted
    → let next = content_of m ∷ [] in HasTakenIn (contents ++ next) b.fused.collector b.fused.accepted)
    → Continues outlet a b
continues_with outlet a b m h own ports after lengths noted tasks taken_in = record {
  receives = record {
    tap = own;
    known = rw (after.taken, ports) (All-push (λ (n : Message). n.port < port_count a.tap) (taken_by a.tap) m h.known after.known);
    ports = lengths ∙ h.ports ∙ sym ports;
    ended = λ port is. ap (λ ms. has_bye (of_port port ms)) after.taken
        ∙ (elim (noted port is) [
          | inl before ↦ bye_stays port (taken_by a.tap) m (h.ended port before)
          | inr now ↦ bye_comes port (taken_by a.tap) m now.0 now.1
        ]);
    taken_in = rw (after.taken, map-append content_of (taken_by a.tap) (m ∷ [])) (taken_in (map content_of (taken_by a.tap)) h.taken_in);
  };
  ports = ports;
  tasks = tasks;
  final = λ port bye. ap (of_port port) after.taken ∙ stays_final port (taken_by a.tap) m after.live bye;
}
