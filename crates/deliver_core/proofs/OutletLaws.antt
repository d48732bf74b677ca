-- Each event preserves the law of an outlet.
use Rattle.std.proofs.Common.{◌≡◌, ℕ, ◌<◌, true, false, eqb, List, [], ◌∷◌, ◌++◌, All, sym, refl, ap, ◌∙◌, subst, ⊎_elim, append_assoc, eq-eqb, ne_eqb}
use Rattle.std.proofs.lemmas.Bool.Decides.{eqb_tells}
use Rattle.std.proofs.lemmas.List.{append-nil}
use Rattle.std.proofs.lemmas.List.Elements.{All-nil, All-head, All-tail, All-push, All-same, filter-append}
use Rattle.deliver_core.specs.declared.message.Message.{Message}
use Rattle.deliver_core.specs.Outlets.{State, Event, Put, Take, IsEventOf, initial, after_put, after_take, after, after_all, of_port, IsLawful, OutletLaw}

-- a message joins the messages of its port, and of no other
pub of_port-same : (port : ℕ) (ms : List Message) (m : Message) → m.port ≡ port → of_port port (ms ++ m ∷ []) ≡ of_port port ms ++ m ∷ []
of_port-same port ms m is = filter-append (λ (n : Message). eqb n.port port) ms (m ∷ []) ∙ (rw (eq-eqb m.port port is) refl)

pub of_port-other : (port : ℕ) (ms : List Message) (m : Message) → (m.port ≡ port → ⊥) → of_port port (ms ++ m ∷ []) ≡ of_port port ms
of_port-other port ms m other = filter-append (λ (n : Message). eqb n.port port) ms (m ∷ []) ∙ (rw (ne_eqb m.port port other) (append-nil (of_port port ms)))

-- at first, after a put, after a take, and so after each event and after all
lawful_initial : (ports : ℕ) → IsLawful ports initial
lawful_initial ports = record { each = λ port. refl; known = All-nil (λ (m : Message). m.port < ports) }

lawful_put : (ports port : ℕ) (m : Message) (s : State) → port < ports → m.port ≡ port → IsLawful ports s → IsLawful ports (after_put port m s)
lawful_put ports port m s below is law =
    let regroup : s.taken ++ (s.waiting ++ m ∷ []) ≡ (s.taken ++ s.waiting) ++ m ∷ [] = sym (append_assoc s.taken s.waiting (m ∷ [])) in
    record {
      each = λ p. ap (of_port p) regroup ∙ ⊎_elim
          (λ (same : (eqb p port ≡ true) × (p ≡ port)). of_port-same p (s.taken ++ s.waiting) m (is ∙ sym same.1)
          ∙ (ap (λ l. l ++ m ∷ []) (law.each p) ∙ (rw same.0 refl)))
          (λ (other : (eqb p port ≡ false) × (p ≡ port → ⊥)). of_port-other p (s.taken ++ s.waiting) m (λ e. other.1 (sym e ∙ is))
          ∙ (law.each p ∙ (rw other.0 refl)))
          (eqb_tells p port);
      known = All-same (λ (n : Message). n.port < ports) _ _ regroup
          (All-push (λ (n : Message). n.port < ports) (s.taken ++ s.waiting) m law.known (subst (λ (p : ℕ). p < ports) (sym is) below));
    }

lawful_take : (ports : ℕ) (waiting : List Message) (s : State) → s.waiting ≡ waiting → IsLawful ports s → IsLawful ports (after_take waiting s)
lawful_take ports [] s is law = law
lawful_take ports (front ∷ rest) s is law =
    let regroup : (s.taken ++ front ∷ []) ++ rest ≡ s.taken ++ s.waiting = append_assoc s.taken (front ∷ []) rest ∙ ap (λ l. s.taken ++ l) (sym is) in
    record {
      each = λ p. ap (of_port p) regroup ∙ law.each p;
      known = All-same (λ (n : Message). n.port < ports) _ _ regroup law.known;
    }

lawful_after : (ports : ℕ) (event : Event) (s : State) → IsEventOf ports event → IsLawful ports s → IsLawful ports (after event s)
lawful_after ports (Put port m) s legal law = lawful_put ports port m s legal.0 legal.1 law
lawful_after ports Take s legal law = lawful_take ports s.waiting s refl law

lawful_all : (ports : ℕ) (events : List Event) (s : State) → All (IsEventOf ports) events → IsLawful ports s → IsLawful ports (after_all events s)
lawful_all ports [] s legal law = law
lawful_all ports (event ∷ events) s legal law =
    lawful_all ports events (after event s) (All-tail (IsEventOf ports) event events legal)
    (lawful_after ports event s (All-head (IsEventOf ports) event events legal) law)

pub lawful : OutletLaw
lawful ports events legal = lawful_all ports events initial legal (lawful_initial ports)

-- the last event comes last
pub after_all-snoc : (events : List Event) (event : Event) (s : State) → after_all (events ++ event ∷ []) s ≡ after event (after_all events s)
after_all-snoc [] event s = refl
after_all-snoc (first ∷ events) event s = after_all-snoc events event (after first s)
