-- The only worker of a join, which offers its messages to the collector itself.
use Rattle.std.proofs.Common.{◌≡◌, ℕ, zero, suc, ◌+◌, ◌<◌, true, Some, None, Result, IfOk, IfErr, List, [], ◌∷◌, ◌++◌, All, length, map, slice_get, refl, sym}
use Rattle.std.proofs.Common.{ap, ◌∙◌, subst, arith, append_assoc, append-nil, cond, eqb}
use Rattle.std.proofs.lemmas.Bool.Decides.{nat_tests}
use Rattle.std.proofs.lemmas.List.{map-append}
use Rattle.std.proofs.lemmas.List.Elements.{All-nil, All-append, All-push, All-tail, All-weaker}
use Rattle.std.proofs.lemmas.Option.{same_Some, none-some}
use Rattle.relation_core.specs.declared.relation.Relation.{Relation}
use Rattle.rtree_core.specs.declared.node.Node.{Node}
use Rattle.deliver_core.specs.declared.message.Message.{Message}
use Rattle.deliver_core.specs.Collectors.{Delivery}
use Rattle.deliver_core.specs.Draws.{AreNumbersBelow, times, once_below}
use Rattle.deliver_core.specs.Outlets.{of_port}
use Rattle.deliver_core.specs.Owners.{IsPart, IsWhole}
use Rattle.deliver_core.specs.Scripts.{Content, Task, content_of, scripts_of, batch_of, end_of, batches_for, piece_of, script_batches, script}
use Rattle.deliver_core.proofs.BoardTallies.{times_push, once_below_more}
use Rattle.parallel_core.specs.declared.fault.JoinFault.{JoinFault}
use Rattle.parallel_core.specs.declared.fused_collector.FusedCollector.{FusedCollector}
use Rattle.parallel_core.specs.Offers.{Offers, HasOffered}
use Rattle.parallel_core.specs.Deliveries.{IsDelivered}
use Rattle.parallel_core.specs.Faults.{IsWant}
use Rattle.parallel_core.specs.FusedCollectors.{HasTakenIn}
use Rattle.parallel_core.specs.Workers.{IsRowIn}
use Rattle.parallel_core.proofs.Endings.{Law, Finishes, only_want, delivered}
use Rattle.parallel_core.proofs.Ownership.{AreOwners}
use Rattle.parallel_core.proofs.Scripts.{script_batches-more}
use Rattle.parallel_core.proofs.Workers.{no_scripts, one_script, join_scripts}

-- ---- what is offered

abbrev IsOwn : Message → Type 0
IsOwn m = m.port ≡ 0

pub offers_nothing : (fused : FusedCollector) → Offers [] fused fused
offers_nothing fused = record {
  messages = [];
  own = All-nil IsOwn;
  contents_are = refl;
  tasks = refl;
  taken_in = λ before held. subst (λ (l : List Content). HasTakenIn l fused.collector fused.accepted) (sym (append-nil before)) held;
}

pub offers_one : (old new : FusedCollector) (message : Message) → message.port ≡ 0 → new.collector.tasks ≡ old.collector.tasks
    → ((contents : List Content) → HasTakenIn contents old.collector old.accepted → HasTakenIn (contents ++ content_of message ∷ []) new.collector new.accepted)
    → Offers (content_of message ∷ []) old new
offers_one old new message own tasks more = record {
  messages = message ∷ [];
  own = All-push IsOwn [] message (All-nil IsOwn) own;
  contents_are = refl;
  tasks = tasks;
  taken_in = more;
}

offers_more : (a b c : FusedCollector) (first second : List Content) → Offers first a b → Offers second b c → Offers (first ++ second) a c
offers_more a b c first second one two = record {
  messages = one.messages ++ two.messages;
  own = All-append IsOwn one.messages two.messages one.own two.own;
  contents_are = map-append content_of one.messages two.messages ∙ ap (λ l. l ++ map content_of two.messages) one.contents_are ∙ ap (λ l. first ++ l) two.contents_are;
  tasks = two.tasks ∙ one.tasks;
  taken_in = λ before held. subst (λ (l : List Content). HasTakenIn l c.collector c.accepted) (append_assoc before first second)
      (two.taken_in (before ++ first) (one.taken_in before held));
}

pub offers_batch : (a b c : FusedCollector) (task size : ℕ) (row : List (ℕ × ℕ)) (number : ℕ) (piece : List (ℕ × ℕ)) → piece ≡ piece_of size row number
    → Offers (script_batches task size row number) a b → Offers (batch_of task number piece ∷ []) b c → Offers (script_batches task size row (number + 1)) a c
offers_batch a b c task size row number piece is so_far next =
    subst (λ (l : List Content). Offers l a c)
    (ap (λ p. script_batches task size row number ++ batch_of task number p ∷ []) is ∙ script_batches-more task size row number)
    (offers_more a b c _ _ so_far next)

pub offers_script : (a b c : FusedCollector) (task size : ℕ) (row : List (ℕ × ℕ)) (number : ℕ) → number ≡ batches_for size row
    → Offers (script_batches task size row number) a b → Offers (end_of task number ∷ []) b c → Offers (script task size row) a c
offers_script a b c task size row number all so_far next =
    subst (λ (l : List Content). Offers l a c) (ap (λ n. script_batches task size row n ++ end_of task n ∷ []) all) (offers_more a b c _ _ so_far next)

-- ---- one task after another

none_below : (x : ℕ) → times x [] ≡ once_below 0 x
none_below x = grind (arith, nat_tests)

module _ (relation : Relation) (plan : List (Node × Node)) (size : ℕ) where
  pub none_offered : (fused : FusedCollector) → HasTakenIn [] fused.collector fused.accepted → HasOffered relation plan size 0 fused
  none_offered fused held = record {
    numbers = [];
    numbers_are = none_below;
    messages = [];
    own = All-nil IsOwn;
    scripts = no_scripts relation plan size;
    taken_in = held;
  }

  pub more_offered : (old new : FusedCollector) (task : ℕ) (row : List (ℕ × ℕ)) → HasOffered relation plan size task old → IsRowIn relation plan (task, row)
      → Offers (script task size row) old new → HasOffered relation plan size (task + 1) new
  more_offered old new task row before is next =
      let contents : map content_of (before.messages ++ next.messages) ≡ map content_of before.messages ++ script task size row =
      map-append content_of before.messages next.messages ∙ ap (λ l. map content_of before.messages ++ l) next.contents_are in
      record {
        numbers = before.numbers ++ task ∷ [];
        numbers_are = λ x. times_push x before.numbers task ∙ ap (λ n. n + cond {A = ℕ} (eqb task x) 1 0) (before.numbers_are x) ∙ sym (once_below_more task x);
        messages = before.messages ++ next.messages;
        own = All-append IsOwn before.messages next.messages before.own next.own;
        scripts = rw contents (join_scripts relation plan size before.numbers (task ∷ []) (map content_of before.messages) (script task size row)
            before.scripts (one_script relation plan size task row is));
        taken_in = rw contents (next.taken_in (map content_of before.messages) before.taken_in);
      }

  -- ---- all tasks

  of_port_0 : (messages : List Message) → All IsOwn messages → of_port 0 messages ≡ messages
  of_port_0 [] own = refl
  of_port_0 (m ∷ ms) own =
      let first : m.port ≡ 0 = own 0 m (omega arith) in
      let rest = of_port_0 ms (All-tail IsOwn m ms own) in
      rw (first, rest) refl

  owner : (fused : FusedCollector) (tasks : ℕ) (offered : HasOffered relation plan size tasks fused) → AreOwners relation plan size tasks true offered.messages
  owner fused tasks offered =
      let rows = offered.scripts.rows in
      let none_else : rows ++ [] ≡ rows = append-nil rows in
      let said : map content_of (of_port 0 offered.messages) ≡ scripts_of size rows =
      ap (map content_of) (of_port_0 offered.messages offered.own) ∙ offered.scripts.scripts in
      let all : AreNumbersBelow tasks (map (λ (t : Task). t.0) (rows ++ [])) =
      (λ x. ap (λ (ts : List Task). times x (map (λ (t : Task). t.0) ts)) none_else ∙ ap (times x) offered.scripts.numbers_are ∙ offered.numbers_are x) in
      record {
        owned = rows ∷ [];
        each = subst (All (IsRowIn relation plan)) (sym none_else) offered.scripts.each;
        keeps = record {
          once = λ x. omega (arith, all x);
          known = All-weaker IsOwn (λ m. m.port < 1) (λ m own. omega (arith, own)) offered.messages offered.own;
          parts = by_first (λ tasks' said'. IsPart size tasks' said') rows offered.messages
              (record { before = map content_of (of_port 0 offered.messages); last = None; said_is = sym (append-nil _); begins = ([], append-nil _ ∙ said) });
        };
        complete = λ is. record {
          all = all;
          parts = by_first (λ tasks' said'. IsWhole size tasks' said') rows offered.messages (record { last = None; said_is = said ∙ sym (append-nil _) });
        };
      }
    where
      by_first : (P : List Task → List Content → Type 0) (rows : List Task) (messages : List Message) → P rows (map content_of (of_port 0 messages))
          → (port : ℕ) (tasks : List Task) → slice_get (rows ∷ []) port ≡ Some tasks → P tasks (map content_of (of_port port messages))
      by_first P rows messages here zero tasks is = subst (λ (ts : List Task). P ts (map content_of (of_port 0 messages))) (same_Some _ _ is) here
      by_first P rows messages here (suc port) tasks is = absurd (none-some _ is)

  pub all_offered : (fused : FusedCollector) (result : Result Delivery JoinFault) → 0 < size → fused.collector.tasks ≡ length plan
      → HasOffered relation plan size (length plan) fused → Law → Finishes fused.accepted true fused.collector result
      → IfOk result (IsDelivered relation plan size) × IfErr result IsWant
  all_offered fused result some tasks offered law ends =
      let owners = owner fused (length plan) offered in (
        delivered relation plan size (length plan) true offered.messages fused.collector law owners tasks refl some fused.accepted result offered.taken_in ends,
        only_want relation plan size (length plan) true offered.messages fused.collector law owners tasks fused.accepted result offered.taken_in ends,
      )
