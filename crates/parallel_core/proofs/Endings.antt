-- How the workers of a plan end: by the messages received from them, given the law of owners.
use Rattle.std.proofs.Common.{◌≡◌, ℕ, ◌<◌, inl, inr, Bool, true, false, Option, Some, None, Result, Ok, Err, IfOk, IfErr, IsOk, List, ◌∷◌, ◌++◌, All}
use Rattle.std.proofs.Common.{length, map, refl, sym, ap, ◌∙◌, subst}
use Rattle.std.specs.Prelude.{IsPermutation, IsSorted, IsSomeAnd}
use Rattle.std.specs.List.{flat_map}
use Rattle.std.proofs.lemmas.List.Elements.{All-contains}
use Rattle.std.proofs.lemmas.List.Sorted.{IsPermutation-sym, IsPermutation-trans}
use Rattle.std.proofs.lemmas.Option.{none-some}
use Rattle.relation_core.specs.declared.relation.Relation.{Relation}
use Rattle.rtree_core.specs.declared.node.Node.{Node}
use Rattle.descent_core.specs.Rows.{IsRow}
use Rattle.deliver_core.specs.declared.faults.Refusal.{Refusal}
use Rattle.deliver_core.specs.declared.faults.Refusal.TheVariants as refusals
use Rattle.deliver_core.specs.declared.message.Message.{Message}
use Rattle.deliver_core.specs.Collectors.{Collection, Delivery, collected, refusal_of, RefusesNone}
use Rattle.pair_core.specs.Pairs.{pair_cmp}
use Rattle.deliver_core.specs.Marks.{IsLegalHistory, IsClosed, marks_of}
use Rattle.deliver_core.specs.Owners.{Owners, KeepsOwners, IsComplete, IsScript, owned_tasks, contents, collection}
use Rattle.deliver_core.specs.Scripts.{Content, Task, content_of}
use Rattle.parallel_core.specs.declared.fault.JoinFault.{JoinFault}
use Rattle.parallel_core.specs.declared.fault.JoinFault.TheVariants.{Memory}
use Rattle.parallel_core.specs.Deliveries.{IsDelivered}
use Rattle.parallel_core.specs.Faults.{fault_of, IsWant}
use Rattle.parallel_core.specs.FusedCollectors.{HasTakenIn}
use Rattle.parallel_core.specs.Workers.{IsRowIn}
use Rattle.parallel_core.proofs.Ownership.{AreOwners}
use Rattle.parallel_core.proofs.PlanOrder.{InOrder, in_order}

-- the clauses of the law of owners that are used here
pub record Law : Type 0 where
  pub accepted : (o : Owners) → KeepsOwners o → RefusesNone o.tasks (contents o)
  pub closed : (o : Owners) → KeepsOwners o → IsComplete o → IsClosed o.tasks (collection o).marks
  pub scripts : (o : Owners) → KeepsOwners o → IsComplete o → All (IsScript o) (owned_tasks o)
  pub pairs : (o : Owners) → KeepsOwners o → IsComplete o → 0 < o.size
      → IsPermutation (flat_map (λ (task : Task). task.1) (owned_tasks o)) (collection o).pairs

-- how a fused collector ends that holds this collection, given its first refusal
pub record Finishes (accepted : Result (Unit {0}) Refusal) (ok : Bool) (c : Collection) (result : Result Delivery JoinFault) : Type 0 where
  pub refused : IfErr accepted (λ refusal. result ≡ Err (fault_of refusal))
  pub want : IsOk accepted → ok ≡ false → result ≡ Err Memory
  pub closed : IsOk accepted → ok ≡ true → IsClosed c.tasks c.marks → IsOk result
  pub all : IfOk result (λ outcome. IsOk accepted × (ok ≡ true) × (outcome.marks ≡ c.marks) × IsLegalHistory c.tasks outcome.marks)
  pub pairs : IfOk result (λ outcome. IsSorted pair_cmp outcome.pairs × IsPermutation c.pairs outcome.pairs)

want_of : (refusal : Refusal) (result : Result Delivery JoinFault) → refusal ≡ refusals.Memory → result ≡ Err (fault_of refusal) → IfErr result IsWant
want_of refusal result is e =
    let same : Err (fault_of refusal) ≡ Err Memory = ap (λ (r : Refusal). Err (fault_of r)) is in
    subst (λ (r : Result Delivery JoinFault). IfErr r IsWant) (sym (e ∙ same)) tt

never_err : (result : Result Delivery JoinFault) → IsOk result → IfErr result IsWant
never_err (Ok outcome) is = tt
never_err (Err fault) is = cc

by_bool : {A : Type 0} (b : Bool) → (b ≡ true → A) → (b ≡ false → A) → A
by_bool true if_true if_false = if_true refl
by_bool false if_true if_false = if_false refl

both_ok : {T E : Type 0} {A B P : T → Type 0} (r : Result T E) → IfOk r A → IfOk r B → ((x : T) → A x → B x → P x) → IfOk r P
both_ok (Ok x) a b f = f x a b
both_ok (Err e) a b f = tt

all_taken : (said : List Content) (c : Collection) (accepted : Result (Unit {0}) Refusal) → IsOk accepted → HasTakenIn said c accepted
    → c ≡ collected c.tasks said
all_taken said c (Ok unit) is h = h
all_taken said c (Err refusal) is h = cc

module _ (relation : Relation) (plan : List (Node × Node)) (size tasks : ℕ) (ok : Bool) (messages : List Message) (c : Collection) (law : Law)
    (owners : AreOwners relation plan size tasks ok messages) (same_tasks : c.tasks ≡ tasks) where
  -- the collector's own number of tasks
  holds : (said : List Content) → c ≡ collected c.tasks said → c ≡ collected tasks said
  holds said is = is ∙ ap (λ n. collected n said) same_tasks

  no_refusal : (before behind : List Content) (message : Content) (refusal : Refusal) → before ++ message ∷ behind ≡ map content_of messages
      → c ≡ collected c.tasks before → refusal_of c message ≡ Some refusal → ⊥
  no_refusal before behind message refusal parts is why =
      let accepted : refusal_of (collected tasks before) message ≡ None = law.accepted
      (record { tasks = tasks; size = size; owned = owners.owned; messages = messages }) owners.keeps before behind message parts in
      none-some refusal (sym accepted ∙ ap (λ d. refusal_of d message) (sym (holds before is)) ∙ why)

  pub only_want : (accepted : Result (Unit {0}) Refusal) (result : Result Delivery JoinFault) → HasTakenIn (map content_of messages) c accepted
      → Finishes accepted ok c result → IfErr result IsWant
  only_want (Err refusal) result stops ends =
      elim stops.why [
        | inl memory ↦ want_of refusal result memory ends.refused
        | inr why ↦ absurd (no_refusal stops.before stops.behind stops.message refusal stops.parts stops.holds why)
      ]
  only_want (Ok unit) result is ends =
      let closes : ok ≡ true → IfErr result IsWant = λ good.
      let marks = law.closed (record { tasks = tasks; size = size; owned = owners.owned; messages = messages }) owners.keeps (owners.complete good) in
      let here : IsClosed c.tasks c.marks =
      subst (λ (n : ℕ). IsClosed n c.marks) (sym same_tasks)
      (subst (IsClosed tasks) (ap (λ (d : Collection). d.marks) (sym (holds (map content_of messages) is))) marks) in
      never_err result (ends.closed refl good here) in
      let wants : ok ≡ false → IfErr result IsWant = λ bad.
      subst (λ (r : Result Delivery JoinFault). IfErr r IsWant) (sym (ends.want refl bad)) tt in
      by_bool ok closes wants

  module _ (whole_plan : tasks ≡ length plan) (some : 0 < size) where
    is_delivered : (outcome : Delivery) → c ≡ collected c.tasks (map content_of messages) → ok ≡ true → outcome.marks ≡ c.marks
        → IsLegalHistory c.tasks outcome.marks → IsSorted pair_cmp outcome.pairs → IsPermutation c.pairs outcome.pairs → IsDelivered relation plan size outcome
    is_delivered outcome is good marks history sorted pairs =
        let o : Owners = record { tasks = tasks; size = size; owned = owners.owned; messages = messages } in
        let complete : IsComplete o = owners.complete good in
        let order : InOrder tasks (owned_tasks o) = in_order tasks (owned_tasks o) complete.all in
        let said : c ≡ collection o = holds (map content_of messages) is in
        let same_marks : outcome.marks ≡ (collection o).marks = marks ∙ ap (λ (d : Collection). d.marks) said in
        record {
          rows = order.rows;
          are_rows = record {
            as_many = order.as_many ∙ whole_plan;
            each = λ k task row is_task is_row.
                let in_plan : IsRowIn relation plan (k, row) = All-contains (IsRowIn relation plan) (owned_tasks o) (k, row) owners.each
                (order.found k row is_row) in
                subst (λ (t : Option (Node × Node)). IsSomeAnd t (λ u. IsRow relation u row)) is_task in_plan;
          };
          history = subst (λ (n : ℕ). IsLegalHistory n outcome.marks) (same_tasks ∙ whole_plan) history;
          closed = subst (λ (n : ℕ). IsClosed n outcome.marks) whole_plan (subst (IsClosed tasks) (sym same_marks) (law.closed o owners.keeps complete));
          marks = λ k row is_row.
              let script = All-contains (IsScript o) (owned_tasks o) (k, row) (law.scripts o owners.keeps complete) (order.found k row is_row) in
              ap (marks_of k) same_marks ∙ script.1;
          pairs = IsPermutation-trans _ (collection o).pairs _
              (IsPermutation-trans _ (flat_map (λ (task : Task). task.1) (owned_tasks o)) _ (IsPermutation-sym _ _ order.same)
              (law.pairs o owners.keeps complete some))
              (subst (λ (d : Collection). IsPermutation d.pairs outcome.pairs) said pairs);
          ascending = sorted;
        }

    pub delivered : (accepted : Result (Unit {0}) Refusal) (result : Result Delivery JoinFault) → HasTakenIn (map content_of messages) c accepted
        → Finishes accepted ok c result → IfOk result (IsDelivered relation plan size)
    delivered accepted result is ends =
        both_ok {P = IsDelivered relation plan size} result ends.all ends.pairs (λ outcome all pairs.
        is_delivered outcome (all_taken (map content_of messages) c accepted all.0 is) all.1 all.2 all.3 pairs.0 pairs.1)
