-- A collector refuses exactly the messages that would break its history.
use Rattle.std.proofs.Common.{◌≡◌, ℕ, zero, suc, ◌+◌, ◌<◌, ◌≤◌, ◌⊎◌, Bool, true, false, cond, not, count_by, List, [], ◌∷◌, ◌++◌, length, take, None, Result}
use Rattle.std.proofs.Common.{Ok, Err, refl, sym, ap, ◌∙◌, subst, inl, inr, arith, add-one, length-append}
use Rattle.std.specs.List.{list_any}
use Rattle.std.proofs.Math.Seq.{take-append_seam}
use Rattle.std.proofs.lemmas.Bool.Decides.{nat_tests, eqb_tells, leb_tells}
use Rattle.std.proofs.lemmas.List.{append-nil, same_from_push, take_all, take-append-le}
use Rattle.std.proofs.lemmas.List.Elements.{All-push, All-contains, Contains-push}
use Rattle.std.proofs.lemmas.List.FromFn.{length-map-range_with_len, take-map-range_with_len}
use mathlib.Core.List.{IsPrefix}
use Rattle.deliver_core.specs.declared.mark.Mark.{Mark}
use Rattle.deliver_core.specs.declared.mark.Mark.TheVariants.{Batch, End}
use Rattle.deliver_core.specs.declared.collector.Progress.{Progress}
use Rattle.deliver_core.specs.declared.faults.Refusal.{Refusal}
use Rattle.deliver_core.specs.Collectors.{Collection, awaited, batch_refusal, end_refusal, refusal_of, accept, RefusesIllegal}
use Rattle.deliver_core.specs.Marks.{task_of, is_end, marks_of, batch_count, has_end, batch_marks, script_marks, IsLegalHistory}
use Rattle.deliver_core.specs.Progress.{told}
use Rattle.deliver_core.specs.Scripts.{Content, batch_of, end_of, bye}
use Rattle.deliver_core.proofs.Histories.{list_any-told, count_by-told, told-prefix, told-batch, told-end, marks_of-push_same, marks_of-push_other}
use Rattle.deliver_core.proofs.Histories.{batch_marks-more, list_any-batch_marks, count_by-batch_marks, awaited-Ok, Ok-awaited}

-- a prefix of a script's marks is represented by some counter
counter_from_prefix : (task count : ℕ) (front : List Mark) → IsPrefix front (script_marks task count) → (p : Progress) × (front ≡ told task p)
counter_from_prefix task count front prefix =
    let whole : front ++ prefix.0 ≡ script_marks task count = prefix.1 in
    let long : length (batch_marks task count) ≡ count = length-map-range_with_len (λ number. Batch task number) 0 count in
    let front_is : front ≡ take (length front) (script_marks task count) = sym (take-append_seam front prefix.0) ∙ ap (take (length front)) whole in
    elim (leb_tells (length front) count) [
      | inl short ↦
          let within : length front ≤ length (batch_marks task count) = omega arith in (
            record { next = length front; ended = false },
            front_is ∙ take-append-le (length front) (batch_marks task count) (End task count ∷ []) within
                ∙ take-map-range_with_len (λ number. Batch task number) 0 count (length front) short.1 ∙ sym (append-nil (batch_marks task (length front))),
          )
      | inr full ↦
          let within : length (script_marks task count) ≤ length front = omega (arith, length-append (batch_marks task count) (End task count ∷ [])) in
          (record { next = count; ended = true }, front_is ∙ take_all (length front) (script_marks task count) within)
    ]

-- one more mark keeps a history legal if some counter represents its task's marks
IsLegalHistory-push : (tasks : ℕ) (marks : List Mark) → IsLegalHistory tasks marks → (mark : Mark) → task_of mark < tasks → (p : Progress)
    → marks_of (task_of mark) (marks ++ mark ∷ []) ≡ told (task_of mark) p → IsLegalHistory tasks (marks ++ mark ∷ [])
IsLegalHistory-push tasks marks legal mark known p tells = record {
  known = All-push (λ m. task_of m < tasks) marks mark legal.known known;
  in_turn = λ task inside.
      elim (eqb_tells task (task_of mark)) [
        | inl here ↦
            let Turn : ℕ → Type 0 = λ t. (count : ℕ) × IsPrefix (marks_of t (marks ++ mark ∷ [])) (script_marks t count) in
            subst Turn (sym here.1) (p.next, subst (λ front. IsPrefix front (script_marks (task_of mark) p.next)) (sym tells) (told-prefix (task_of mark) p))
        | inr there ↦
            let old = legal.in_turn task inside in
            (old.0, subst (λ front. IsPrefix front (script_marks task old.0)) (sym (marks_of-push_other task marks mark (λ same. there.1 (sym same)))) old.1)
      ];
}

module _ (c : Collection) (legal : IsLegalHistory c.tasks c.marks) (task next : ℕ) (taking : Ok next ≡ awaited c task) where
  counter : (p : Progress) × (marks_of task c.marks ≡ told task p)
  counter =
      let prefix = legal.in_turn task (awaited-Ok c task next taking).0 in
      counter_from_prefix task prefix.0 (marks_of task c.marks) prefix.1

  going : counter.0.ended ≡ false
  going = sym (list_any-told task counter.0) ∙ ap (list_any is_end) (sym counter.1) ∙ (awaited-Ok c task next taking).1

  counted : counter.0.next ≡ next
  counted = sym (count_by-told task counter.0) ∙ ap (count_by (λ mark. not (is_end mark))) (sym counter.1) ∙ (awaited-Ok c task next taking).2

  legal-batch : IsLegalHistory c.tasks (c.marks ++ Batch task next ∷ [])
  legal-batch =
      let p = counter.0 in
      IsLegalHistory-push c.tasks c.marks legal (Batch task next) (awaited-Ok c task next taking).0 (record { next = p.next + 1; ended = p.ended })
      (marks_of-push_same task c.marks (Batch task next) refl ∙ ap (λ front. front ++ Batch task next ∷ []) counter.1
      ∙ ap (λ n. told task p ++ Batch task n ∷ []) (sym counted) ∙ sym (told-batch task p going))

  legal-end : IsLegalHistory c.tasks (c.marks ++ End task next ∷ [])
  legal-end =
      let p = counter.0 in
      IsLegalHistory-push c.tasks c.marks legal (End task next) (awaited-Ok c task next taking).0 (record { next = p.next; ended = true })
      (marks_of-push_same task c.marks (End task next) refl ∙ ap (λ front. front ++ End task next ∷ []) counter.1
      ∙ ap (λ n. told task p ++ End task n ∷ []) (sym counted) ∙ sym (told-end task p going))

-- the last mark that a counter represents
last_told : (task next : ℕ) (ended : Bool) (front : List Mark) (mark : Mark)
    → front ++ mark ∷ [] ≡ batch_marks task next ++ cond ended (End task next ∷ []) []
    → (count : ℕ) × (front ≡ batch_marks task count) × ((mark ≡ Batch task count) ⊎ (mark ≡ End task count))
last_told task next true front mark e =
    let same = same_from_push front (batch_marks task next) mark (End task next) e in
    (next, same.0, inr same.1)
last_told task zero false front mark e = absurd (omega (arith, ap length e, length-append front (mark ∷ [])))
last_told task (suc count) false front mark e =
    let split : front ++ mark ∷ [] ≡ batch_marks task count ++ Batch task count ∷ [] =
    e ∙ append-nil (batch_marks task (suc count)) ∙ ap (batch_marks task) (sym (add-one count)) ∙ batch_marks-more task count in
    let same = same_from_push front (batch_marks task count) mark (Batch task count) split in
    (count, same.0, inl same.1)

-- a mark with which the marks of its task are a prefix of a script's is the one that is awaited
taking_from_prefix : (c : Collection) (mark : Mark) → task_of mark < c.tasks → (count : ℕ)
    → IsPrefix (marks_of (task_of mark) (c.marks ++ mark ∷ [])) (script_marks (task_of mark) count)
    → (next : ℕ) × (Ok next ≡ awaited c (task_of mark)) × ((mark ≡ Batch (task_of mark) next) ⊎ (mark ≡ End (task_of mark) next))
taking_from_prefix c mark inside count prefix =
    let task = task_of mark in
    let p = counter_from_prefix task count (marks_of task (c.marks ++ mark ∷ [])) prefix in
    let found = last_told task p.0.next p.0.ended (marks_of task c.marks) mark (sym (marks_of-push_same task c.marks mark refl) ∙ p.1) in
    let no_end : has_end task c.marks ≡ false = ap (list_any is_end) found.1 ∙ list_any-batch_marks task 0 found.0 in
    let batches : batch_count task c.marks ≡ found.0 = ap (count_by (λ m. not (is_end m))) found.1 ∙ count_by-batch_marks task found.0 in
    (found.0, Ok-awaited c task found.0 inside no_end batches, found.2)

-- the refusals of one batch and of one end
batch_refusal-None : (answer : Result ℕ Refusal) (number : ℕ) → batch_refusal answer number ≡ None → Ok number ≡ answer
batch_refusal-None (Err refusal) number e = absurd (cc e)
batch_refusal-None (Ok next) number e = ap (λ n. Ok n) (grind (arith, nat_tests))

batch_refusal-same : (next : ℕ) → batch_refusal (Ok next) next ≡ None
batch_refusal-same next = grind (arith, nat_tests)

end_refusal-None : (answer : Result ℕ Refusal) (count : ℕ) → end_refusal answer count ≡ None → Ok count ≡ answer
end_refusal-None (Err refusal) count e = absurd (cc e)
end_refusal-None (Ok next) count e = ap (λ n. Ok n) (grind (arith, nat_tests))

end_refusal-same : (next : ℕ) → end_refusal (Ok next) next ≡ None
end_refusal-same next = grind (arith, nat_tests)

legal_from_None : (c : Collection) (content : Content) → IsLegalHistory c.tasks c.marks → refusal_of c content ≡ None
    → IsLegalHistory c.tasks (accept c content).marks
legal_from_None c (batch_of task number pairs) legal none = legal-batch c legal task number (batch_refusal-None (awaited c task) number none)
legal_from_None c (end_of task count) legal none = legal-end c legal task count (end_refusal-None (awaited c task) count none)
legal_from_None c (bye ok) legal none = subst (IsLegalHistory c.tasks) (sym (append-nil c.marks)) legal

-- the next mark of a script is not refused
pub batch-None : (c : Collection) (task number : ℕ) (pairs : List (ℕ × ℕ)) → task < c.tasks → (count : ℕ)
    → IsPrefix (marks_of task (c.marks ++ Batch task number ∷ [])) (script_marks task count) → refusal_of c (batch_of task number pairs) ≡ None
batch-None c task number pairs inside count prefix =
    let found = taking_from_prefix c (Batch task number) inside count prefix in
    elim found.2 [
      | inl batch ↦
          let same : number ≡ found.0 = cc batch in
          ap (λ answer. batch_refusal answer number) (sym found.1) ∙ ap (batch_refusal (Ok found.0)) same ∙ batch_refusal-same found.0
      | inr wrong ↦ absurd (cc wrong)
    ]

pub end-None : (c : Collection) (task ended : ℕ) → task < c.tasks → (count : ℕ)
    → IsPrefix (marks_of task (c.marks ++ End task ended ∷ [])) (script_marks task count) → refusal_of c (end_of task ended) ≡ None
end-None c task ended inside count prefix =
    let found = taking_from_prefix c (End task ended) inside count prefix in
    elim found.2 [
      | inl wrong ↦ absurd (cc wrong)
      | inr last ↦
          let same : ended ≡ found.0 = cc last in
          ap (λ answer. end_refusal answer ended) (sym found.1) ∙ ap (end_refusal (Ok found.0)) same ∙ end_refusal-same found.0
    ]

None_from_legal : (c : Collection) (content : Content) → IsLegalHistory c.tasks (accept c content).marks → refusal_of c content ≡ None
None_from_legal c (batch_of task number pairs) legal =
    let inside : task < c.tasks = All-contains (λ m. task_of m < c.tasks) (c.marks ++ Batch task number ∷ []) (Batch task number) legal.known
    (Contains-push c.marks (Batch task number)) in
    let turn = legal.in_turn task inside in
    batch-None c task number pairs inside turn.0 turn.1
None_from_legal c (end_of task count) legal =
    let inside : task < c.tasks = All-contains (λ m. task_of m < c.tasks) (c.marks ++ End task count ∷ []) (End task count) legal.known
    (Contains-push c.marks (End task count)) in
    let turn = legal.in_turn task inside in
    end-None c task count inside turn.0 turn.1
None_from_legal c (bye ok) legal = refl

pub refuses_illegal : RefusesIllegal
refuses_illegal c content legal = (legal_from_None c content legal, None_from_legal c content)

-- a task with its end has all marks of a script
pub marks_of-ended : (tasks : ℕ) (marks : List Mark) → IsLegalHistory tasks marks → (task : ℕ) → task < tasks → has_end task marks ≡ true
    → marks_of task marks ≡ script_marks task (batch_count task marks)
marks_of-ended tasks marks legal task inside ended =
    let turn = legal.in_turn task inside in
    let p = counter_from_prefix task turn.0 (marks_of task marks) turn.1 in
    let over : p.0.ended ≡ true = sym (list_any-told task p.0) ∙ ap (list_any is_end) (sym p.1) ∙ ended in
    let batches : p.0.next ≡ batch_count task marks = sym (count_by-told task p.0) ∙ ap (count_by (λ mark. not (is_end mark))) (sym p.1) in
    p.1 ∙ ap (λ e. batch_marks task p.0.next ++ cond e (End task p.0.next ∷ []) []) over ∙ ap (script_marks task) batches
