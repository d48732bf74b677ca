-- How a collector's counters represent its history, and how one more mark changes it.
use Rattle.std.proofs.Common.{◌≡◌, ◌≢◌, ℕ, zero, suc, ◌+◌, ◌<◌, ◌≤◌, Bool, true, false, not, cond, eqb, leb, List, [], ◌∷◌, ◌++◌, map, length, get_or, set}
use Rattle.std.proofs.Common.{get_or-set_same, get_or-set_other, length-set, subst, inl, inr, count_by, All, Result, Ok, Err, refl, sym, ap, ◌∙◌, arith}
use Rattle.std.proofs.Common.{add-one, append_assoc}
use Rattle.std.specs.List.{AllWithin, HoldsAt, list_any, range_with_len}
use Rattle.std.proofs.lemmas.Bool.{ne_eqb}
use Rattle.std.proofs.lemmas.Bool.Decides.{nat_tests, eqb_tells}
use Rattle.std.proofs.lemmas.List.{append-nil}
use Rattle.std.proofs.lemmas.List.Elements.{All-push, filter-append}
use Rattle.std.proofs.lemmas.List.Folds.{list_any-append}
use Rattle.std.proofs.lemmas.List.FromFn.{map-range_with_len_more, sum_by-map-range_with_len_more}
use Rattle.std.proofs.lemmas.List.Sums.{count_by-le-length, length-filter, sum_by-append}
use mathlib.Core.List.{IsPrefix}
use Rattle.deliver_core.specs.declared.mark.Mark.{Mark}
use Rattle.deliver_core.specs.declared.mark.Mark.TheVariants.{Batch, End}
use Rattle.deliver_core.specs.declared.collector.Progress.{Progress}
use Rattle.deliver_core.specs.declared.faults.Finish.TheVariants.{Open}
use Rattle.deliver_core.specs.declared.faults.Refusal.{Refusal}
use Rattle.deliver_core.specs.declared.faults.Refusal.TheVariants.{Stranger, AfterEnd}
use Rattle.deliver_core.specs.Collectors.{Collection, IsLeastOpen, awaited}
use Rattle.deliver_core.specs.Marks.{task_of, is_end, marks_of, batch_count, has_end, batch_marks, script_marks, IsLegalHistory, IsClosed}
use Rattle.deliver_core.specs.Progress.{told, Tells}

-- no batch is an end
pub list_any-batch_marks : (task from count : ℕ) → list_any is_end (map (λ number. Batch task number) (range_with_len from count)) ≡ false
list_any-batch_marks task from zero = refl
list_any-batch_marks task from (suc count) = list_any-batch_marks task (from + 1) count

pub count_by-batch_marks : (task count : ℕ) → count_by (λ mark. not (is_end mark)) (batch_marks task count) ≡ count
count_by-batch_marks task zero = refl
count_by-batch_marks task (suc count) =
    let more = sum_by-map-range_with_len_more (λ mark. cond (not (is_end mark)) 1 0) (λ number. Batch task number) 0 count count (omega arith) in
    let fewer = count_by-batch_marks task count in
    ap (λ n. count_by (λ mark. not (is_end mark)) (batch_marks task n)) (sym (add-one count)) ∙ omega (arith, more, fewer)

pub batch_marks-more : (task count : ℕ) → batch_marks task (count + 1) ≡ batch_marks task count ++ Batch task count ∷ []
batch_marks-more task count = map-range_with_len_more (λ number. Batch task number) 0 count count (omega arith)

-- a task's counter says whether it has ended, and how many batches it had
pub list_any-told : (task : ℕ) (p : Progress) → list_any is_end (told task p) ≡ p.ended
list_any-told task p =
    rw (list_any-append is_end (batch_marks task p.next) (cond p.ended (End task p.next ∷ []) []), list_any-batch_marks task 0 p.next)
    (elim p.ended as (λ e. list_any is_end (cond e (End task p.next ∷ []) []) ≡ e) [ true ↦ refl | false ↦ refl ])

pub count_by-told : (task : ℕ) (p : Progress) → count_by (λ mark. not (is_end mark)) (told task p) ≡ p.next
count_by-told task p =
    rw (
      sum_by-append (λ mark. cond (not (is_end mark)) 1 0) (batch_marks task p.next)
          (cond p.ended (End task p.next ∷ []) []),
      count_by-batch_marks task p.next,
    )
    (elim p.ended as (λ e. p.next + count_by (λ mark. not (is_end mark)) (cond e (End task p.next ∷ []) []) ≡ p.next)
    [ true ↦ omega arith | false ↦ omega arith ])

pub told-prefix : (task : ℕ) (p : Progress) → IsPrefix (told task p) (script_marks task p.next)
told-prefix task p =
    elim p.ended as (λ e. IsPrefix (batch_marks task p.next ++ cond e (End task p.next ∷ []) []) (script_marks task p.next)) [
      | true ↦ ([], append-nil (script_marks task p.next))
      | false ↦ (End task p.next ∷ [], append_assoc (batch_marks task p.next) [] (End task p.next ∷ []))
    ]

pub told-batch : (task : ℕ) (p : Progress) → p.ended ≡ false → told task (record { next = p.next + 1; ended = p.ended }) ≡ told task p ++ Batch task p.next ∷ []
told-batch task p going =
    rw (going, append-nil (batch_marks task (p.next + 1)), append-nil (batch_marks task p.next)) (batch_marks-more task p.next)

pub told-end : (task : ℕ) (p : Progress) → p.ended ≡ false → told task (record { next = p.next; ended = true }) ≡ told task p ++ End task p.next ∷ []
told-end task p going = rw (going, append-nil (batch_marks task p.next)) refl

batch_count-le-length : (task : ℕ) (marks : List Mark) → batch_count task marks ≤ length marks
batch_count-le-length task marks =
    omega (
      arith,
      count_by-le-length (λ mark. not (is_end mark)) (marks_of task marks),
      length-filter
          (λ mark. eqb (task_of mark) task) marks,
      count_by-le-length (λ mark. eqb (task_of mark) task) marks,
    )

-- one more mark
marks_of-push : (task : ℕ) (marks : List Mark) (mark : Mark)
    → marks_of task (marks ++ mark ∷ []) ≡ marks_of task marks ++ cond (eqb (task_of mark) task) (mark ∷ []) []
marks_of-push task marks mark = filter-append (λ m. eqb (task_of m) task) marks (mark ∷ [])

pub marks_of-push_same : (task : ℕ) (marks : List Mark) (mark : Mark) → task_of mark ≡ task
    → marks_of task (marks ++ mark ∷ []) ≡ marks_of task marks ++ mark ∷ []
marks_of-push_same task marks mark same =
    let passes : eqb (task_of mark) task ≡ true = grind (arith, nat_tests) in
    marks_of-push task marks mark ∙ ap (λ b. marks_of task marks ++ cond b (mark ∷ []) []) passes

pub marks_of-push_other : (task : ℕ) (marks : List Mark) (mark : Mark) → task_of mark ≢ task → marks_of task (marks ++ mark ∷ []) ≡ marks_of task marks
marks_of-push_other task marks mark other =
    marks_of-push task marks mark ∙ ap (λ b. marks_of task marks ++ cond b (mark ∷ []) []) (ne_eqb (task_of mark) task other) ∙ append-nil (marks_of task marks)

-- the meaning of the counters for the whole history
module _ (progress : List Progress) (marks : List Mark) (tells : Tells progress marks) where
  pub has_end-tells : (task : ℕ) (d : Progress) → task < length progress → has_end task marks ≡ (get_or progress task d).ended
  has_end-tells task d inside = ap (list_any is_end) (tells.each task d inside) ∙ list_any-told task (get_or progress task d)

  pub batch_count-tells : (task : ℕ) (d : Progress) → task < length progress → batch_count task marks ≡ (get_or progress task d).next
  batch_count-tells task d inside = ap (count_by (λ mark. not (is_end mark))) (tells.each task d inside) ∙ count_by-told task (get_or progress task d)

  -- one more mark of a task, of which its new counter tells
  pub Tells-push : (task : ℕ) (d q : Progress) (mark : Mark) → task < length progress → task_of mark ≡ task
      → told task q ≡ told task (get_or progress task d) ++ mark ∷ [] → Tells (set progress task q) (marks ++ mark ∷ [])
  Tells-push task d q mark inside same more = record {
    numbered = simp length-set tells.numbered;
    known = simp length-set (All-push (λ m. task_of m < length progress) marks mark tells.known (subst (λ t. t < length progress) (sym same) inside));
    each = λ t e within.
        let old : t < length progress = omega (arith, length-set progress task q) in
        elim (eqb_tells task t) [
          | inl here ↦
              rw (← here.1)
              (marks_of-push_same task marks mark same ∙ ap (λ front. front ++ mark ∷ []) (tells.each task d inside) ∙ sym more
              ∙ ap (told task) (sym (get_or-set_same progress task q e inside)))
          | inr there ↦
              let other : t ≢ task = λ h. there.1 (sym h) in
              marks_of-push_other t marks mark (λ h. there.1 (sym same ∙ h)) ∙ tells.each t e old
              ∙ ap (told t) (sym (get_or-set_other progress task t q e other))
        ];
  }

  pub Tells-history : IsLegalHistory (length progress) marks
  Tells-history = record {
    known = tells.known;
    in_turn = λ task inside.
        let p = get_or progress task (record { next = 0; ended = false }) in (
          p.next,
          subst (λ front. IsPrefix front (script_marks task p.next)) (sym (tells.each task (record { next = 0; ended = false }) inside))
              (told-prefix task p),
        );
  }

  pub history_of : (tasks : ℕ) (seen : List Mark) → length progress ≡ tasks → seen ≡ marks → IsLegalHistory tasks seen
  history_of tasks seen many same = rw (← many, same) Tells-history

  has_end-at : (b : Bool) (task : ℕ) → task < length progress → HoldsAt (λ p. p.ended ≡ b) progress task → has_end task marks ≡ b
  has_end-at b task inside ended =
      let start : Progress = record { next = 0; ended = false } in
      has_end-tells task start inside ∙ ended start

  pub IsClosed-tells : All (λ p. p.ended ≡ true) progress → IsClosed (length progress) marks
  IsClosed-tells ended = λ task inside. has_end-at true task inside (λ d. ended task d inside)

  pub IsLeastOpen-tells : (pairs : List (ℕ × ℕ)) (task : ℕ) → task < length progress → HoldsAt (λ p. p.ended ≡ false) progress task
      → AllWithin (λ p. p.ended ≡ true) progress 0 task → IsLeastOpen (record { tasks = length progress; marks = marks; pairs = pairs }) (Open task)
  IsLeastOpen-tells pairs task inside going ended =
      (inside, has_end-at false task inside going, λ other below. has_end-at true other (omega arith) (λ d. ended other d (omega arith) below))

-- if a task accepts one more message
choice-Ok : (past ended : Bool) (counted next : ℕ)
    → ◌≡◌ {A = Result ℕ Refusal} (Ok next) (cond past (Err Stranger) (cond ended (Err AfterEnd) (Ok counted)))
    → (past ≡ false) × (ended ≡ false) × (counted ≡ next)
choice-Ok true ended counted next e = cc
choice-Ok false true counted next e = cc
choice-Ok false false counted next e = (refl, refl, cc)

pub awaited-Ok : (c : Collection) (task next : ℕ) → Ok next ≡ awaited c task
    → (task < c.tasks) × (has_end task c.marks ≡ false) × (batch_count task c.marks ≡ next)
awaited-Ok c task next e =
    let found = choice-Ok (leb c.tasks task) (has_end task c.marks) (batch_count task c.marks) next e in
    let inside : leb c.tasks task ≡ false = found.0 in
    (grind (arith, nat_tests), found.1, found.2)

choice-from : (past ended : Bool) (counted next : ℕ) → past ≡ false → ended ≡ false → counted ≡ next
    → ◌≡◌ {A = Result ℕ Refusal} (Ok next) (cond past (Err Stranger) (cond ended (Err AfterEnd) (Ok counted)))
choice-from true ended counted next p q r = cc
choice-from false true counted next p q r = cc
choice-from false false counted next p q r = cc

pub Ok-awaited : (c : Collection) (task next : ℕ) → task < c.tasks → has_end task c.marks ≡ false → batch_count task c.marks ≡ next → Ok next ≡ awaited c task
Ok-awaited c task next inside going counted =
    choice-from (leb c.tasks task) (has_end task c.marks) (batch_count task c.marks) next (grind (arith, nat_tests)) going counted

-- the meaning of a task's counter for the history
pub ended_is : (progress : List Progress) (marks : List Mark) (task : ℕ) (p : Progress) → Tells progress marks → p ≡ get_or progress task p
    → task < length progress → has_end task marks ≡ p.ended
ended_is progress marks task p tells read inside = has_end-tells progress marks tells task p inside ∙ ap (λ q. q.ended) (sym read)

pub next_is : (progress : List Progress) (marks : List Mark) (task : ℕ) (p : Progress) → Tells progress marks → p ≡ get_or progress task p
    → task < length progress → batch_count task marks ≡ p.next
next_is progress marks task p tells read inside = batch_count-tells progress marks tells task p inside ∙ ap (λ q. q.next) (sym read)

pub ruleset counter = (ended_is, next_is)

-- a task that takes one more message, whose counter is p
module _ (progress : List Progress) (marks : List Mark) (tells : Tells progress marks) (pairs : List (ℕ × ℕ)) (c : Collection)
    (view_is : record { tasks = length progress; marks = marks; pairs = pairs } ≡ c) (task next : ℕ) (taking : Ok next ≡ awaited c task) (p : Progress)
    (read : p ≡ get_or progress task p) where
  inside-taking : task < length progress
  inside-taking =
      let found = awaited-Ok c task next taking in
      let tasks : length progress ≡ c.tasks = ap (λ v. v.tasks) view_is in
      omega arith

  ended-taking : p.ended ≡ false
  ended-taking =
      let found = awaited-Ok c task next taking in
      ap (λ q. q.ended) read ∙ sym (has_end-tells progress marks tells task p inside-taking) ∙ ap (λ v. has_end task v.marks) view_is ∙ found.1

  next-taking : p.next ≡ next
  next-taking =
      let found = awaited-Ok c task next taking in
      ap (λ q. q.next) read ∙ sym (batch_count-tells progress marks tells task p inside-taking) ∙ ap (λ v. batch_count task v.marks) view_is ∙ found.2

  pub next-le-length : p.next ≤ length marks
  next-le-length =
      let counted = batch_count-tells progress marks tells task p inside-taking in
      let few = batch_count-le-length task marks in
      let same : p.next ≡ (get_or progress task p).next = ap (λ q. q.next) read in
      omega arith

  pub Tells-batch : (number : ℕ) → number ≡ next → (new : List Mark) → new ≡ marks ++ Batch task number ∷ []
      → Tells (set progress task (record { next = p.next + 1; ended = p.ended })) new
  Tells-batch number same new is =
      let mark : Batch task number ≡ Batch task p.next = ap (λ n. Batch task n) (same ∙ sym next-taking) in
      subst (Tells (set progress task (record { next = p.next + 1; ended = p.ended }))) (sym is)
      (Tells-push progress marks tells task p (record { next = p.next + 1; ended = p.ended }) (Batch task number) inside-taking refl
      (told-batch task p ended-taking ∙ ap (λ m. told task p ++ m ∷ []) (sym mark) ∙ ap (λ q. told task q ++ Batch task number ∷ []) read))

  pub Tells-end : (count : ℕ) → count ≡ next → (new : List Mark) → new ≡ marks ++ End task count ∷ []
      → Tells (set progress task (record { next = p.next; ended = true })) new
  Tells-end count same new is =
      let mark : End task count ≡ End task p.next = ap (λ n. End task n) (same ∙ sym next-taking) in
      subst (Tells (set progress task (record { next = p.next; ended = true }))) (sym is)
      (Tells-push progress marks tells task p (record { next = p.next; ended = true }) (End task count) inside-taking refl
      (told-end task p ended-taking ∙ ap (λ m. told task p ++ m ∷ []) (sym mark) ∙ ap (λ q. told task q ++ End task count ∷ []) read))
