-- The messages of one task in lists of scripts and of messages.
use Rattle.std.proofs.Common.{◌≡◌, ℕ, ◌+◌, ◌<◌, Option, Some, None, Bool, true, false, cond, eqb, List, [], ◌∷◌, ◌++◌, map, length, refl, sym, ap, ◌∙◌, arith}
use Rattle.std.specs.List.{filter, flat_map, range_with_len}
use Rattle.std.proofs.lemmas.Grind.{flat_map-append}
use Rattle.std.proofs.lemmas.List.{append-nil}
use Rattle.std.proofs.lemmas.List.Elements.{filter-append}
use Rattle.std.proofs.lemmas.List.Sums.{sum_by-cons}
use mathlib.Core.List.{IsPrefix}
use Rattle.deliver_core.specs.declared.mark.Mark.TheVariants.{Batch, End}
use Rattle.deliver_core.specs.Draws.{times}
use Rattle.deliver_core.specs.Marks.{marks_of}
use Rattle.deliver_core.specs.Owners.{IsPart, IsWhole, last_word}
use Rattle.deliver_core.specs.Scripts.{Content, Task, batch_of, end_of, bye, marks_in, pairs_in, is_of, of_task, batches_for, piece_of, script_batches, script}
use Rattle.deliver_core.specs.Scripts.{scripts_of}
use Rattle.deliver_core.proofs.Prefixes.{prefix_filter}
use Rattle.deliver_core.proofs.Scripts.{pairs_in-script}

-- the tasks of this number in a list
abbrev pub numbered : ℕ → List Task → List Task
numbered number tasks = filter (λ (task : Task). eqb task.0 number) tasks

-- their number is the number of occurrences in the list of numbers
pub length-numbered : (number : ℕ) (tasks : List Task) → times number (map (λ (task : Task). task.0) tasks) ≡ length (numbered number tasks)
length-numbered number [] = refl
length-numbered number (task ∷ tasks) =
    let rest = length-numbered number tasks in
    let split = sum_by-cons (λ y. cond (eqb y number) 1 0) task.0 (map (λ (t : Task). t.0) tasks) in
    let Same : Bool → Type 0 = λ b.
    cond b 1 0 + times number (map (λ (t : Task). t.0) tasks) ≡ length (cond b (task ∷ numbered number tasks) (numbered number tasks)) in
    split ∙ elim (eqb task.0 number) as Same [
      | true ↦ omega arith
      | false ↦ omega arith
    ]

-- a script is all of its task
of_batches : (number task size : ℕ) (row : List (ℕ × ℕ)) (b : Bool) → eqb task number ≡ b → (numbers : List ℕ)
    → of_task number (map (λ n. batch_of task n (piece_of size row n)) numbers) ≡ cond b (map (λ n. batch_of task n (piece_of size row n)) numbers) []
of_batches number task size row true is [] = refl
of_batches number task size row false is [] = refl
of_batches number task size row true is (n ∷ numbers) =
    let rest = of_batches number task size row true is numbers in
    rw is (ap (λ contents. batch_of task n (piece_of size row n) ∷ contents) rest)
of_batches number task size row false is (n ∷ numbers) =
    let rest = of_batches number task size row false is numbers in
    rw is rest

of_script : (number size : ℕ) (task : Task) (b : Bool) → eqb task.0 number ≡ b
    → of_task number (script task.0 size task.1) ≡ cond b (script task.0 size task.1) []
of_script number size task b is =
    let count = batches_for size task.1 in
    let last : of_task number (end_of task.0 count ∷ []) ≡ cond b (end_of task.0 count ∷ []) [] =
    ap (λ (c : Bool). cond c (end_of task.0 count ∷ []) []) is in
    let first = of_batches number task.0 size task.1 b is (range_with_len 0 count) in
    filter-append (is_of number) (script_batches task.0 size task.1 count) (end_of task.0 count ∷ [])
    ∙ ap (λ front. front ++ of_task number (end_of task.0 count ∷ [])) first
    ∙ ap (λ back. cond b (script_batches task.0 size task.1 count) [] ++ back) last
    ∙ elim b as (λ c. cond c (script_batches task.0 size task.1 count) [] ++ cond c (end_of task.0 count ∷ []) [] ≡ cond c (script task.0 size task.1) []) [
      | true ↦ refl
      | false ↦ refl
    ]

-- of the scripts of several, those of its tasks
pub of_scripts : (number size : ℕ) (tasks : List Task) → of_task number (scripts_of size tasks) ≡ scripts_of size (numbered number tasks)
of_scripts number size [] = refl
of_scripts number size (task ∷ tasks) =
    let rest = of_scripts number size tasks in
    filter-append (is_of number) (script task.0 size task.1) (scripts_of size tasks)
    ∙ ap (λ front. front ++ of_task number (scripts_of size tasks)) (of_script number size task (eqb task.0 number) refl)
    ∙ ap (λ back. cond (eqb task.0 number) (script task.0 size task.1) [] ++ back) rest
    ∙ elim (eqb task.0 number) as (λ c. cond c (script task.0 size task.1) [] ++ scripts_of size (numbered number tasks)
    ≡ scripts_of size (cond c (task ∷ numbered number tasks) (numbered number tasks))) [
      | true ↦ refl
      | false ↦ refl
    ]

-- a bye is of no task
of_last : (number : ℕ) (last : Option Bool) → of_task number (last_word last) ≡ []
of_last number None = refl
of_last number (Some ok) = refl

of_said : (number : ℕ) (before : List Content) (last : Option Bool) → of_task number (before ++ last_word last) ≡ of_task number before
of_said number before last =
    filter-append (is_of number) before (last_word last) ∙ ap (λ back. of_task number before ++ back) (of_last number last)
    ∙ append-nil (of_task number before)

-- the messages of a port for a task
pub of_part : (number size : ℕ) (tasks : List Task) (said : List Content) → IsPart size tasks said
    → IsPrefix (of_task number said) (scripts_of size (numbered number tasks))
of_part number size tasks said part =
    let is : of_task number part.before ≡ of_task number said = sym (of_said number part.before part.last) ∙ ap (of_task number) (sym part.said_is) in
    let front = prefix_filter (is_of number) part.before (scripts_of size tasks) part.begins in
    (front.0, ap (λ contents. contents ++ front.0) (sym is) ∙ front.1 ∙ of_scripts number size tasks)

pub of_whole : (number size : ℕ) (tasks : List Task) (said : List Content) → IsWhole size tasks said
    → of_task number said ≡ scripts_of size (numbered number tasks)
of_whole number size tasks said whole =
    ap (of_task number) whole.said_is ∙ of_said number (scripts_of size tasks) whole.last ∙ of_scripts number size tasks

-- all of the scripts are a beginning of them
pub IsPart-whole : (size : ℕ) (tasks : List Task) (said : List Content) → IsWhole size tasks said → IsPart size tasks said
IsPart-whole size tasks said whole = record {
  before = scripts_of size tasks;
  last = whole.last;
  said_is = whole.said_is;
  begins = ([], append-nil (scripts_of size tasks));
}

-- the marks of a task come of its messages
pub marks_of-contents : (number : ℕ) (contents : List Content) → marks_of number (flat_map marks_in contents) ≡ flat_map marks_in (of_task number contents)
marks_of-contents number [] = refl
marks_of-contents number (batch_of task n pairs ∷ contents) =
    let rest = marks_of-contents number contents in
    elim (eqb task number) as (λ b. cond b (Batch task n ∷ marks_of number (flat_map marks_in contents)) (marks_of number (flat_map marks_in contents))
    ≡ flat_map marks_in (cond b (batch_of task n pairs ∷ of_task number contents) (of_task number contents))) [
      | true ↦ ap (λ marks. Batch task n ∷ marks) rest
      | false ↦ rest
    ]
marks_of-contents number (end_of task count ∷ contents) =
    let rest = marks_of-contents number contents in
    elim (eqb task number) as (λ b. cond b (End task count ∷ marks_of number (flat_map marks_in contents)) (marks_of number (flat_map marks_in contents))
    ≡ flat_map marks_in (cond b (end_of task count ∷ of_task number contents) (of_task number contents))) [
      | true ↦ ap (λ marks. End task count ∷ marks) rest
      | false ↦ rest
    ]
marks_of-contents number (bye ok ∷ contents) = marks_of-contents number contents

-- the pairs of the scripts of tasks, and of a port's messages for them, are those of the rows
pairs_in-scripts : (size : ℕ) (tasks : List Task) → 0 < size → flat_map pairs_in (scripts_of size tasks) ≡ flat_map (λ (task : Task). task.1) tasks
pairs_in-scripts size [] some = refl
pairs_in-scripts size (task ∷ tasks) some =
    flat_map-append pairs_in (script task.0 size task.1) (scripts_of size tasks)
    ∙ ap (λ pairs. pairs ++ flat_map pairs_in (scripts_of size tasks)) (pairs_in-script task.0 size task.1 some)
    ∙ ap (λ pairs. task.1 ++ pairs) (pairs_in-scripts size tasks some)

pairs_in-last : (last : Option Bool) → flat_map pairs_in (last_word last) ≡ []
pairs_in-last None = refl
pairs_in-last (Some ok) = refl

pub pairs_in-whole : (size : ℕ) (tasks : List Task) (said : List Content) → 0 < size → IsWhole size tasks said
    → flat_map pairs_in said ≡ flat_map (λ (task : Task). task.1) tasks
pairs_in-whole size tasks said some whole =
    ap (flat_map pairs_in) whole.said_is ∙ flat_map-append pairs_in (scripts_of size tasks) (last_word whole.last)
    ∙ ap (λ pairs. flat_map pairs_in (scripts_of size tasks) ++ pairs) (pairs_in-last whole.last)
    ∙ append-nil (flat_map pairs_in (scripts_of size tasks)) ∙ pairs_in-scripts size tasks some
