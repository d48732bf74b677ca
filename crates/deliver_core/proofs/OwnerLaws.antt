-- The law of owners: the messages of each task are those of one port, which keeps to the script.
use Rattle.std.proofs.Common.{◌≡◌, ℕ, zero, suc, ◌+◌, ◌<◌, ◌≤◌, Bool, true, false, cond, eqb, List, [], ◌∷◌, map, length, get_or, All, refl, sym, ap, ◌∙◌}
use Rattle.std.proofs.Common.{subst, inl, inr, arith}
use Rattle.std.specs.List.{flat_map, list_any}
use Rattle.std.specs.List.Sorted.{IsPermutation}
use Rattle.std.proofs.lemmas.Bool.Decides.{nat_tests, eqb_tells, leb_tells}
use Rattle.std.proofs.lemmas.List.{append-nil, nil_from_length}
use Rattle.std.proofs.lemmas.List.Elements.{All-head, All-weaker, filter_passes}
use Rattle.std.proofs.lemmas.Option.{slice_get-get_or, slice_get_past}
use mathlib.Core.List.{IsPrefix}
use Rattle.deliver_core.specs.declared.mark.Mark.{Mark}
use Rattle.deliver_core.specs.declared.message.Message.{Message}
use Rattle.deliver_core.specs.Collectors.{RefusesNone}
use Rattle.deliver_core.specs.Draws.{times, once_below}
use Rattle.deliver_core.specs.Marks.{task_of, is_end, marks_of, script_marks, IsLegalHistory, IsClosed}
use Rattle.deliver_core.specs.Outlets.{of_port}
use Rattle.deliver_core.specs.Owners.{Owners, KeepsOwners, IsComplete, BeginsScript, IsScript, owned_tasks, owned_numbers, contents, part_of, collection}
use Rattle.deliver_core.specs.Scripts.{Content, Task, content_of, marks_in, of_task, batches_for, script, scripts_of}
use Rattle.deliver_core.proofs.Collected.{collected_marks, collected_pairs, refuses_none}
use Rattle.deliver_core.proofs.Histories.{list_any-told}
use Rattle.deliver_core.proofs.Interleavings.{IsPlace, place_of, of_port_past, of_task-port}
use Rattle.deliver_core.proofs.OwnedPairs.{rows_of_ports, sent_in}
use Rattle.deliver_core.proofs.Prefixes.{prefix_nil, prefix_flat_map}
use Rattle.deliver_core.proofs.Scripts.{marks_in-script}
use Rattle.deliver_core.proofs.TaskParts.{numbered, length-numbered, of_part, of_whole, marks_of-contents, pairs_in-whole}

once_below-le : (n x : ℕ) → once_below n x ≤ 1
once_below-le n x = grind (arith, nat_tests)

once_below_past : (n x : ℕ) → n ≤ x → once_below n x ≡ 0
once_below_past n x past = grind (arith, nat_tests)

once_below_inside : (n x : ℕ) → x < n → once_below n x ≡ 1
once_below_inside n x inside = grind (arith, nat_tests)

plus_zero : (n : ℕ) → 0 + n ≡ n
plus_zero n = omega arith

-- of a list in which each number occurs once, the tasks of the number of one of them
numbered_one : (tasks : List Task) (k : ℕ) (d : Task) → k < length tasks → length (numbered (get_or tasks k d).0 tasks) ≤ 1
    → numbered (get_or tasks k d).0 tasks ≡ get_or tasks k d ∷ []
numbered_one [] k d inside few = absurd (omega arith)
numbered_one (task ∷ tasks) zero d inside few =
    elim (eqb_tells task.0 task.0) [
      | inl same ↦
          let is : numbered task.0 (task ∷ tasks) ≡ task ∷ numbered task.0 tasks =
          ap (λ (b : Bool). cond b (task ∷ numbered task.0 tasks) (numbered task.0 tasks)) same.0 in
          let none : numbered task.0 tasks ≡ [] = nil_from_length (numbered task.0 tasks) (omega (arith, ap length is)) in
          is ∙ ap (λ rest. task ∷ rest) none
      | inr other ↦ absurd (other.1 refl)
    ]
numbered_one (task ∷ tasks) (suc k) d inside few =
    let number = (get_or tasks k d).0 in
    elim (eqb_tells task.0 number) [
      | inl same ↦
          let is : numbered number (task ∷ tasks) ≡ task ∷ numbered number tasks =
          ap (λ (b : Bool). cond b (task ∷ numbered number tasks) (numbered number tasks)) same.0 in
          let rest = numbered_one tasks k d (omega arith) (omega (arith, ap length is)) in
          absurd (omega (arith, ap length is, ap length rest))
      | inr other ↦
          let is : numbered number (task ∷ tasks) ≡ numbered number tasks =
          ap (λ (b : Bool). cond b (task ∷ numbered number tasks) (numbered number tasks)) other.0 in
          is ∙ numbered_one tasks k d (omega arith) (omega (arith, ap length is))
    ]

-- a mark is one of its task's
marks_of-own : (marks : List Mark) (k : ℕ) (d : Mark) → k < length marks → 0 < length (marks_of (task_of (get_or marks k d)) marks)
marks_of-own [] k d inside = absurd (omega arith)
marks_of-own (mark ∷ marks) zero d inside =
    elim (eqb_tells (task_of mark) (task_of mark)) [
      | inl same ↦
          let is : marks_of (task_of mark) (mark ∷ marks) ≡ mark ∷ marks_of (task_of mark) marks =
          ap (λ (b : Bool). cond b (mark ∷ marks_of (task_of mark) marks) (marks_of (task_of mark) marks)) same.0 in
          omega (arith, ap length is)
      | inr other ↦ absurd (other.1 refl)
    ]
marks_of-own (mark ∷ marks) (suc k) d inside =
    let task = task_of (get_or marks k d) in
    let rest = marks_of-own marks k d (omega arith) in
    elim (eqb (task_of mark) task) as (λ b. 0 < length (cond b (mark ∷ marks_of task marks) (marks_of task marks))) [
      | true ↦ omega arith
      | false ↦ rest
    ]

-- the scripts of one task
one_script : (size : ℕ) (task : Task) → scripts_of size (task ∷ []) ≡ script task.0 size task.1
one_script size task = append-nil (script task.0 size task.1)

marks_in-one : (size : ℕ) (task : Task) → flat_map marks_in (scripts_of size (task ∷ [])) ≡ script_marks task.0 (batches_for size task.1)
marks_in-one size task = ap (flat_map marks_in) (one_script size task) ∙ marks_in-script task.0 size task.1

-- where a task's marks are a beginning of those of the one script there is, or of none
turn_of : (number size : ℕ) (found : List Task) → length found ≤ 1 → All (λ (task : Task). eqb task.0 number ≡ true) found
    → (marks : List Mark) → IsPrefix marks (flat_map marks_in (scripts_of size found)) → (count : ℕ) × IsPrefix marks (script_marks number count)
turn_of number size [] few own marks prefix =
    (0, subst (λ front. IsPrefix front (script_marks number 0)) (sym (prefix_nil marks prefix)) (script_marks number 0, refl))
turn_of number size (task ∷ []) few own marks prefix =
    elim (eqb_tells task.0 number) [
      | inl same ↦ (
        batches_for size task.1,
        subst (IsPrefix marks) (marks_in-one size task ∙ ap (λ n. script_marks n (batches_for size task.1)) same.1) prefix,
      )
      | inr other ↦ absurd (cc (other.0, All-head (λ (t : Task). eqb t.0 number ≡ true) task [] own))
    ]
turn_of number size (task ∷ (more ∷ found)) few own marks prefix = absurd (omega arith)

-- if they are all of the one script
ended_of : (number size : ℕ) (found : List Task) → length found ≡ 1
    → (marks : List Mark) → marks ≡ flat_map marks_in (scripts_of size found) → list_any is_end marks ≡ true
ended_of number size [] one marks is = absurd (omega arith)
ended_of number size (task ∷ []) one marks is =
    ap (list_any is_end) (is ∙ marks_in-one size task) ∙ list_any-told task.0 (record { next = batches_for size task.1; ended = true })
ended_of number size (task ∷ (more ∷ found)) one marks is = absurd (omega arith)

module _ (o : Owners) (keeps : KeepsOwners o) where
  counted : (number : ℕ) → times number (owned_numbers o) ≡ length (numbered number (owned_tasks o))
  counted number = length-numbered number (owned_tasks o)

  few : (number : ℕ) → length (numbered number (owned_tasks o)) ≤ 1
  few number = omega (arith, keeps.once number, once_below-le o.tasks number, counted number)

  -- the scripts of the task of this number, of which there is one or none
  abbrev its_scripts : ℕ → List Content
  its_scripts number = scripts_of o.size (numbered number (owned_tasks o))

  -- the port that owns a task, if any does
  place : (number : ℕ) → (port : ℕ) × IsPlace number o.owned port
  place number = place_of number o.owned (few number)

  silent_past : (port : ℕ) → length o.owned ≤ port → part_of o port ≡ []
  silent_past port past = ap (map content_of) (of_port_past (length o.owned) port o.messages keeps.known past)

  silent : (number other : ℕ) → (other ≡ (place number).0 → ⊥) → of_task number (part_of o other) ≡ []
  silent number other apart =
      elim (leb_tells (length o.owned) other) [
        | inl past ↦ ap (of_task number) (silent_past other past.1)
        | inr inside ↦
            let tasks = get_or o.owned other [] in
            let at = slice_get-get_or o.owned other [] inside.1 in
            let none : numbered number tasks ≡ [] = (place number).1.others other tasks at apart in
            prefix_nil (of_task number (part_of o other))
            (subst (λ found. IsPrefix (of_task number (part_of o other)) (scripts_of o.size found)) none
            (of_part number o.size tasks (part_of o other) (keeps.parts other tasks at)))
      ]

  -- its messages are those of that port
  of_owner : (number : ℕ) → of_task number (contents o) ≡ of_task number (part_of o (place number).0)
  of_owner number = of_task-port number (place number).0 o.messages (silent number)

  begin : (number : ℕ) → IsPrefix (of_task number (contents o)) (its_scripts number)
  begin number =
      let port = (place number).0 in
      subst (λ front. IsPrefix front (its_scripts number)) (sym (of_owner number)) (
      elim (leb_tells (length o.owned) port) [
        | inl past ↦
            let none : of_task number (part_of o port) ≡ [] = ap (of_task number) (silent_past port past.1) in
            subst (λ front. IsPrefix front (its_scripts number)) (sym none)
            (its_scripts number, refl)
        | inr inside ↦
            let tasks = get_or o.owned port [] in
            let at = slice_get-get_or o.owned port [] inside.1 in
            subst (λ found. IsPrefix (of_task number (part_of o port)) (scripts_of o.size found)) ((place number).1.here tasks at)
            (of_part number o.size tasks (part_of o port) (keeps.parts port tasks at))
      ])

  marks_begin : (number : ℕ)
      → IsPrefix (marks_of number (flat_map marks_in (contents o))) (flat_map marks_in (its_scripts number))
  marks_begin number =
      subst (λ front. IsPrefix front (flat_map marks_in (its_scripts number))) (sym (marks_of-contents number (contents o)))
      (prefix_flat_map marks_in (of_task number (contents o)) (its_scripts number) (begin number))

  one : (k : ℕ) (d : Task) → k < length (owned_tasks o)
      → numbered (get_or (owned_tasks o) k d).0 (owned_tasks o) ≡ get_or (owned_tasks o) k d ∷ []
  one k d inside = numbered_one (owned_tasks o) k d inside (few (get_or (owned_tasks o) k d).0)

  pub law_begins : All (BeginsScript o) (owned_tasks o)
  law_begins = λ k d inside.
      let task = get_or (owned_tasks o) k d in (
        subst (IsPrefix (of_task task.0 (contents o))) (ap (scripts_of o.size) (one k d inside) ∙ one_script o.size task) (begin task.0),
        subst (λ marks. IsPrefix (marks_of task.0 marks) (script_marks task.0 (batches_for o.size task.1)))
            (sym (collected_marks o.tasks (contents o)))
            (subst (IsPrefix (marks_of task.0 (flat_map marks_in (contents o))))
            (ap (λ found. flat_map marks_in (scripts_of o.size found)) (one k d inside) ∙ marks_in-one o.size task) (marks_begin task.0)),
      )

  pub law_unowned : (task : ℕ) → times task (owned_numbers o) ≡ 0 → of_task task (contents o) ≡ []
  law_unowned task none =
      let empty : numbered task (owned_tasks o) ≡ [] = nil_from_length (numbered task (owned_tasks o)) (omega (arith, counted task, none)) in
      prefix_nil (of_task task (contents o))
      (subst (λ found. IsPrefix (of_task task (contents o)) (scripts_of o.size found)) empty (begin task))

  legal : IsLegalHistory o.tasks (flat_map marks_in (contents o))
  legal = record {
    known = λ k d inside.
        let marks = flat_map marks_in (contents o) in
        let task = task_of (get_or marks k d) in
        elim (leb_tells o.tasks task) [
          | inl past ↦
              let none : times task (owned_numbers o) ≡ 0 = omega (arith, keeps.once task, once_below_past o.tasks task past.1) in
              let no_marks : marks_of task marks ≡ [] = marks_of-contents task (contents o) ∙ ap (flat_map marks_in) (law_unowned task none) in
              absurd (omega (arith, ap length no_marks, marks_of-own marks k d inside))
          | inr inside' ↦ inside'.1
        ];
    in_turn = λ task inside.
        turn_of task o.size (numbered task (owned_tasks o)) (few task) (filter_passes (λ (t : Task). eqb t.0 task) (owned_tasks o))
        (marks_of task (flat_map marks_in (contents o))) (marks_begin task);
  }

  pub law_accepted : RefusesNone o.tasks (contents o)
  law_accepted = refuses_none o.tasks (contents o) legal

  -- if each port has sent all its messages
  module _ (complete : IsComplete o) where
    whole : (number : ℕ) → of_task number (contents o) ≡ its_scripts number
    whole number =
        let port = (place number).0 in
        of_owner number ∙
        elim (leb_tells (length o.owned) port) [
          | inl past ↦
              let none : numbered number (owned_tasks o) ≡ [] = (place number).1.past (slice_get_past o.owned port past.1) in
              ap (of_task number) (silent_past port past.1) ∙ ap (scripts_of o.size) (sym none)
          | inr inside ↦
              let tasks = get_or o.owned port [] in
              let at = slice_get-get_or o.owned port [] inside.1 in
              of_whole number o.size tasks (part_of o port) (complete.parts port tasks at)
              ∙ ap (scripts_of o.size) ((place number).1.here tasks at)
        ]

    marks_whole : (number : ℕ)
        → marks_of number (collection o).marks ≡ flat_map marks_in (its_scripts number)
    marks_whole number =
        ap (marks_of number) (collected_marks o.tasks (contents o)) ∙ marks_of-contents number (contents o)
        ∙ ap (flat_map marks_in) (whole number)

    pub law_closed : IsClosed o.tasks (collection o).marks
    law_closed = λ task inside.
        let owned : length (numbered task (owned_tasks o)) ≡ 1 =
        omega (arith, complete.all task, once_below_inside o.tasks task inside, counted task) in
        ended_of task o.size (numbered task (owned_tasks o)) owned (marks_of task (collection o).marks) (marks_whole task)

    pub law_scripts : All (IsScript o) (owned_tasks o)
    law_scripts = λ k d inside.
        let task = get_or (owned_tasks o) k d in (
          whole task.0 ∙ ap (scripts_of o.size) (one k d inside) ∙ one_script o.size task,
          marks_whole task.0 ∙ ap (λ found. flat_map marks_in (scripts_of o.size found)) (one k d inside) ∙ marks_in-one o.size task,
        )

    pub law_pairs : 0 < o.size → IsPermutation (flat_map (λ (task : Task). task.1) (owned_tasks o)) (collection o).pairs
    law_pairs some =
        subst (IsPermutation (flat_map (λ (task : Task). task.1) (owned_tasks o))) (sym (collected_pairs o.tasks (contents o)))
        (rows_of_ports o.owned 0 o.messages
        (All-weaker (λ (m : Message). m.port < length o.owned) (λ m. (0 ≤ m.port) × (m.port < 0 + length o.owned))
        (λ m inside. (omega arith, omega (arith, inside))) o.messages keeps.known)
        (λ port tasks at. ap (λ p. sent_in (of_port p o.messages)) (plus_zero port)
        ∙ pairs_in-whole o.size tasks (part_of o port) some (complete.parts port tasks at)))
