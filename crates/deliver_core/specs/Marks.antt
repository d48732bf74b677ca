-- The marks of a collector, and which lists of them are a legal history.
use Rattle.std.specs.Prelude.{ℕ, ◌<◌, ◌==◌, Bool, true, false, not, List, [], ◌∷◌, ◌++◌, map}
use Rattle.std.specs.Prelude.{filter, count_by, All, IsTrue}
use Rattle.std.specs.List.{list_any, range_with_len}
use mathlib.Core.List.{IsPrefix}
use Rattle.deliver_core.specs.declared.mark.Mark.{Mark}
use Rattle.deliver_core.specs.declared.mark.Mark.TheVariants.{Batch, End}

abbrev pub task_of : Mark → ℕ
task_of (Batch task number) = task
task_of (End task count) = task

abbrev pub is_end : Mark → Bool
is_end (Batch task number) = false
is_end (End task count) = true

-- the marks of one task, in order
abbrev pub marks_of : ℕ → List Mark → List Mark
marks_of task marks = filter (λ mark. task_of mark == task) marks

-- the number of batches of a task
abbrev pub batch_count : ℕ → List Mark → ℕ
batch_count task marks = count_by (λ mark. not (is_end mark)) (marks_of task marks)

-- whether a task has an end
abbrev pub has_end : ℕ → List Mark → Bool
has_end task marks = list_any is_end (marks_of task marks)

-- Batch 0, .., Batch (count - 1) of a task
abbrev pub batch_marks : ℕ → ℕ → List Mark
batch_marks task count = map (λ number. Batch task number) (range_with_len 0 count)

-- the marks of a script with `count` batches: Batch 0, .., Batch (count - 1), End count
abbrev pub script_marks : ℕ → ℕ → List Mark
script_marks task count = batch_marks task count ++ End task count ∷ []

-- each mark is of a task less than the number of tasks, and each task's marks, in order, are a
-- prefix of those of a script
pub record IsLegalHistory (tasks : ℕ) (marks : List Mark) : Type 0 where
  pub known : All (λ mark. task_of mark < tasks) marks
  pub in_turn : (task : ℕ) → task < tasks
      → (count : ℕ) × IsPrefix (marks_of task marks) (script_marks task count)

-- each task has its end
abbrev pub IsClosed : ℕ → List Mark → Type 0
IsClosed tasks marks = (task : ℕ) → task < tasks → IsTrue (has_end task marks)
