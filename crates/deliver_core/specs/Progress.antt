-- How a collector's counters, one per task, represent its history.
use Rattle.std.specs.Prelude.{◌≡◌, ℕ, ◌<◌, ◌^◌, if◌then◌else◌, List, [], ◌∷◌, ◌++◌, length, All}
use Rattle.std.specs.Prelude.{slice_index_or}
use Rattle.deliver_core.specs.declared.mark.Mark.{Mark}
use Rattle.deliver_core.specs.declared.mark.Mark.TheVariants.{End}
use Rattle.deliver_core.specs.declared.collector.Progress.{Progress}
use Rattle.deliver_core.specs.Marks.{task_of, marks_of, batch_marks}

-- the marks of a task with this progress
abbrev pub told : ℕ → Progress → List Mark
told task p = batch_marks task p.next ++ (if p.ended then End task p.next ∷ [] else [])

pub record Tells (progress : List Progress) (marks : List Mark) : Type 0 where
  pub numbered : length progress < 2 ^ 32
  pub known : All (λ mark. task_of mark < length progress) marks
  pub each : (task : ℕ) (d : Progress) → task < length progress
      → marks_of task marks ≡ told task (slice_index_or progress task d)
