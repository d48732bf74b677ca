-- The contents of messages, and the script of a task.
use Rattle.std.specs.Prelude.{ℕ, ◌+◌, ◌-◌, ◌*◌, ◌/◌, ◌==◌, Bool, false, List, [], ◌∷◌, ◌++◌, map}
use Rattle.std.specs.Prelude.{filter, length, take, drop}
use Rattle.std.specs.List.{flat_map, range_with_len}
use Rattle.deliver_core.specs.declared.mark.Mark.{Mark}
use Rattle.deliver_core.specs.declared.mark.Mark.TheVariants.{Batch, End}
use Rattle.deliver_core.specs.declared.message.Body.{Body}
use Rattle.deliver_core.specs.declared.message.Body.TheVariants as body
use Rattle.deliver_core.specs.declared.message.Message.{Message}

-- the content of a message, regardless of its port: a batch of a task with its number and pairs,
-- the end of a task with the number of its batches, or a bye
pub data Content : Type 0 where
  batch_of : ℕ → ℕ → List (ℕ × ℕ) → Content
  end_of : ℕ → ℕ → Content
  bye : Bool → Content

abbrev pub body_content : ℕ → Body → Content
body_content task (body.Batch number pairs) = batch_of task number pairs.items
body_content task (body.End count) = end_of task count
body_content task (body.Bye ok) = bye ok

abbrev pub content_of : Message → Content
content_of message = body_content message.task message.body

abbrev pub IsBye : Content → Type 0
IsBye (batch_of task number pairs) = ⊥
IsBye (end_of task count) = ⊥
IsBye (bye ok) = Unit {0}

-- the mark that a message leaves when it is accepted, if any
abbrev pub marks_in : Content → List Mark
marks_in (batch_of task number pairs) = Batch task number ∷ []
marks_in (end_of task count) = End task count ∷ []
marks_in (bye ok) = []

abbrev pub pairs_in : Content → List (ℕ × ℕ)
pairs_in (batch_of task number pairs) = pairs
pairs_in (end_of task count) = []
pairs_in (bye ok) = []

-- whether it is a batch or the end of this task
abbrev pub is_of : ℕ → Content → Bool
is_of task (batch_of other number pairs) = other == task
is_of task (end_of other count) = other == task
is_of task (bye ok) = false

-- the batches and the end of a task, in order
abbrev pub of_task : ℕ → List Content → List Content
of_task task contents = filter (is_of task) contents

-- the number of batches of `size` pairs that a row takes, the last of which may be shorter
abbrev pub batches_for : ℕ → List (ℕ × ℕ) → ℕ
batches_for size row = (length row + (size - 1)) / size

-- the pairs of batch `number`
abbrev pub piece_of : ℕ → List (ℕ × ℕ) → ℕ → List (ℕ × ℕ)
piece_of size row number = take size (drop (number * size) row)

-- the first batches of a script
abbrev pub script_batches : ℕ → ℕ → List (ℕ × ℕ) → ℕ → List Content
script_batches task size row count =
    map (λ number. batch_of task number (piece_of size row number)) (range_with_len 0 count)

-- the script of a task: its row cut into batches of `size` pairs, the last of which may be shorter,
-- numbered from 0, and then the end with their number
abbrev pub script : ℕ → ℕ → List (ℕ × ℕ) → List Content
script task size row =
    script_batches task size row (batches_for size row) ++ end_of task (batches_for size row) ∷ []

-- a task, by its number and its row
abbrev pub Task : Type 0
Task = ℕ × List (ℕ × ℕ)

-- the scripts of tasks, concatenated
abbrev pub scripts_of : ℕ → List Task → List Content
scripts_of size tasks = flat_map (λ task. script task.0 size task.1) tasks
