-- Each task has an owner, a port that sends its script, and the messages of all ports interleave.
use Rattle.std.specs.Prelude.{◌≡◌, ℕ, ◌<◌, Bool, Option, Some, None, List, [], ◌∷◌, ◌++◌, All, map}
use Rattle.std.specs.Prelude.{length, slice_get, flat_map}
use mathlib.Core.List.{IsPrefix}
use Rattle.deliver_core.specs.declared.message.Message.{Message}
use Rattle.deliver_core.specs.Collectors.{Collection, collected}
use Rattle.deliver_core.specs.Draws.{AreNumbersBelow, AreSomeBelow}
use Rattle.deliver_core.specs.Marks.{marks_of, script_marks}
use Rattle.deliver_core.specs.Outlets.{of_port}
use Rattle.deliver_core.specs.Scripts.{Content, Task, content_of, bye, of_task, batches_for, script}
use Rattle.deliver_core.specs.Scripts.{scripts_of}

-- The number of tasks, the number of pairs in a batch, the tasks that each port owns, by the port's
-- index, and the messages of all ports, interleaved in any way
pub record Owners : Type 0 where
  pub tasks : ℕ
  pub size : ℕ
  pub owned : List (List Task)
  pub messages : List Message

-- the tasks that have an owner
abbrev pub owned_tasks : Owners → List Task
owned_tasks o = flat_map (λ tasks. tasks) o.owned

abbrev pub owned_numbers : Owners → List ℕ
owned_numbers o = map (λ task. task.0) (owned_tasks o)

-- the contents of all messages, and those of one port
abbrev pub contents : Owners → List Content
contents o = map content_of o.messages

abbrev pub part_of : Owners → ℕ → List Content
part_of o port = map content_of (of_port port o.messages)

-- at most one bye
abbrev pub last_word : Option Bool → List Content
last_word None = []
last_word (Some ok) = bye ok ∷ []

-- a prefix of the scripts of these tasks, and then at most one bye
pub record IsPart (size : ℕ) (tasks : List Task) (said : List Content) : Type 0 where
  pub before : List Content
  pub last : Option Bool
  pub said_is : said ≡ before ++ last_word last
  pub begins : IsPrefix before (scripts_of size tasks)

-- all of the scripts of these tasks, and then at most one bye
pub record IsWhole (size : ℕ) (tasks : List Task) (said : List Content) : Type 0 where
  pub last : Option Bool
  pub said_is : said ≡ scripts_of size tasks ++ last_word last

-- no task has two owners, each message is of a port, and each port sends only the scripts of the
-- tasks that it owns, in order
pub record KeepsOwners (o : Owners) : Type 0 where
  pub once : AreSomeBelow o.tasks (owned_numbers o)
  pub known : All (λ m. m.port < length o.owned) o.messages
  pub parts : (port : ℕ) (tasks : List Task)
      → slice_get o.owned port ≡ Some tasks → IsPart o.size tasks (part_of o port)

-- each task has an owner, and each port sends all scripts of its tasks
pub record IsComplete (o : Owners) : Type 0 where
  pub all : AreNumbersBelow o.tasks (owned_numbers o)
  pub parts : (port : ℕ) (tasks : List Task)
      → slice_get o.owned port ≡ Some tasks → IsWhole o.size tasks (part_of o port)

-- the collection of a new collector after it has accepted the messages
abbrev pub collection : Owners → Collection
collection o = collected o.tasks (contents o)

-- the messages of this task, in order, are a prefix of its script, and so are its marks
abbrev pub BeginsScript : Owners → Task → Type 0
BeginsScript o task = IsPrefix (of_task task.0 (contents o)) (script task.0 o.size task.1)
    × IsPrefix (marks_of task.0 (collection o).marks)
    (script_marks task.0 (batches_for o.size task.1))

-- the messages of this task are its whole script, and so are its marks
abbrev pub IsScript : Owners → Task → Type 0
IsScript o task = (of_task task.0 (contents o) ≡ script task.0 o.size task.1)
    × (marks_of task.0 (collection o).marks ≡ script_marks task.0 (batches_for o.size task.1))
