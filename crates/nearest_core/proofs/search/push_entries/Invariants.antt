use Rattle.std.proofs.Common.{take}
use Rattle.nearest_core.specs.Queues.{waiting}
use Rattle.nearest_core.specs.Searches.{Adds, row_of}
use Rattle.nearest_core.proofs.search.push_entries.Given as goal

abbrev pub invariant-loop-entry : goal.invariant-loop-entry
invariant-loop-entry l =
    Adds l.shape (row_of l.shape (take l.entry-index l.entries)) l.entry-index (waiting l.fn.queue) (waiting l.queue)
