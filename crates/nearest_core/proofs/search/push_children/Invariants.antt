use Rattle.std.proofs.Common.{take}
use Rattle.nearest_core.specs.Queues.{waiting}
use Rattle.nearest_core.specs.Searches.{AddsNodes}
use Rattle.nearest_core.proofs.search.push_children.Given as goal

abbrev pub invariant-loop-child : goal.invariant-loop-child
invariant-loop-child l =
    AddsNodes l.shape (take l.child-index l.children) (waiting l.fn.queue) (waiting l.queue)
