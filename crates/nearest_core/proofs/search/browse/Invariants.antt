use Rattle.std.proofs.Common.{◌+◌, ◌*◌, length}
use Rattle.std.specs.Prelude.{sum_by}
use Rattle.std.specs.BinaryHeap.{IsHeap, heap_items}
use Rattle.nearest_core.specs.Queues.{lists_of, measured_in, nearest_last, waiting}
use Rattle.nearest_core.specs.Searches.{work_of}
use Rattle.nearest_core.proofs.SearchLemmas.{IsUnderway}
use Rattle.nearest_core.proofs.search.browse.Given as goal

abbrev pub invariant-loop-next : goal.invariant-loop-next
invariant-loop-next g l = record {
  heap : IsHeap (nearest_last g.G.Square.Square.fraction) (heap_items l.measured);
  under : IsUnderway g.G.Square.Square.fraction g.G.Geometry.box_of g.G.Planar.has_point l.sought.query.now l.right l.sought.geometry.now
      (lists_of l.queue l.measured l.found.items);
}

abbrev pub decreases-loop-next : goal.decreases-loop-next
decreases-loop-next g l = 2 * sum_by work_of (waiting l.queue) + length (measured_in l.measured)
