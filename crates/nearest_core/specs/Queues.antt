-- The candidates of a queue, and the measured features that wait beside it.
use Rattle.std.specs.Prelude.{ℕ, List, map}
use Rattle.std.specs.BinaryHeap.{heap_items}
use Rattle.std.specs.Global.{Global}
use Rattle.std.specs.declared.cmp.Ordering.{Ordering}
use Rattle.std.specs.declared.cmp.Reverse.{Reverse}
use Rattle.std.specs.declared.collections.binary_heap.BinaryHeap.{BinaryHeap}
use Rattle.nearest_core.specs.declared.candidate.Candidate.{Candidate}
use Rattle.nearest_core.specs.declared.neighbour.Neighbour.{Neighbour}
use Rattle.nearest_core.specs.declared.queue.Queue.{Queue}
use Rattle.nearest_core.specs.Orders.{neighbour_order}

-- the candidates that wait in a queue, in no particular order
abbrev pub waiting : Queue → List Candidate
waiting q = map (λ r. r.0) (heap_items q.heap)

-- the measured features that wait, in no particular order
abbrev pub measured_in : {S : Type 0} → BinaryHeap (Reverse (Neighbour S)) Global
    → List (Neighbour S)
measured_in heap = map (λ r. r.0) (heap_items heap)

-- the order of a heap whose greatest item is the nearest neighbour
abbrev pub nearest_last : {S : Type 0} → (S → ℕ × ℕ) → Reverse (Neighbour S)
    → Reverse (Neighbour S) → Ordering
nearest_last fraction a b = neighbour_order fraction b.0 a.0

-- the three lists of a search: what waits by its box, what is measured, and what is found
pub record Lists (S : Type 0) : Type 0 where
  pub queue : List Candidate
  pub measured : List (Neighbour S)
  pub found : List (Neighbour S)

abbrev pub lists_of : {S : Type 0} → Queue → BinaryHeap (Reverse (Neighbour S)) Global
    → List (Neighbour S) → Lists S
lists_of queue measured found =
    record { queue = waiting queue; measured = measured_in measured; found = found }
