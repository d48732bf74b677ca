-- Edges with their numbers, as entries of a tree of their boxes.
use Rattle.std.specs.Prelude.{◌≡◌, ℕ, ◌<◌, List, length, Contains}
use Rattle.std.specs.List.{slice_index_or}
use Rattle.plane_core.specs.declared.edge.Edge.{Edge}
use Rattle.rtree_core.specs.declared.node.Entry.{Entry}
use Rattle.edge_index_core.specs.Bounds.{IsBoxOf}

-- the box of an edge, with the edge's number
pub record IsEntryOf (number : ℕ) (e : Edge) (entry : Entry) : Type 0 where
  pub number_is : entry.number ≡ number
  pub box_is : IsBoxOf e entry.shape

-- one entry for each edge, numbered by the edge's index
pub record AreEntriesOf (es : List Edge) (entries : List Entry) : Type 0 where
  pub len : length entries ≡ length es
  pub each : (k : ℕ) → k < length es → (e : Edge) (x : Entry)
      → IsEntryOf k (slice_index_or es k e) (slice_index_or entries k x)

-- these include an entry of each edge
abbrev pub HasEntriesOf : List Edge → List Entry → Type 0
HasEntriesOf es entries =
    (k : ℕ) → k < length es → (d : Edge)
    → (x : Entry) × IsEntryOf k (slice_index_or es k d) x × Contains entries x
