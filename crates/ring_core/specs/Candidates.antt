-- Edges that come later in a list.
use Rattle.std.specs.Prelude.{ℕ, ◌<◌, List, length}
use Rattle.std.specs.List.{slice_index_or}
use Rattle.plane_core.specs.declared.edge.Edge.{Edge}
use Rattle.plane_core.specs.ProperRings.{MeetProperly}

-- an edge, which has index i, properly meets the edge with index k, if k is greater
abbrev pub MeetsLater : List Edge → Edge → ℕ → ℕ → Type 0
MeetsLater es e i k = (d : Edge) → i < k → k < length es → MeetProperly e (slice_index_or es k d)
