-- Edges near an edge.
use Rattle.std.specs.Prelude.{◌≡◌, ◌⊎◌, false, List}
use Rattle.std.specs.List.{Contains, slice_index_or}
use Rattle.plane_core.specs.declared.edge.Edge.{Edge}
use Rattle.plane_core.specs.Boxes.{do_boxes_meet}
use Rattle.rtree_core.specs.declared.node.Entry.{Entry}
use Rattle.noding_core.specs.Nodes.{IsAmong}

-- an edge is in a list, or its box doesn't meet that of the first
abbrev pub IsFound : Edge → List Edge → Edge → Type 0
IsFound e near f = Contains near f ⊎ (do_boxes_meet e f ≡ false)

-- the same of the edge that an entry numbers
abbrev pub IsEntryFound : Edge → List Edge → List Edge → Entry → Type 0
IsEntryFound e es near x = (d : Edge) → IsFound e near (slice_index_or es x.number d)

-- what was added to a list is among some edges
abbrev pub AddsAmong : List Edge → List Edge → List Edge → Type 0
AddsAmong es old new = (f : Edge) → IsAmong f new → IsAmong f old ⊎ IsAmong f es
