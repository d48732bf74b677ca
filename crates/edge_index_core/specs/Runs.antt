-- Runs of consecutive edges, and their boxes.
use Rattle.std.specs.Prelude.{◌≡◌, ℕ, List, [], ◌∷◌, take, drop, All}
use Rattle.geom_core.specs.declared.shape.Shape.{Shape}
use Rattle.geom_core.specs.Cells.{IsIn}
use Rattle.plane_core.specs.declared.edge.Edge.{Edge}
use Rattle.edge_index_core.specs.Bounds.{IsBoxOf}

-- the number of edges of a run
abbrev pub run_len : ℕ
run_len = 8

-- the edge lies in a closed box
pub record HoldsEdge (s : Shape) (e : Edge) : Type 0 where
  pub own : Shape
  pub own_is : IsBoxOf e own
  pub within : IsIn own s

-- boxes that hold the edges of the runs in order; the last run may be shorter
abbrev pub AreRunBoxes : List Edge → List Shape → Type 0
AreRunBoxes es [] = es ≡ []
AreRunBoxes es (s ∷ ss) = All (HoldsEdge s) (take run_len es) × AreRunBoxes (drop run_len es) ss
