-- The pairs of two layers.
use Rattle.std.specs.Prelude.{ℕ, List}
use Rattle.layer_core.specs.Edits.{Layers}
use Rattle.filter_core.specs.Joins.{IsJoinList, StandIn}

-- exactly the pairs of two layers, in order
abbrev pub ArePairs : {G : Type 0} → (G → G → Type 0) → Layers G → List (ℕ × ℕ) → Type 0
ArePairs stands layers pairs = IsJoinList (StandIn stands layers.left layers.right) pairs
