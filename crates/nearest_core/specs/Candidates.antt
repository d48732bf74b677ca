-- The candidates of a search, and their order.
use Rattle.std.specs.Prelude.{◌≡◌, ◌<◌, ◌≤◌, ◌⊎◌}
use Rattle.std.specs.declared.cmp.Ordering.{Ordering}
use Rattle.std.specs.declared.cmp.Reverse.{Reverse}
use Rattle.nearest_core.specs.contracts.candidate.CandidateOrd.TheImpl as order
use Rattle.nearest_core.specs.declared.candidate.Item.{Item}
use Rattle.nearest_core.specs.declared.candidate.Item.TheVariants.{Subtree, Feature}
use Rattle.nearest_core.specs.declared.candidate.Candidate.{Candidate}

-- a subtree comes before a feature, and features come by number
abbrev pub IsItemNoLater : Item → Item → Type 0
IsItemNoLater (Subtree n) other = Unit {0}
IsItemNoLater (Feature k) (Subtree n) = ⊥
IsItemNoLater (Feature k) (Feature l) = k ≤ l

-- by the squared distance, and then by the item
abbrev pub IsNoLater : Candidate → Candidate → Type 0
IsNoLater c d = (c.square < d.square) ⊎ ((c.square ≡ d.square) × IsItemNoLater c.item d.item)

-- the order of a heap whose greatest item is the first candidate
abbrev pub nearest_first : Reverse Candidate → Reverse Candidate → Ordering
nearest_first a b = (order.ghosts).cmp b.0 a.0
