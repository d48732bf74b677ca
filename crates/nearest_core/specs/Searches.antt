-- The candidates in the queue of a search, and the features that they stand for.
use Rattle.std.specs.Prelude.{◌≡◌, ◌<◌, ℕ, ◌+◌, ◌*◌, List, [], ◌∷◌, ◌++◌, map, length}
use Rattle.std.specs.Prelude.{All, IsPermutation, sum_by}
use Rattle.std.specs.List.{flat_map}
use Rattle.geom_core.specs.declared.shape.Shape.{Shape}
use Rattle.rtree_core.specs.declared.node.Entry.{Entry}
use Rattle.rtree_core.specs.declared.node.Node.{Node}
use Rattle.rtree_core.specs.Nodes.{entries_of, level_of, node_cover, IsLawful}
use Rattle.nearest_core.specs.declared.candidate.Item.{Item}
use Rattle.nearest_core.specs.declared.candidate.Item.TheVariants.{Subtree, Feature}
use Rattle.nearest_core.specs.declared.candidate.Candidate.{Candidate}
use Rattle.nearest_core.specs.Squares.{square_of}

-- a feature by the squared distance of its box from a shape, and its number
pub record BoxedFeature : Type 0 where
  pub square : ℕ
  pub number : ℕ

-- an entry as such a feature
abbrev pub boxed_of : Shape → Entry → BoxedFeature
boxed_of shape e = record { square = square_of shape e.shape; number = e.number }

-- the row of these entries
abbrev pub row_of : Shape → List Entry → List BoxedFeature
row_of shape entries = map (boxed_of shape) entries

abbrev pub item_row : Shape → ℕ → Item → List BoxedFeature
item_row shape square (Subtree n) = row_of shape (entries_of n.now)
item_row shape square (Feature number) = record { square = square; number = number } ∷ []

-- the features that a candidate stands for
abbrev pub stands_for : Shape → Candidate → List BoxedFeature
stands_for shape c = item_row shape c.square c.item

abbrev pub IsItemOf : Shape → ℕ → Item → Type 0
IsItemOf shape square (Subtree n) =
    IsLawful n.now × (square ≡ square_of shape (node_cover n.now))
IsItemOf shape square (Feature number) = Unit {0}

-- a subtree is lawful, and its squared distance is that of its cover
abbrev pub IsCandidate : Shape → Candidate → Type 0
IsCandidate shape c = IsItemOf shape c.square c.item

abbrev pub item_work : Item → ℕ
item_work (Subtree n) = (level_of n.now + 2) * length (entries_of n.now)
item_work (Feature number) = 1

-- a bound on how many candidates are taken out for this one
abbrev pub work_of : Candidate → ℕ
work_of c = item_work c.item

-- a queue gains candidates that stand for this row, with less work than this
pub record Adds (shape : Shape) (row : List BoxedFeature) (work : ℕ) (old new : List Candidate)
    : Type 0 where
  pub more : List Candidate
  pub added : IsPermutation (more ++ old) new
  pub same : flat_map (stands_for shape) more ≡ row
  pub each : All (IsCandidate shape) more
  pub work_is : sum_by work_of more ≡ work

-- a queue gains these entries
abbrev pub AddsEntries : Shape → List Entry → List Candidate → List Candidate → Type 0
AddsEntries shape entries old new = Adds shape (row_of shape entries) (length entries) old new

abbrev pub node_work : Node → ℕ
node_work n = (level_of n + 2) * length (entries_of n)

-- a queue gains these subtrees
abbrev pub AddsNodes : Shape → List Node → List Candidate → List Candidate → Type 0
AddsNodes shape nodes old new =
    Adds shape (row_of shape (flat_map entries_of nodes)) (sum_by node_work nodes) old new

-- a queue gains what a node holds, with less work than the node
pub record Opens (shape : Shape) (n : Node) (old new : List Candidate) : Type 0 where
  pub work : ℕ
  pub adds : Adds shape (row_of shape (entries_of n)) work old new
  pub less : work < node_work n
