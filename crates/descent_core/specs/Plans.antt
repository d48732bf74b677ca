-- The plan of a join: the pairs of nodes that are its tasks.
use Rattle.std.specs.Prelude.{ℕ, suc, ◌<◌, ◌≤◌, List, [], ◌∷◌, length, count_by, Option, Some, None}
use Rattle.std.specs.List.{flat_map}
use Rattle.geom_core.specs.Cells.{Meets}
use Rattle.rtree_core.specs.declared.node.Node.{Node}
use Rattle.rtree_core.specs.Nodes.{entries_of, node_cover, IsLawful}
use Rattle.rtree_core.specs.Trees.{has_number}
use Rattle.descent_core.specs.Lists.{IsKept}
use Rattle.descent_core.specs.Depths.{at_depth}

-- the greatest number of tasks of a plan
abbrev pub most_tasks : ℕ
most_tasks = 65536

-- the covers of the two nodes share a cell
abbrev pub CoversMeet : Node × Node → Type 0
CoversMeet p = Meets (node_cover p.0) (node_cover p.1)

-- the pair of the roots of two trees, if both have one
abbrev pub roots : Option Node → Option Node → List (Node × Node)
roots (Some a) (Some b) = (a, b) ∷ []
roots (Some a) None = []
roots None right = []

-- the pairs at a depth below these whose covers meet
abbrev pub AreAt : List (Node × Node) → ℕ → List (Node × Node) → Type 0
AreAt above d met = IsKept CoversMeet (flat_map (at_depth d) above) met

-- they are not too many for a plan
abbrev pub AreFewAt : List (Node × Node) → ℕ → Type 0
AreFewAt above d = (met : List (Node × Node)) × AreAt above d met × (length met ≤ most_tasks)

abbrev pub AreTooManyAt : List (Node × Node) → ℕ → Type 0
AreTooManyAt above d = (met : List (Node × Node)) × AreAt above d met × (most_tasks < length met)

-- the pairs at the greatest depth, up to the cut, such that at no depth up to it are too many
pub record AreDeepest (above : List (Node × Node)) (cut : ℕ) (tasks : List (Node × Node))
    : Type 0 where
  pub depth : ℕ
  pub in_cut : depth ≤ cut
  pub tasks_are : AreAt above depth tasks
  pub few : (d : ℕ) → d ≤ depth → AreFewAt above d
  pub greatest : depth < cut → AreTooManyAt above (suc depth)

-- the tasks of the plan of two trees, given their roots
abbrev pub IsPlan : Option Node → Option Node → ℕ → List (Node × Node) → Type 0
IsPlan left right cut tasks = AreDeepest (roots left right) cut tasks

-- a task: two lawful nodes, in neither of which two entries have the same number
pub record IsTask (task : Node × Node) : Type 0 where
  pub left : IsLawful task.0
  pub right : IsLawful task.1
  pub left_once : (k : ℕ) → count_by (has_number k) (entries_of task.0) ≤ 1
  pub right_once : (k : ℕ) → count_by (has_number k) (entries_of task.1) ≤ 1
