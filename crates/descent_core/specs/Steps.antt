-- One level down: the nodes below a node, and the tasks of the next round.
use Rattle.std.specs.Prelude.{◌≡◌, ◌≤◌, ◌<◌, ◌+◌, ◌-◌, Bool, List, [], ◌++◌, length, map, All}
use Rattle.std.specs.Prelude.{Option, Some, None}
use Rattle.std.specs.declared.alloc.Global.{Global}
use Rattle.std.specs.declared.vec.Vec.{Vec}
use Rattle.std.specs.Bool.{MatchBool}
use Rattle.std.specs.List.{flat_map}
use Rattle.std.specs.Borrow.{Bor}
use Rattle.geom_core.specs.Cells.{IsIn}
use Rattle.rtree_core.specs.declared.node.Node.{Node}
use Rattle.rtree_core.specs.Nodes.{entries_of, level_of, node_cover, IsLawful}
use Rattle.rtree_core.specs.Trees.{IsTree}
use Rattle.descent_core.specs.Lists.{IsKept}
use Rattle.descent_core.specs.Plans.{most_tasks, roots, CoversMeet, IsTask}

-- the nodes have the entries of the node and are one level below it, or the node is a leaf
pub record IsOneLower (n : Node) (below : List Node) : Type 0 where
  pub entries : entries_of n ≡ flat_map entries_of below
  pub lawful : All IsLawful below
  pub levels : All (λ m. level_of m ≡ level_of n - 1) below
  pub covers : All (λ m. IsIn (node_cover m) (node_cover n)) below

-- the nodes of a pair of references
abbrev pub nodes : Bor Node × Bor Node → Node × Node
nodes t = (t.0.now, t.1.now)

-- the nodes of pairs of references
abbrev pub nodes_of : List (Bor Node × Bor Node) → List (Node × Node)
nodes_of = map nodes

-- the invariant of the tasks of a plan
pub record AreTasks (tasks : List (Node × Node)) : Type 0 where
  pub few : length tasks ≤ most_tasks
  pub each : All IsTask tasks

-- two lawful nodes whose covers meet
pub record AreMeeting (task : Node × Node) : Type 0 where
  pub left : IsLawful task.0
  pub right : IsLawful task.1
  pub meet : CoversMeet task

-- the roots of two trees, as a list: their pair, if both exist and their covers meet
pub record AreTop (left right : Option Node) (top : List (Node × Node)) : Type 0 where
  pub left_tree : IsTree left
  pub right_tree : IsTree right
  pub kept : IsKept CoversMeet (roots left right) top
  pub meeting : All AreMeeting top
  pub one : length top ≤ 1

-- the pairs whose covers meet were added to the end of the list, which had room for them
pub record AreTaken (offered old new : List (Node × Node)) : Type 0 where
  pub met : List (Node × Node)
  pub kept : IsKept CoversMeet offered met
  pub items : new ≡ old ++ met
  pub few : length new ≤ most_tasks

-- there was no room for the pairs whose covers meet
pub record AreTooMany (offered old : List (Node × Node)) : Type 0 where
  pub met : List (Node × Node)
  pub kept : IsKept CoversMeet offered met
  pub many : most_tasks < length old + length met

-- the result of offering these pairs to a list, by whether there was room
abbrev pub TakesIn : List (Node × Node) → List (Node × Node) → List (Node × Node) → Bool → Type 0
TakesIn offered old new fits =
    MatchBool fits (AreTaken offered old new) (AreTooMany offered old)

-- the list of the next round, if they are not too many for it
abbrev pub IsNextRound : List (Node × Node) → Option (Vec (Bor Node × Bor Node) Global) → Type 0
IsNextRound offered None = AreTooMany offered []
IsNextRound offered (Some next) = AreTaken offered [] (nodes_of next.items)
