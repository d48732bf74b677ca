-- How tasks divide the entries of two trees, and the pairs of all their rows.
use Rattle.std.specs.Prelude.{◌≡◌, ◌≤◌, ◌==◌, ◌&&◌, ◌↔◌, ℕ, Bool, List, length, All, Contains, Some}
use Rattle.std.specs.Prelude.{slice_get, count_by}
use Rattle.std.specs.List.{flat_map}
use Rattle.relation_core.specs.declared.relation.Relation.{Relation}
use Rattle.geom_core.specs.Cells.{Meets}
use Rattle.rtree_core.specs.declared.node.Entry.{Entry}
use Rattle.rtree_core.specs.declared.node.Node.{Node}
use Rattle.rtree_core.specs.Nodes.{entries_of}
use Rattle.descent_core.specs.Rows.{StandIn, IsRow}

-- the subtrees of the task hold these two entries
abbrev pub HoldsBoth : Entry → Entry → Node × Node → Type 0
HoldsBoth e f task = Contains (entries_of task.0) e × Contains (entries_of task.1) f

-- exactly one of the tasks holds these two entries
pub record IsInOne (tasks : List (Node × Node)) (e f : Entry) : Type 0 where
  pub place : ℕ
  pub task : Node × Node
  pub there : slice_get tasks place ≡ Some task
  pub holds : HoldsBoth e f task
  pub only : (k : ℕ) (other : Node × Node) →
      slice_get tasks k ≡ Some other → HoldsBoth e f other → k ≡ place

-- the tasks hold only these entries, and each two that meet are in exactly one task
pub record ShareOut (left right : List Entry) (tasks : List (Node × Node)) : Type 0 where
  pub lefts : All (λ t. All (Contains left) (entries_of t.0)) tasks
  pub rights : All (λ t. All (Contains right) (entries_of t.1)) tasks
  pub one : (e f : Entry) → Contains left e → Contains right f →
      Meets e.shape f.shape → IsInOne tasks e f

-- the rows of tasks, in order
pub record AreRows (relation : Relation) (tasks : List (Node × Node))
    (rows : List (List (ℕ × ℕ))) : Type 0 where
  pub as_many : length rows ≡ length tasks
  pub each : (k : ℕ) (task : Node × Node) (row : List (ℕ × ℕ)) →
      slice_get tasks k ≡ Some task → slice_get rows k ≡ Some row → IsRow relation task row

-- the test of being this pair
abbrev pub is_pair : ℕ × ℕ → ℕ × ℕ → Bool
is_pair p q = (q.0 == p.0) && (q.1 == p.1)

-- the pairs of these entries that stand in the relation, each once
pub record IsJoin (relation : Relation) (left right : List Entry) (all : List (ℕ × ℕ))
    : Type 0 where
  pub exact : (pair : ℕ × ℕ) → Contains all pair ↔ StandIn relation left right pair
  pub once : (pair : ℕ × ℕ) → count_by (is_pair pair) all ≤ 1

-- the rows of the tasks together are the pairs of these entries
abbrev pub RowsJoin : Relation → List Entry → List Entry → List (Node × Node) → Type 0
RowsJoin relation left right tasks = (rows : List (List (ℕ × ℕ))) →
    AreRows relation tasks rows → IsJoin relation left right (flat_map (λ row. row) rows)
