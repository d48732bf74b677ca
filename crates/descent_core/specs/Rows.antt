-- The pairs of numbers of the entries that stand in a relation.
use Rattle.std.specs.Prelude.{◌≡◌, ◌<◌, ◌⊎◌, ◌↔◌, ℕ, List, AllPairs, Contains}
use Rattle.relation_core.specs.declared.relation.Relation.{Relation}
use Rattle.relation_core.specs.Relations.{Holds}
use Rattle.rtree_core.specs.declared.node.Entry.{Entry}
use Rattle.rtree_core.specs.declared.node.Node.{Node}
use Rattle.rtree_core.specs.Nodes.{entries_of}

-- by the first number, and then by the second
abbrev pub Precedes : ℕ × ℕ → ℕ × ℕ → Type 0
Precedes p q = (p.0 < q.0) ⊎ ((p.0 ≡ q.0) × (p.1 < q.1))

-- the numbers of an entry of the first list and one of the second, whose shapes stand in the
-- relation
pub record StandIn (relation : Relation) (es fs : List Entry) (pair : ℕ × ℕ) : Type 0 where
  pub first : Entry
  pub second : Entry
  pub first_held : Contains es first
  pub second_held : Contains fs second
  pub numbers : pair ≡ (first.number, second.number)
  pub holds : Holds relation first.shape second.shape

-- the row of a task: the pairs of its two subtrees that stand in the relation, ascending
pub record IsRow (relation : Relation) (task : Node × Node) (row : List (ℕ × ℕ)) : Type 0 where
  pub ascending : AllPairs Precedes row
  pub exact : (pair : ℕ × ℕ) →
      Contains row pair ↔ StandIn relation (entries_of task.0) (entries_of task.1) pair
