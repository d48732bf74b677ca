-- The pairs found by a descent.
use Rattle.std.specs.Prelude.{◌≡◌, ◌≤◌, ◌*◌, ◌↔◌, ℕ, List, ◌++◌, Contains, count_by}
use Rattle.relation_core.specs.declared.relation.Relation.{Relation}
use Rattle.rtree_core.specs.declared.node.Entry.{Entry}
use Rattle.rtree_core.specs.Trees.{has_number}
use Rattle.descent_core.specs.Rows.{StandIn}
use Rattle.descent_core.specs.Shares.{is_pair}

-- the pairs of numbers of these entries that stand in the relation, each at most as often as there
-- are two entries with its numbers
pub record Finds (relation : Relation) (es fs : List Entry) (found : List (ℕ × ℕ)) : Type 0 where
  pub exact : (pair : ℕ × ℕ) → Contains found pair ↔ StandIn relation es fs pair
  pub once : (pair : ℕ × ℕ) → count_by (is_pair pair) found
      ≤ count_by (has_number pair.0) es * count_by (has_number pair.1) fs

-- the second list is the first with those pairs at its end
pub record Adds (relation : Relation) (es fs : List Entry) (old new : List (ℕ × ℕ)) : Type 0 where
  pub found : List (ℕ × ℕ)
  pub finds : Finds relation es fs found
  pub items : new ≡ old ++ found
