-- The delivery of a plan by workers.
use Rattle.std.specs.Prelude.{◌≡◌, ℕ, List, Some, length, slice_get, IsPermutation, IsSorted}
use Rattle.std.specs.List.{flat_map}
use Rattle.relation_core.specs.declared.relation.Relation.{Relation}
use Rattle.rtree_core.specs.declared.node.Node.{Node}
use Rattle.descent_core.specs.Shares.{AreRows}
use Rattle.deliver_core.specs.Collectors.{Delivery}
use Rattle.pair_core.specs.Pairs.{pair_cmp}
use Rattle.deliver_core.specs.Marks.{IsLegalHistory, IsClosed, marks_of, script_marks}
use Rattle.deliver_core.specs.Scripts.{batches_for}

-- the marks of each task are those of its script, given the rows of the tasks in their order
abbrev pub AreMarks : ℕ → List (List (ℕ × ℕ)) → Delivery → Type 0
AreMarks size rows outcome = (task : ℕ) (row : List (ℕ × ℕ)) → slice_get rows task ≡ Some row
    → marks_of task outcome.marks ≡ script_marks task (batches_for size row)

-- each task of the plan was delivered whole, once and in order, in batches of `size` pairs, and the
-- pairs of all rows are in ascending order
pub record IsDelivered (relation : Relation) (plan : List (Node × Node)) (size : ℕ)
    (outcome : Delivery) : Type 0 where
  pub rows : List (List (ℕ × ℕ))
  pub are_rows : AreRows relation plan rows
  pub history : IsLegalHistory (length plan) outcome.marks
  pub closed : IsClosed (length plan) outcome.marks
  pub marks : AreMarks size rows outcome
  pub pairs : IsPermutation (flat_map (λ row. row) rows) outcome.pairs
  pub ascending : IsSorted pair_cmp outcome.pairs
