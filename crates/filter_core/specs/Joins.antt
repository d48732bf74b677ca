-- The pairs of two layers that stand in a relation, and the marks of their delivery.
use Rattle.std.specs.Prelude.{◌≡◌, ◌↔◌, ℕ, List, Option, Some, length, AllPairs, Contains}
use Rattle.std.specs.Prelude.{IsPermutation, IsSorted}
use Rattle.std.specs.List.{flat_map}
use Rattle.relation_core.specs.declared.relation.Relation.{Relation}
use Rattle.relation_core.specs.Relations.{Holds, ForbidsDisjoint}
use Rattle.rtree_core.specs.declared.node.Node.{Node}
use Rattle.geom_core.specs.declared.shape.Shape.{Shape}
use Rattle.geom_core.specs.Cells.{Meets}
use Rattle.layer_core.specs.Layers.{Feature, Contents, with_number}
use Rattle.descent_core.specs.Plans.{IsPlan}
use Rattle.descent_core.specs.Rows.{Precedes}
use Rattle.descent_core.specs.Shares.{AreRows}
use Rattle.deliver_core.specs.Collectors.{Delivery}
use Rattle.pair_core.specs.Pairs.{pair_cmp}
use Rattle.deliver_core.specs.Marks.{IsLegalHistory, IsClosed}
use Rattle.parallel_core.specs.Deliveries.{AreMarks}

-- the geometries of the features with these numbers stand in the relation R
pub record StandIn
    {G H : Type 0} (R : G → H → Type 0) (left : Contents G) (right : Contents H) (pair : ℕ × ℕ)
    : Type 0 where
  pub first : Feature G
  pub second : Feature H
  pub first_held : with_number pair.0 left ≡ Some first
  pub second_held : with_number pair.1 right ≡ Some second
  pub holds : R first.shape second.shape

-- exactly the pairs of numbers that stand, each once and in order; since numbers ascend along a
-- layer, this is the order of the left layer, and for each left feature that of the right
pub record IsJoinList (Stands : ℕ × ℕ → Type 0) (pairs : List (ℕ × ℕ)) : Type 0 where
  pub in_order : AllPairs Precedes pairs
  pub exact : (pair : ℕ × ℕ) → Contains pairs pair ↔ Stands pair

-- the boxes of two geometries stand in the relation; a shape is its own box
abbrev pub BoxesStandIn : {G : Type 0} → (G → Shape) → Relation → G → G → Type 0
BoxesStandIn box_of relation g h = Holds relation (box_of g) (box_of h)

-- the boxes of two geometries share a cell
abbrev pub BoxesMeet : {G : Type 0} → (G → Shape) → G → G → Type 0
BoxesMeet box_of g h = Meets (box_of g) (box_of h)

-- the rows of these tasks, in ascending order, are the join list of the boxes of two layers
pub record RowsAreJoinList
    {G : Type 0} (box_of : G → Shape) (left right : Contents G) (tasks : List (Node × Node))
    : Type 0 where
  pub list : (relation : Relation) (rows : List (List (ℕ × ℕ))) (pairs : List (ℕ × ℕ))
      → ForbidsDisjoint relation → AreRows relation tasks rows
      → IsPermutation (flat_map (λ row. row) rows) pairs → IsSorted pair_cmp pairs
      → IsJoinList (StandIn (BoxesStandIn box_of relation) left right) pairs

-- for the plan of the trees with these roots at this cut: the marks are a closed legal history, and
-- those of each task are those of its script, whose batches have `size` pairs of its row
pub record HasMarks (relation : Relation) (left right : Option Node) (cut size : ℕ)
    (outcome : Delivery) : Type 0 where
  pub tasks : List (Node × Node)
  pub rows : List (List (ℕ × ℕ))
  pub plan : IsPlan left right cut tasks
  pub are_rows : AreRows relation tasks rows
  pub history : IsLegalHistory (length tasks) outcome.marks
  pub closed : IsClosed (length tasks) outcome.marks
  pub marks : AreMarks size rows outcome
