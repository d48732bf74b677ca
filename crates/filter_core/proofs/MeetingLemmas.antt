-- The boxes that stand in the relation `intersects` are those that meet.
use Rattle.std.proofs.Common.{◌≡◌, ℕ, List, Result, Ok, Err, IfOk, subst}
use Rattle.geom_core.specs.declared.shape.Shape.{Shape}
use Rattle.relation_core.specs.declared.relation.Relation.{Relation}
use Rattle.relation_core.specs.declared.relation.Relation.TheVariants.{Intersects}
use Rattle.relation_core.specs.Relations.{ForbidsDisjoint}
use Rattle.relation_core.proofs.MatrixOf.{sets_law}
use Rattle.layer_core.specs.Layers.{Contents}
use Rattle.deliver_core.specs.Collectors.{Delivery}
use Rattle.filter_core.specs.Joins.{StandIn, BoxesStandIn, BoxesMeet, IsJoinList}

pub forbids_disjoint : ForbidsDisjoint Intersects
forbids_disjoint a b apart holds = apart ((sets_law Intersects a b).0 holds)

-- features whose geometries stand in one relation stand in each that follows from it
pub stand_alike : {G H : Type 0} (R S : G → H → Type 0) (left : Contents G) (right : Contents H) (pair : ℕ × ℕ) → ((g : G) (h : H) → R g h → S g h)
    → StandIn R left right pair → StandIn S left right pair
stand_alike R S left right pair follows s = record {
  first = s.first;
  second = s.second;
  first_held = s.first_held;
  second_held = s.second_held;
  holds = follows s.first.shape s.second.shape s.holds;
}

meeting_list : {G : Type 0} (box_of : G → Shape) (left right : Contents G) (pairs : List (ℕ × ℕ))
    → IsJoinList (StandIn (BoxesStandIn box_of Intersects) left right) pairs → IsJoinList (StandIn (BoxesMeet box_of) left right) pairs
meeting_list box_of left right pairs list =
    let stand = BoxesStandIn box_of Intersects in
    let meet = BoxesMeet box_of in
    record {
      in_order = list.in_order;
      exact = λ pair. (
        (λ c. stand_alike stand meet left right pair (λ g h. (sets_law Intersects (box_of g) (box_of h)).0) ((list.exact pair).0 c)),
        (λ s. (list.exact pair).1 (stand_alike meet stand left right pair (λ g h. (sets_law Intersects (box_of g) (box_of h)).1) s)),
      );
    }

pub meeting_pairs : {G E : Type 0} (box_of : G → Shape) (left right : Contents G) (relation : Relation) (out : Result Delivery E) → relation ≡ Intersects
    → IfOk out (λ outcome. IsJoinList (StandIn (BoxesStandIn box_of relation) left right) outcome.pairs)
    → IfOk out (λ outcome. IsJoinList (StandIn (BoxesMeet box_of) left right) outcome.pairs)
meeting_pairs box_of left right relation (Err e) is list = tt
meeting_pairs box_of left right relation (Ok outcome) is list =
    meeting_list box_of left right outcome.pairs
    (subst (λ (r : Relation). IsJoinList (StandIn (BoxesStandIn box_of r) left right) outcome.pairs) is list)
