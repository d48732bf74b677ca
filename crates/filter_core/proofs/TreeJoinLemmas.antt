-- The rows of a plan's tasks, once they are sorted, are the join list of two layers.
use Rattle.std.proofs.Common.{◌≡◌, ℕ, ◌∙◌, List, Option, Some, cond, map, sym, ap, subst, arith, Result, Ok, Err, IfOk}
use Rattle.std.specs.List.{flat_map}
use Rattle.std.specs.List.Sorted.{IsSorted, IsPermutation}
use Rattle.std.proofs.lemmas.List.Sorted.{sum_by-IsPermutation, Contains-permutation, IsPermutation-sym}
use Rattle.relation_core.specs.declared.relation.Relation.{Relation}
use Rattle.relation_core.specs.declared.join_relation.JoinRelation.{JoinRelation}
use Rattle.relation_core.specs.JoinRelations.{relation_of, forbids_disjoint}
use Rattle.relation_core.specs.Relations.{Holds, ForbidsDisjoint}
use Rattle.rtree_core.specs.declared.node.Entry.{Entry}
use Rattle.rtree_core.specs.declared.node.Node.{Node}
use Rattle.rtree_core.specs.Trees.{entries_in}
use Rattle.geom_core.specs.declared.shape.Shape.{Shape}
use Rattle.layer_core.specs.Layers.{Contents, IsLayer, with_number}
use Rattle.layer_core.specs.LayerTrees.{indexed, HoldsExactly}
use Rattle.descent_core.specs.Plans.{IsPlan}
use Rattle.descent_core.specs.Rows.{StandIn as EntriesStandIn}
use Rattle.descent_core.specs.Shares.{is_pair, IsJoin, RowsJoin}
use Rattle.descent_core.proofs.RowLemmas.{all_ascend}
use Rattle.deliver_core.specs.Collectors.{Delivery}
use Rattle.pair_core.specs.Pairs.{pair_cmp}
use Rattle.parallel_core.specs.Deliveries.{IsDelivered}
use Rattle.filter_core.specs.Joins.{StandIn, BoxesStandIn, IsJoinList, RowsAreJoinList, HasMarks}
use Rattle.filter_core.proofs.NumberLemmas.{held_by_number, listed_by_number}
use Rattle.filter_core.proofs.TreeFeatureLemmas.{same-contains, feature_of, entry_of}

module _ {G : Type 0} (box_of : G → Shape) (relation : Relation) (left right : Contents G) (left_root right_root : Option Node)
    (left_layer : IsLayer left) (right_layer : IsLayer right) (left_tree : HoldsExactly box_of left left_root) (right_tree : HoldsExactly box_of right right_root) where
  -- two entries of the trees are two features
  of_entries : (pair : ℕ × ℕ) → EntriesStandIn relation (entries_in left_root) (entries_in right_root) pair → StandIn (BoxesStandIn box_of relation) left right pair
  of_entries pair s =
      let f = feature_of box_of left.features s.first (same-contains (entries_in left_root) (map (indexed box_of) left.features) s.first
      (λ p. sym (left_tree p)) s.first_held) in
      let g = feature_of box_of right.features s.second (same-contains (entries_in right_root) (map (indexed box_of) right.features) s.second
      (λ p. sym (right_tree p)) s.second_held) in
      record {
        first = f.0;
        second = g.0;
        first_held = subst (λ (n : ℕ). with_number n left ≡ Some f.0) (ap (λ (e : Entry). e.number) f.2 ∙ sym (ap (λ (p : ℕ × ℕ). p.0) s.numbers))
            (held_by_number left.features f.0 left_layer.rising f.1);
        second_held = subst (λ (n : ℕ). with_number n right ≡ Some g.0) (ap (λ (e : Entry). e.number) g.2 ∙ sym (ap (λ (p : ℕ × ℕ). p.1) s.numbers))
            (held_by_number right.features g.0 right_layer.rising g.1);
        holds = subst (λ (e : Entry). Holds relation e.shape (box_of g.0.shape)) (sym f.2)
            (subst (λ (e : Entry). Holds relation s.first.shape e.shape) (sym g.2) s.holds);
      }

  -- and the other way round
  of_features : (pair : ℕ × ℕ) → StandIn (BoxesStandIn box_of relation) left right pair → EntriesStandIn relation (entries_in left_root) (entries_in right_root) pair
  of_features pair s =
      let a = listed_by_number left.features pair.0 s.first s.first_held in
      let b = listed_by_number right.features pair.1 s.second s.second_held in
      record {
        first = indexed box_of s.first;
        second = indexed box_of s.second;
        first_held = same-contains (map (indexed box_of) left.features) (entries_in left_root) (indexed box_of s.first) left_tree (entry_of box_of left.features s.first a.0);
        second_held = same-contains (map (indexed box_of) right.features) (entries_in right_root) (indexed box_of s.second) right_tree (entry_of box_of right.features s.second b.0);
        numbers = λ i. (sym a.1 i, sym b.1 i);
        holds = s.holds;
      }

  -- all pairs of the entries, sorted
  pub sorted_join : (all sorted : List (ℕ × ℕ)) → IsJoin relation (entries_in left_root) (entries_in right_root) all
      → IsPermutation all sorted → IsSorted pair_cmp sorted → IsJoinList (StandIn (BoxesStandIn box_of relation) left right) sorted
  sorted_join all sorted join same up = record {
    in_order = all_ascend sorted up
        (λ p. omega (arith, join.once p, sum_by-IsPermutation (λ q. cond {A = ℕ} (is_pair p q) 1 0) all sorted same));
    exact = λ pair. (
      (λ c. of_entries pair ((join.exact pair).0 (Contains-permutation sorted all pair (IsPermutation-sym all sorted same) c))),
      (λ s. Contains-permutation all sorted pair same ((join.exact pair).1 (of_features pair s))),
    );
  }

-- the rows of the tasks of two layers' trees
pub rows_are_list : {G E : Type 0} (box_of : G → Shape) (left right : Contents G) (left_root right_root left_tree right_tree : Option Node) (out : Result (List (Node × Node)) E)
    → IsLayer left → IsLayer right → HoldsExactly box_of left left_root → HoldsExactly box_of right right_root → left_tree ≡ left_root → right_tree ≡ right_root
    → IfOk out (λ tasks. (relation : Relation) → ForbidsDisjoint relation → RowsJoin relation (entries_in left_tree) (entries_in right_tree) tasks)
    → IfOk out (RowsAreJoinList box_of left right)
rows_are_list box_of left right left_root right_root left_tree right_tree (Err e) left_layer right_layer left_holds right_holds left_is right_is join = tt
rows_are_list box_of left right left_root right_root left_tree right_tree (Ok tasks) left_layer right_layer left_holds right_holds left_is right_is join =
    record {
      list = λ relation rows pairs forbids are same up.
          sorted_join box_of relation left right left_tree right_tree left_layer right_layer (subst (HoldsExactly box_of left) (sym left_is) left_holds)
          (subst (HoldsExactly box_of right) (sym right_is) right_holds) (flat_map (λ row. row) rows) pairs (join relation forbids rows are) same up;
    }

-- what workers have delivered of a plan's rows
pub delivered_list : {G : Type 0} (box_of : G → Shape) (left right : Contents G) (tasks : List (Node × Node)) (join : JoinRelation) (size : ℕ) (outcome : Delivery)
    → RowsAreJoinList box_of left right tasks → IsDelivered (relation_of join) tasks size outcome
    → IsJoinList (StandIn (BoxesStandIn box_of (relation_of join)) left right) outcome.pairs
delivered_list box_of left right tasks join size outcome rows d =
    rows.list (relation_of join) d.rows outcome.pairs (forbids_disjoint join) d.are_rows d.pairs d.ascending

pub delivered_marks : (left right : Option Node) (cut : ℕ) (tasks : List (Node × Node)) (relation : Relation) (size : ℕ) (outcome : Delivery)
    → IsPlan left right cut tasks → IsDelivered relation tasks size outcome → HasMarks relation left right cut size outcome
delivered_marks left right cut tasks relation size outcome plan d = record {
  tasks = tasks;
  rows = d.rows;
  plan = plan;
  are_rows = d.are_rows;
  history = d.history;
  closed = d.closed;
  marks = d.marks;
}

-- both
pub ruleset delivered = (delivered_list, delivered_marks)
