-- The refinement of the pairs of two layers whose boxes meet.
use Rattle.std.proofs.Common.{◌≡◌, ℕ, Bool, List, All, sym, subst}
use Rattle.relation_core.specs.declared.matrix.Matrix.{Matrix}
use Rattle.layer_core.specs.Layers.{Contents}
use Rattle.filter_core.specs.Joins.{StandIn, IsJoinList}
use Rattle.refine_core.specs.declared.refined.Refined.{Refined}
use Rattle.refine_core.specs.Refinements.{AreRefined, HoldsEachOnce, IsInOrder, IsPairIn, pairs_of}
use Rattle.any_relation_core.specs.declared.any_relation.AnyRelation.{AnyRelation}
use Rattle.any_geometry_core.specs.declared.geometry.AnyGeometry.{AnyGeometry}
use Rattle.any_join_core.specs.declared.features.RelatedFeatures.{RelatedFeatures}
use Rattle.any_join_core.specs.Conditions.{left_of, right_of, wanted}
use Rattle.any_join_core.specs.Matches.{AreRelated, BoxesMeet, HaveMatrix, HasMatrix}
use Rattle.any_join_core.proofs.JoinLemmas.{before, each_listed, listed_once, listed_in_order, list_of_each_once, refined_answers}

abbrev near : RelatedFeatures → ℕ → ℕ → Type 0
near c i j = StandIn BoxesMeet (left_of c) (right_of c) (i, j)

abbrev stands : RelatedFeatures → ℕ → ℕ → Type 0
stands c i j = StandIn (AreRelated (wanted c)) (left_of c) (right_of c) (i, j)

abbrev answers : RelatedFeatures → ℕ → ℕ → Matrix → Type 0
answers c i j m = StandIn (HaveMatrix m) (left_of c) (right_of c) (i, j)

-- a fact of two layers, for two that are equal to them
moved : (P : Contents AnyGeometry → Contents AnyGeometry → Type 0) (l r left right : Contents AnyGeometry) → l ≡ left → r ≡ right → P l r → P left right
moved P l r left right l_is r_is fact = subst (λ (x : Contents AnyGeometry). P x right) l_is (subst (λ (y : Contents AnyGeometry). P l y) r_is fact)

module _ (c : RelatedFeatures) (relation : AnyRelation) (left right : Contents AnyGeometry) (left_is : left_of c ≡ left) (right_is : right_of c ≡ right)
    (relation_is : wanted c ≡ relation) where
  -- the pairs whose boxes meet, as the condition sees them
  near_list : (pairs now : List (ℕ × ℕ)) → now ≡ pairs → IsJoinList (StandIn BoxesMeet left right) pairs → IsJoinList (λ p. near c p.0 p.1) now
  near_list pairs now now_is list =
      subst (λ (ps : List (ℕ × ℕ)). IsJoinList (λ p. near c p.0 p.1) ps) (sym now_is)
      (moved (λ x y. IsJoinList (StandIn BoxesMeet x y) pairs) left right (left_of c) (right_of c) (sym left_is) (sym right_is) list)

  pub near_pairs : (pairs now : List (ℕ × ℕ)) → now ≡ pairs → IsJoinList (StandIn BoxesMeet left right) pairs → All (IsPairIn (near c)) now
  near_pairs pairs now now_is list = each_listed (near c) now (near_list pairs now now_is list)

  -- those that stand in the relation are its join list
  pub related_list : {A : Type 0} (pairs now : List (ℕ × ℕ)) (matches : List (Refined A)) → now ≡ pairs → IsJoinList (StandIn BoxesMeet left right) pairs
      → (HoldsEachOnce (near c) now → HoldsEachOnce (stands c) (pairs_of matches))
      → ((test : ℕ × ℕ → ℕ × ℕ → Bool) → IsInOrder test now → IsInOrder test (pairs_of matches))
      → IsJoinList (StandIn (AreRelated relation) left right) (pairs_of matches)
  related_list pairs now matches now_is list each_once in_order =
      let here = near_list pairs now now_is list in
      moved (λ x y. IsJoinList (StandIn (AreRelated relation) x y) (pairs_of matches)) (left_of c) (right_of c) left right left_is right_is
      (subst (λ (w : AnyRelation). IsJoinList (StandIn (AreRelated w) (left_of c) (right_of c)) (pairs_of matches)) relation_is
      (list_of_each_once (stands c) (pairs_of matches) (each_once (listed_once (near c) now here)) (in_order before (listed_in_order (near c) now here))))

  -- each with its matrix
  pub has_matrices : (now : List (ℕ × ℕ)) (matches : List (Refined Matrix)) → AreRefined (stands c) (answers c) now matches → All (HasMatrix left right) matches
  has_matrices now matches refined =
      moved (λ x y. All (HasMatrix x y) matches) (left_of c) (right_of c) left right left_is right_is (refined_answers (stands c) (answers c) refined)
