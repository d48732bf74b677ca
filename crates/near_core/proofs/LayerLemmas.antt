-- The join lists of two layers, as the condition of near features sees them.
use Rattle.std.proofs.Common.{◌≡◌, ℕ, List, All, sym, subst}
use Rattle.geom_core.specs.declared.shape.Shape.{Shape}
use Rattle.plane_core.specs.Points.{Point}
use Rattle.layer_core.specs.Layers.{Contents}
use Rattle.filter_core.specs.Joins.{StandIn, IsJoinList}
use Rattle.refine_core.specs.declared.refined.Refined.{Refined}
use Rattle.distance_core.specs.declared.nearness.Nearness.{Nearness}
use Rattle.near_core.specs.declared.features.NearFeatures.{NearFeatures}
use Rattle.near_core.specs.declared.grown.Grown.{Grown}
use Rattle.near_core.specs.Conditions.{left_of, right_of, wanted}
use Rattle.near_core.specs.Lists.{HasAnswer}
use Rattle.near_core.specs.Near.{BoxesMeet, AreWanted, HaveSquare, HasSquare}

-- a fact of two layers, for two that are equal to them
pub moved : {A : Type 0} (P : Contents A → Contents A → Type 0) (l r left right : Contents A) → l ≡ left → r ≡ right → P l r → P left right
moved {A} P l r left right l_is r_is fact =
    subst (λ (x : Contents A). P x right) l_is (subst (λ (y : Contents A). P l y) r_is fact)

module _ {G Q F : Type 0} (c : NearFeatures G Q F) (left right : Contents (Grown G)) (left_is : left_of c ≡ left) (right_is : right_of c ≡ right) where
  -- the pairs whose grown boxes meet
  pub meeting_list : (box_of : G → Shape) (pairs now : List (ℕ × ℕ)) → now ≡ pairs → IsJoinList (StandIn (BoxesMeet box_of) left right) pairs
      → IsJoinList (λ p. StandIn (BoxesMeet box_of) (left_of c) (right_of c) (p.0, p.1)) now
  meeting_list box_of pairs now now_is list =
      subst (λ (ps : List (ℕ × ℕ)). IsJoinList (λ p. StandIn (BoxesMeet box_of) (left_of c) (right_of c) (p.0, p.1)) ps) (sym now_is)
      (moved (λ x y. IsJoinList (StandIn (BoxesMeet box_of) x y) pairs) left right (left_of c) (right_of c) (sym left_is) (sym right_is) list)

  -- and those that are asked for
  pub wanted_list : (has_point : G → Point → Type 0) (nearness : Nearness) (pairs : List (ℕ × ℕ)) → wanted c ≡ nearness
      → IsJoinList (λ p. StandIn (AreWanted has_point (wanted c)) (left_of c) (right_of c) (p.0, p.1)) pairs
      → IsJoinList (StandIn (AreWanted has_point nearness) left right) pairs
  wanted_list has_point nearness pairs nearness_is list =
      moved (λ x y. IsJoinList (StandIn (AreWanted has_point nearness) x y) pairs) (left_of c) (right_of c) left right left_is right_is
      (subst (λ (n : Nearness). IsJoinList (StandIn (AreWanted has_point n) (left_of c) (right_of c)) pairs) nearness_is list)

  -- each with its squared distance
  pub with_squares : {S : Type 0} (fraction : S → ℕ × ℕ) (has_point : G → Point → Type 0) (matches : List (Refined S))
      → All (HasAnswer (λ i j s. StandIn (HaveSquare fraction has_point s) (left_of c) (right_of c) (i, j))) matches
      → All (HasSquare fraction has_point left right) matches
  with_squares fraction has_point matches all =
      moved (λ x y. All (HasSquare fraction has_point x y) matches) (left_of c) (right_of c) left right left_is right_is all
