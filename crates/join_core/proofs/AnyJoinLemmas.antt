-- The report of the candidates of a join of any geometry that stand in its relation.
use Rattle.std.proofs.Common.{◌≡◌, ℕ, List, All, Result, IfOk, subst, sym, true}
use Rattle.layer_core.specs.Edits.{Layers}
use Rattle.layer_core.specs.Layers.{Contents, with_number}
use Rattle.any_relation_core.specs.declared.any_relation.AnyRelation.{AnyRelation}
use Rattle.any_geometry_core.specs.declared.geometry.AnyGeometry.{AnyGeometry}
use Rattle.filter_core.specs.Joins.{IsJoinList, StandIn}
use Rattle.refine_core.specs.declared.refined.Refined.{Refined}
use Rattle.refine_core.specs.Refinements.{AreRefined, IsPairIn, pairs_of}
use Rattle.refine_core.proofs.RefinementLemmas.{all_pairs_refined, each_once}
use Rattle.any_join_core.specs.declared.features.RelatedFeatures.{RelatedFeatures}
use Rattle.any_join_core.specs.Conditions.{left_of, right_of, wanted}
use Rattle.any_join_core.specs.Matches.{AreRelated, BoxesMeet, HaveMatrix}
use Rattle.any_join_core.specs.StandingNear.{standing_near}
use Rattle.any_join_core.proofs.JoinLemmas.{before, each_listed, listed_in_order, listed_once, list_of_each_once}
use Rattle.report_core.specs.AnyMatches.{IsAnyMatch}
use Rattle.report_core.specs.RefinedReports.{AreMatches, IsRefinedReport}
use Rattle.report_core.specs.Reports.{IsHeld, IsPairReport}
use Rattle.pair_core.specs.declared.product.Product.TheVariants.{Report, Pairs}
use Rattle.run_core.specs.declared.fault.RunFault.{RunFault}
use Rattle.run_core.specs.declared.text.Text.{Text}
use Rattle.run_core.specs.Texts.{bytes_of_text}
use Rattle.join_core.specs.AnyJoinings.{any_joining, IsRelatedReport}
use Rattle.join_core.specs.Products.{HasProduct}
use Rattle.join_core.proofs.JoinRunLemmas.{is_some_of}
use Rattle.join_core.proofs.ProductLemmas.{text_is}

-- ---- what a condition on two layers says, said of the layers

module _ (c : RelatedFeatures) (relation : AnyRelation) (left right : Contents AnyGeometry) (left_is : left_of c ≡ left) (right_is : right_of c ≡ right)
    (relation_is : wanted c ≡ relation) where
  abbrev stands : ℕ → ℕ → Type 0
  stands i j = StandIn (AreRelated (wanted c)) (left_of c) (right_of c) (i, j)

  -- a fact of the condition's layers is one of these
  here : (P : Contents AnyGeometry → Contents AnyGeometry → Type 0) → P (left_of c) (right_of c) → P left right
  here P fact = subst (λ (x : Contents AnyGeometry). P x right) left_is (subst (λ (y : Contents AnyGeometry). P (left_of c) y) right_is fact)

  -- and the other way round
  there : (P : Contents AnyGeometry → Contents AnyGeometry → Type 0) → P left right → P (left_of c) (right_of c)
  there P fact = subst (λ (x : Contents AnyGeometry). P x (right_of c)) (sym left_is) (subst (λ (y : Contents AnyGeometry). P left y) (sym right_is) fact)

  -- candidates whose boxes meet
  pub near_there : (pairs : List (ℕ × ℕ)) → All (IsPairIn (λ i j. StandIn BoxesMeet left right (i, j))) pairs
      → All (IsPairIn (λ i j. StandIn BoxesMeet (left_of c) (right_of c) (i, j))) pairs
  near_there pairs near = there (λ x y. All (IsPairIn (λ i j. StandIn BoxesMeet x y (i, j))) pairs) near

  -- each pair that stands in the relation, with its matrix, is a match
  pub matrices_match : AreMatches stands (λ i j m. StandIn (HaveMatrix m) (left_of c) (right_of c) (i, j)) (IsAnyMatch left right)
  matrices_match = λ found is answer.
      let has = here (λ x y. StandIn (HaveMatrix found.answer) x y found.pair) answer in record {
        first = has.first;
        second = has.second;
        first_held = has.first_held;
        second_held = has.second_held;
        related = has.holds;
      }

  -- the layers hold the features of each pair that stands in the relation
  pub pairs_match : {A : Type 0} (answers : ℕ → ℕ → A → Type 0) → AreMatches stands answers (λ found. IsHeld left right found.pair)
  pairs_match answers = λ found is answer.
      let has = here (λ x y. StandIn (AreRelated (wanted c)) x y found.pair) is in
      (is_some_of (with_number found.pair.0 left) has.first has.first_held, is_some_of (with_number found.pair.1 right) has.second has.second_held)

  -- the report of the candidates that stand in the relation
  pub report_here : {A : Type 0} (answers : Contents AnyGeometry → Contents AnyGeometry → ℕ → ℕ → A → Type 0) (IsText : List (ℕ × ℕ) → List ℕ → Type 0)
      (candidates : List (ℕ × ℕ)) (text : List ℕ) → IsRefinedReport stands (answers (left_of c) (right_of c)) IsText candidates text
      → IsRefinedReport (λ i j. StandIn (AreRelated relation) left right (i, j)) (answers left right) IsText candidates text
  report_here answers IsText candidates text is =
      here (λ x y. IsRefinedReport (λ i j. StandIn (AreRelated relation) x y (i, j)) (answers x y) IsText candidates text)
      (subst (λ (w : AnyRelation). IsRefinedReport (λ i j. StandIn (AreRelated w) (left_of c) (right_of c) (i, j)) (answers (left_of c) (right_of c)) IsText
      candidates text) relation_is is)

-- ---- of all pairs whose boxes meet

module _ (relation : AnyRelation) (layers : Layers AnyGeometry) (candidates now : List (ℕ × ℕ)) (now_is : now ≡ candidates)
    (list : IsJoinList (StandIn BoxesMeet layers.left layers.right) candidates) where
  abbrev near : ℕ → ℕ → Type 0
  near i j = StandIn BoxesMeet layers.left layers.right (i, j)

  abbrev are_related : ℕ → ℕ → Type 0
  are_related i j = StandIn (AreRelated relation) layers.left layers.right (i, j)

  near_list : IsJoinList (λ p. near p.0 p.1) now
  near_list = subst (λ (ps : List (ℕ × ℕ)). IsJoinList (λ p. near p.0 p.1) ps) (sym now_is) list

  -- each of them is near
  pub near_pairs : All (IsPairIn near) now
  near_pairs = each_listed near now near_list

  -- those that stand in the relation are the pairs of the join
  related_listed : {A : Type 0} (answers : ℕ → ℕ → A → Type 0) (refined : List (Refined A)) → AreRefined are_related answers now refined
      → IsJoinList (StandIn (AreRelated relation) layers.left layers.right) (pairs_of refined)
  related_listed answers refined are =
      list_of_each_once are_related (pairs_of refined)
      (each_once are_related answers near now refined (λ i j both. standing_near relation layers.left layers.right i j both) are (listed_once near now near_list))
      (all_pairs_refined are_related answers (λ p q. before p q ≡ true) are (listed_in_order near now near_list))

  -- so the report of those is the product
  pub matrices_reported : (out : Result Text RunFault) → IfOk out (λ text. IsRelatedReport relation layers now (bytes_of_text text))
      → IfOk out (λ text. HasProduct Report (any_joining relation) layers (bytes_of_text text))
  matrices_reported out =
      text_is (IsRelatedReport relation layers now) (HasProduct Report (any_joining relation) layers) out
      (λ text is. record {
        pairs = pairs_of is.refined;
        are_pairs = related_listed (λ i j m. StandIn (HaveMatrix m) layers.left layers.right (i, j)) is.refined is.are_refined;
        made = is.report;
      })

  pub pairs_reported : {A : Type 0} (answers : ℕ → ℕ → A → Type 0) (text : List ℕ)
      → IsRefinedReport are_related answers (IsPairReport layers.left layers.right) now text → HasProduct Pairs (any_joining relation) layers text
  pairs_reported answers text is = record {
    pairs = pairs_of is.refined;
    are_pairs = related_listed answers is.refined is.are_refined;
    made = is.report;
  }
