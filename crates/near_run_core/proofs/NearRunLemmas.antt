-- The report of the candidates of a join by distance that are near.
use Rattle.std.proofs.Common.{◌≡◌, ◌<◌, ℕ, List}
use Rattle.std.specs.Prelude.{Some, codes}
use Rattle.geom_core.specs.declared.shape.Shape.{Shape}
use Rattle.plane_core.specs.Points.{Point}
use Rattle.layer_core.specs.Edits.{Layers}
use Rattle.filter_core.specs.Joins.{StandIn, IsJoinList}
use Rattle.refine_core.specs.Refinements.{IsPairIn, pairs_of}
use Rattle.report_core.specs.RefinedReports.{AreMatches, IsRefinedReport}
use Rattle.report_core.specs.Reports.{IsReportBy}
use Rattle.number_core.specs.declared.scale.Scale.{Scale}
use Rattle.distance_core.specs.declared.nearness.Nearness.{Nearness}
use Rattle.distance_core.specs.ShapePoints.{HasPoint}
use Rattle.near_core.specs.declared.grown.Grown.{Grown}
use Rattle.near_core.specs.declared.features.NearFeatures.{NearFeatures}
use Rattle.near_core.specs.Conditions.{left_of, right_of, wanted}
use Rattle.near_core.specs.Near.{AreWanted, BoxesMeet, HaveSquare}
use Rattle.near_core.specs.StandingNear.{standing_near}
use Rattle.near_core.proofs.JoinLemmas.{refined_join_list}
use Rattle.near_core.proofs.LayerLemmas.{meeting_list, moved, wanted_list}
use Rattle.near_run_core.specs.DistanceTexts.{HasSquare, IsDistanceText}
use Rattle.near_run_core.specs.NearRuns.{IsNearReport, has_grown_point}

-- the layers that a condition is on
module _ {G S Q F : Type 0} (box_of : G → Shape) (has_point : G → Point → Type 0) (in_box : (g : G) (p : Point) → 0 < p.w → has_point g p → HasPoint (box_of g) p)
    (fraction : S → ℕ × ℕ) (c : NearFeatures G Q F) (layers : Layers (Grown G)) (left_is : left_of c ≡ layers.left) (right_is : right_of c ≡ layers.right) where
  -- each pair whose grown boxes meet is near
  pub candidates_near : (candidates now : List (ℕ × ℕ)) → now ≡ candidates → IsJoinList (StandIn (BoxesMeet box_of) layers.left layers.right) candidates
      → IsJoinList (IsPairIn (λ i j. StandIn (BoxesMeet box_of) (left_of c) (right_of c) (i, j))) now
  candidates_near candidates now now_is list = meeting_list c layers.left layers.right left_is right_is box_of candidates now now_is list

  abbrev IsWanted : ℕ → ℕ → Type 0
  IsWanted i j = StandIn (AreWanted has_point (wanted c)) (left_of c) (right_of c) (i, j)

  abbrev IsSquare : ℕ → ℕ → S → Type 0
  IsSquare i j s = StandIn (HaveSquare fraction has_point s) (left_of c) (right_of c) (i, j)

  -- each pair that is asked for, with its square, is a match
  pub matches_are : AreMatches (λ i j. StandIn (AreWanted has_point (wanted c)) (left_of c) (right_of c) (i, j))
      (λ i j s. StandIn (HaveSquare fraction has_point s) (left_of c) (right_of c) (i, j))
      (HasSquare fraction (has_grown_point has_point) layers.left layers.right)
  matches_are = λ found is answers.
      moved (λ x y. StandIn (HaveSquare fraction has_point found.answer) x y found.pair) (left_of c) (right_of c) layers.left layers.right left_is right_is answers

  -- the report of the candidates that are asked for is that of the layers
  pub near_report_made : (nearness : Nearness) (scale : Scale) (candidates now : List (ℕ × ℕ)) (text : List ℕ) → wanted c ≡ nearness → now ≡ candidates
      → IsJoinList (StandIn (BoxesMeet box_of) layers.left layers.right) candidates
      → IsRefinedReport (λ i j. StandIn (AreWanted has_point (wanted c)) (left_of c) (right_of c) (i, j))
      (λ i j s. StandIn (HaveSquare fraction has_point s) (left_of c) (right_of c) (i, j))
      (IsReportBy (Some (codes "distance")) (IsDistanceText (has_grown_point has_point) scale) layers.left layers.right) now text
      → IsNearReport has_point nearness scale layers text
  near_report_made nearness scale candidates now text nearness_is now_is list is = record {
    pairs = pairs_of is.refined;
    are_listed = wanted_list c layers.left layers.right left_is right_is has_point nearness (pairs_of is.refined) nearness_is
        (refined_join_list IsWanted IsSquare (λ i j. StandIn (BoxesMeet box_of) (left_of c) (right_of c) (i, j)) now is.refined
        (λ i j stands. standing_near box_of has_point in_box (wanted c) (left_of c) (right_of c) i j stands) is.are_refined
        (candidates_near candidates now now_is list));
    report = is.report;
  }
