-- The reports of searches for the nearest features.
use Rattle.std.specs.Prelude.{◌≡◌, ℕ, List}
use Rattle.number_core.specs.declared.scale.Scale.{Scale}
use Rattle.plane_core.specs.Points.{Point}
use Rattle.layer_core.specs.Edits.{Layers}
use Rattle.refine_core.specs.declared.refined.Refined.{Refined}
use Rattle.refine_core.specs.Refinements.{pairs_of}
use Rattle.nearest_core.specs.Matches.{AreMatches}
use Rattle.distance_core.specs.declared.query.Query.{Query}
use Rattle.near_run_core.specs.DistanceReports.{IsDistanceReport}
use Rattle.near_run_core.specs.DistanceTexts.{IsDistanceText}

-- for each left feature, in layer order, its pairs with the right ones that are nearest to it, as
-- the query asks for them: by their distances, and then in layer order
pub record AreNearestPairs {G S : Type 0} (fraction : S → ℕ × ℕ) (has_point : G → Point → Type 0)
    (query : Query) (layers : Layers G) (pairs : List (ℕ × ℕ)) : Type 0 where
  pub matches : List (Refined S)
  pub are_matches : AreMatches fraction has_point query layers.right layers.left.features matches
  pub same : pairs ≡ pairs_of matches

-- the report of the features of two layers, each left one with the right ones that are nearest to
-- it, as the query asks for them, with their distances
abbrev pub IsNearestReport : {G S : Type 0} → (S → ℕ × ℕ) → (G → Point → Type 0) → Query → Scale
    → Layers G → List ℕ → Type 0
IsNearestReport fraction has_point query scale =
    IsDistanceReport (AreNearestPairs fraction has_point query) (IsDistanceText has_point scale)
