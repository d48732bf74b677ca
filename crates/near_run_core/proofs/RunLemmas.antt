-- The reports of matches with distances.
use Rattle.std.proofs.Common.{◌≡◌, ℕ, List, map, subst}
use Rattle.std.specs.Prelude.{Some, codes}
use Rattle.layer_core.specs.Edits.{Layers}
use Rattle.refine_core.specs.declared.refined.Refined.{Refined}
use Rattle.refine_core.specs.Refinements.{pairs_of}
use Rattle.report_core.specs.Reports.{IsReportBy}
use Rattle.near_run_core.specs.DistanceReports.{IsDistanceReport}

-- the report of the matches that were found is that of their pairs
pub report_made : {G A : Type 0} (AreListed : Layers G → List (ℕ × ℕ) → Type 0) (IsText : G → G → List ℕ → Type 0) (layers : Layers G)
    (found matches : List (Refined A)) (text : List ℕ) → matches ≡ found → AreListed layers (pairs_of found)
    → IsReportBy (Some (codes "distance")) IsText layers.left layers.right (map (λ r. r.pair) matches) text → IsDistanceReport AreListed IsText layers text
report_made {A = A} AreListed IsText layers found matches text same are report = record {
  pairs = pairs_of found;
  are_listed = are;
  report = subst (λ (ms : List (Refined A)). IsReportBy (Some (codes "distance")) IsText layers.left layers.right (pairs_of ms) text) same report;
}
