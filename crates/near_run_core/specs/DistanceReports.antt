-- The report of a list of pairs of two layers, with their distances.
use Rattle.std.specs.Prelude.{ℕ, List, Some, codes}
use Rattle.layer_core.specs.Edits.{Layers}
use Rattle.report_core.specs.Reports.{IsReportBy}

-- the report of a list of pairs that two layers have; which lists they have, and which fields a
-- pair has in the last column, are parameters
pub record IsDistanceReport {G : Type 0} (AreListed : Layers G → List (ℕ × ℕ) → Type 0)
    (IsText : G → G → List ℕ → Type 0) (layers : Layers G) (text : List ℕ) : Type 0 where
  pub pairs : List (ℕ × ℕ)
  pub are_listed : AreListed layers pairs
  pub report : IsReportBy (Some (codes "distance")) IsText layers.left layers.right pairs text
