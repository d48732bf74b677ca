-- What a join of any geometry asks of two geometries, and how it shows them.
use Rattle.std.specs.Prelude.{ℕ, List}
use Rattle.draw_core.specs.Figures.{any_drawing}
use Rattle.layer_core.specs.Edits.{Layers}
use Rattle.filter_core.specs.Joins.{StandIn}
use Rattle.report_core.specs.AnyMatches.{IsAnyMatrix}
use Rattle.report_core.specs.RefinedReports.{IsRefinedReport}
use Rattle.report_core.specs.Reports.{IsReport}
use Rattle.any_geometry_core.specs.declared.geometry.AnyGeometry.{AnyGeometry}
use Rattle.any_relation_core.specs.declared.any_relation.AnyRelation.{AnyRelation}
use Rattle.any_join_core.specs.Matches.{AreRelated, HaveMatrix}
use Rattle.join_core.specs.Joinings.{Joining, joining_by}

-- geometries that stand in a relation, with the matrix by points of the plane
abbrev pub any_joining : AnyRelation → Joining AnyGeometry
any_joining relation = joining_by (AreRelated relation) IsAnyMatrix any_drawing

-- the report, with their matrices, of those of some candidates that stand in a relation
abbrev pub IsRelatedReport : AnyRelation → Layers AnyGeometry → List (ℕ × ℕ) → List ℕ → Type 0
IsRelatedReport relation layers candidates text =
    IsRefinedReport (λ i j. StandIn (AreRelated relation) layers.left layers.right (i, j))
    (λ i j m. StandIn (HaveMatrix m) layers.left layers.right (i, j))
    (IsReport IsAnyMatrix layers.left layers.right) candidates text
