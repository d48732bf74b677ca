-- The reports of joins by distance.
use Rattle.std.specs.Prelude.{ℕ, List}
use Rattle.number_core.specs.declared.scale.Scale.{Scale}
use Rattle.plane_core.specs.Points.{Point}
use Rattle.layer_core.specs.Edits.{Layers}
use Rattle.distance_core.specs.declared.nearness.Nearness.{Nearness}
use Rattle.near_core.specs.declared.grown.Grown.{Grown}
use Rattle.near_core.specs.Near.{AreWanted}
use Rattle.run_core.specs.LayerPairs.{ArePairs}
use Rattle.near_run_core.specs.DistanceReports.{IsDistanceReport}
use Rattle.near_run_core.specs.DistanceTexts.{IsDistanceText}

-- the points of a geometry that also has a distance
abbrev pub has_grown_point : {G : Type 0} → (G → Point → Type 0) → Grown G → Point → Type 0
has_grown_point has_point g = has_point g.geometry

-- the report of the near pairs of two layers, or of those of them that are apart, as is asked for,
-- with their distances; each feature is read with the distance of the join
abbrev pub IsNearReport : {G : Type 0} → (G → Point → Type 0) → Nearness → Scale
    → Layers (Grown G) → List ℕ → Type 0
IsNearReport has_point nearness scale =
    IsDistanceReport (ArePairs (AreWanted has_point nearness))
    (IsDistanceText (has_grown_point has_point) scale)

-- a geometry that also has a distance has a property
abbrev pub IsGrownMarked : {G : Type 0} → (G → Type 0) → Grown G → Type 0
IsGrownMarked is_marked g = is_marked g.geometry
