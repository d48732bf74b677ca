-- The edges and single points of a geometry, without the interior of its areas.
use Rattle.std.specs.Prelude.{◌≡◌, Bool, ◌||◌, true}
use Rattle.std.specs.List.{list_any}
use Rattle.plane_core.specs.Points.{Point, is_on, is_at}
use Rattle.plane_core.specs.Figures.{Figure, edges_of, points_of}
use Rattle.plane_core.specs.PlaneMatrices.{SharePoint}
use Rattle.distance_core.specs.ShapePoints.{IsPointOf}

-- the point is on an edge, or is one of the single points
abbrev pub is_on_skeleton : Figure → Point → Bool
is_on_skeleton g p =
    list_any (λ e. is_on e p) (edges_of g) || list_any (λ v. is_at v p) (points_of g)

abbrev pub IsOnSkeleton : Figure → Point → Type 0
IsOnSkeleton g p = is_on_skeleton g p ≡ true

-- no point is in both closed geometries
abbrev pub AreApart : Figure → Figure → Type 0
AreApart g h = ¬ (SharePoint (λ p. IsPointOf g p × IsPointOf h p))
