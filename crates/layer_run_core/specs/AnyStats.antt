-- Counts of a layer of any geometry as lines of text.
use Rattle.std.specs.Prelude.{◌≡◌, ℕ, List, ◌++◌, codes, length, sum_by}
use Rattle.rtree_core.specs.Packings.{IsPackedHeight}
use Rattle.layer_core.specs.declared.stats.Stats.{Stats}
use Rattle.layer_core.specs.Layers.{Feature, Contents}
use Rattle.layer_core.specs.Statistics.{counts_of}
use Rattle.plane_core.specs.Figures.{dim_of}
use Rattle.plane_core.specs.Vertices.{vertices_of}
use Rattle.any_geometry_core.specs.declared.geometry.AnyGeometry.{AnyGeometry}
use Rattle.any_geometry_core.specs.AnyGeometries.{figure_of}
use Rattle.layer_run_core.specs.StatsTexts.{count_line}

-- the vertices of all features
abbrev pub vertices_in : List (Feature AnyGeometry) → ℕ
vertices_in features = sum_by (λ f. length (vertices_of (figure_of f.shape))) features

abbrev pub any_stats_text : Stats → ℕ → List ℕ
any_stats_text stats vertices =
    count_line (codes "features") stats.features
    ++ count_line (codes "points") stats.points
    ++ count_line (codes "lines") stats.segments
    ++ count_line (codes "areas") stats.rectangles
    ++ count_line (codes "vertices") vertices
    ++ count_line (codes "height") stats.height

-- the counts of a layer, with the height of a tree packed from its features
abbrev pub AreAnyCounts : Contents AnyGeometry → List ℕ → Type 0
AreAnyCounts layer text =
    (height : ℕ) × IsPackedHeight (length layer.features) height
    × (text ≡ any_stats_text (counts_of (λ g. dim_of (figure_of g)) layer height)
    (vertices_in layer.features))
