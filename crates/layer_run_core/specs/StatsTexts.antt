-- Counts as lines of text.
use Rattle.std.specs.Prelude.{◌≡◌, ℕ, List, [], ◌∷◌, ◌++◌, codes, decimal, length}
use Rattle.rtree_core.specs.Packings.{IsPackedHeight}
use Rattle.geom_core.specs.declared.shape.Shape.{Shape}
use Rattle.geom_core.specs.Shapes.{dim_of}
use Rattle.layer_core.specs.declared.stats.Stats.{Stats}
use Rattle.layer_core.specs.Layers.{Contents}
use Rattle.layer_core.specs.Statistics.{counts_of}

-- a word, a space, a number in decimal digits and a line feed
abbrev pub count_line : List ℕ → ℕ → List ℕ
count_line word count = word ++ codes " " ++ decimal count ++ 10 ∷ []

abbrev pub stats_text : Stats → List ℕ
stats_text stats =
    count_line (codes "features") stats.features
    ++ count_line (codes "points") stats.points
    ++ count_line (codes "segments") stats.segments
    ++ count_line (codes "rectangles") stats.rectangles
    ++ count_line (codes "height") stats.height

-- the counts of a layer, with the height of a tree packed from its features
abbrev pub AreCounts : Contents Shape → List ℕ → Type 0
AreCounts layer text =
    (height : ℕ) × IsPackedHeight (length layer.features) height
    × (text ≡ stats_text (counts_of dim_of layer height))
