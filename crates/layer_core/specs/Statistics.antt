-- The number of features of a layer by dimension, and the height of its tree.
use Rattle.std.specs.Prelude.{ℕ, ◌+◌, ◌^◌, ◌<◌, ◌==◌, List, Bool, count_by, length}
use Rattle.rtree_core.specs.Trees.{height_of}
use Rattle.layer_core.specs.declared.stats.Stats.{Stats}
use Rattle.layer_core.specs.Layers.{Feature, Contents}
use Rattle.layer_core.specs.LayerTrees.{LayerState}

abbrev pub has_dim : {G : Type 0} → (G → ℕ) → ℕ → Feature G → Bool
has_dim dim_of dim f = dim_of f.shape == dim

-- how many of some features have this dimension: 0 for points, 1 for segments, 2 for rectangles
abbrev pub count_of_dim : {G : Type 0} → (G → ℕ) → ℕ → List (Feature G) → ℕ
count_of_dim dim_of dim features = count_by (has_dim dim_of dim) features

-- the counts of a layer's features, with a height
abbrev pub counts_of : {G : Type 0} → (G → ℕ) → Contents G → ℕ → Stats
counts_of dim_of layer height = record {
  features = length layer.features;
  points = count_of_dim dim_of 0 layer.features;
  segments = count_of_dim dim_of 1 layer.features;
  rectangles = count_of_dim dim_of 2 layer.features;
  height = height;
}

-- the counts of a layer's features, with the height of its tree
abbrev pub stats_of : {G : Type 0} → (G → ℕ) → LayerState G → Stats
stats_of dim_of layer = counts_of dim_of layer.list (height_of layer.root)

-- one more feature of any dimension can be counted
pub record CanCount (s : Stats) : Type 0 where
  pub points : s.points + 1 < 2 ^ 32
  pub segments : s.segments + 1 < 2 ^ 32
  pub rectangles : s.rectangles + 1 < 2 ^ 32
