-- The products of a join's pairs: a report of all pairs or of the first of each left feature, with
-- or without matrices, the number of each left feature's pairs, the left features without a pair,
-- or a picture.
use Rattle.std.specs.Prelude.{◌≡◌, ◌+◌, ◌≤◌, ⊤, ℕ, List, length}
use Rattle.relation_core.specs.declared.matrix.Matrix.{Matrix}
use Rattle.layer_core.specs.Edits.{Layers}
use Rattle.draw_core.specs.Limits.{most_drawn}
use Rattle.draw_core.specs.Drawings.{Drawing}
use Rattle.draw_core.specs.Pictures.{picture_of}
use Rattle.report_core.specs.Reports.{IsPairReport, IsReport}
use Rattle.run_core.specs.LayerPairs.{ArePairs}
use Rattle.run_core.specs.TextRuns.{Making}
use Rattle.pair_core.specs.declared.product.Product.{Product}
use Rattle.pair_core.specs.declared.product.Product.TheVariants.{Report, Firsts}
use Rattle.pair_core.specs.declared.product.Product.TheVariants.{FirstPairs, Counts, Unmatched}
use Rattle.pair_core.specs.declared.product.Product.TheVariants.{Picture}
use Rattle.join_core.specs.Counts.{counts_text, unmatched_text}
use Rattle.join_core.specs.Firsts.{firsts_of}
use Rattle.join_core.specs.Joinings.{Joining}

-- what is made of these pairs of two layers without matrices: the report of ids of all or of the
-- first pair of each left feature; the number of each left feature's pairs; the left features
-- without a pair; or the picture
abbrev pub IsPlain : {G : Type 0} → Product → Drawing G → Layers G → List (ℕ × ℕ) → List ℕ
    → Type 0
IsPlain Counts drawing layers pairs text = text ≡ counts_text layers.left pairs
IsPlain Unmatched drawing layers pairs text = text ≡ unmatched_text layers.left pairs
IsPlain Picture drawing layers pairs text =
    text ≡ picture_of drawing layers.left layers.right pairs
IsPlain Firsts drawing layers pairs text =
    IsPairReport layers.left layers.right (firsts_of pairs) text
IsPlain FirstPairs drawing layers pairs text =
    IsPairReport layers.left layers.right (firsts_of pairs) text
IsPlain _ drawing layers pairs text = IsPairReport layers.left layers.right pairs text

-- what is made of these pairs of two layers: the report of all or of the first pair of each left
-- feature with matrices, or what needs none
abbrev pub IsMadeOf : {G : Type 0} → Product → (G → G → Matrix → Type 0) → Drawing G → Layers G
    → List (ℕ × ℕ) → List ℕ → Type 0
IsMadeOf Report is_matrix drawing layers pairs text =
    IsReport is_matrix layers.left layers.right pairs text
IsMadeOf Firsts is_matrix drawing layers pairs text =
    IsReport is_matrix layers.left layers.right (firsts_of pairs) text
IsMadeOf product is_matrix drawing layers pairs text = IsPlain product drawing layers pairs text

-- the number of features of two layers
abbrev pub features_of : {G : Type 0} → Layers G → ℕ
features_of layers = length layers.left.features + length layers.right.features

-- a picture doesn't have too many features
abbrev pub IsFew : {G : Type 0} → Product → Layers G → Type 0
IsFew Picture layers = features_of layers ≤ most_drawn
IsFew _ layers = ⊤

-- the product of the pairs of these layers
pub record HasProduct {G : Type 0} (product : Product) (joining : Joining G) (layers : Layers G)
    (text : List ℕ) : Type 0 where
  pub pairs : List (ℕ × ℕ)
  pub are_pairs : ArePairs joining.stands layers pairs
  pub made : IsMadeOf product joining.is_matrix joining.drawing layers pairs text

-- the same without matrices
pub record IsPlainProduct {G : Type 0} (product : Product) (joining : Joining G)
    (layers : Layers G) (text : List ℕ) : Type 0 where
  pub pairs : List (ℕ × ℕ)
  pub are_pairs : ArePairs joining.stands layers pairs
  pub made : IsPlain product joining.drawing layers pairs text

-- the product of their pairs, but no picture of too many features
pub record IsProduct {G : Type 0} (product : Product) (joining : Joining G) (layers : Layers G)
    (text : List ℕ) : Type 0 where
  pub few : IsFew product layers
  pub has_product : HasProduct product joining layers text

-- what a join makes of two layers: the product of their pairs, but no picture of too many features
abbrev pub join_making : {G : Type 0} → Product → Joining G → Making G
join_making product joining = record {
  is_text = IsProduct product joining;
  are_too_many = λ layers. ¬ (IsFew product layers);
}
