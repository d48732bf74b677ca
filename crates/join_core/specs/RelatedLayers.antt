-- What a join makes of two layers of one kind.
use Rattle.std.specs.Prelude.{ℕ, List}
use Rattle.pair_core.specs.declared.product.Product.{Product}
use Rattle.layer_core.specs.Edits.{both}
use Rattle.join_core.specs.declared.relation.RelatedLayers.{RelatedLayers}
use Rattle.join_core.specs.declared.relation.RelatedLayers.TheVariants.{Boxes, Any}
use Rattle.join_core.specs.AnyJoinings.{any_joining}
use Rattle.join_core.specs.Joinings.{box_joining}
use Rattle.join_core.specs.Products.{HasProduct}

-- the product of the pairs of two layers of boxes or of any geometry
abbrev pub HaveProduct : Product → RelatedLayers → List ℕ → Type 0
HaveProduct product (Boxes relation left right) text =
    HasProduct product (box_joining relation.now) (both left.now.list right.now.list) text
HaveProduct product (Any relation left right) text =
    HasProduct product (any_joining relation.now) (both left.now.list right.now.list) text
