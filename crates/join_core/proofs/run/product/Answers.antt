use Rattle.join_core.proofs.ProductLemmas.{product_made, too_many}
use Rattle.join_core.proofs.run.product.Goals as goal

pub returns-then-not-can_be_made : goal.returns-then-not-can_be_made
returns-then-not-can_be_made g c = too_many _ _ _ (c.can_be_made.ensures.many (let is = c.if-not-can_be_made.true in cc))

pub returns-in-Boxes : goal.returns-in-Boxes
returns-in-Boxes g c =
    product_made _ _ _ _ _ c.box_product.result c.in-Boxes.is c.of_layers.ensures (c.can_be_made.ensures.few (let is = c.if-not-can_be_made.false in cc))
    c.box_product.ensures.ok c.box_product.ensures.err

pub returns-in-Any : goal.returns-in-Any
returns-in-Any g c =
    product_made _ _ _ _ _ c.any_product.result c.in-Any.is c.of_layers.ensures (c.can_be_made.ensures.few (let is = c.if-not-can_be_made.false in cc))
    c.any_product.ensures.ok c.any_product.ensures.err
