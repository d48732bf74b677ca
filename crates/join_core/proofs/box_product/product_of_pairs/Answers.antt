use Rattle.layer_core.specs.Edits.{both}
use Rattle.draw_core.specs.Outlines.{box_drawing}
use Rattle.relation_core.specs.Matrices.{IsMatrix}
use Rattle.join_core.proofs.ProductLemmas.{plain_text_made}
use Rattle.join_core.proofs.box_product.product_of_pairs.Goals as goal

pub returns-in_default-clause-ok : goal.returns-in_default-clause-ok
returns-in_default-clause-ok g c =
    plain_text_made c.args.product IsMatrix box_drawing (both c.args.left.now.list c.args.right.now.list) _ c.plain_product.result
    c.in_default.not-Report c.in_default.not-Firsts c.plain_product.ensures.ok
