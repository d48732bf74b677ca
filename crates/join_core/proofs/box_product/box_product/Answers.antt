use Rattle.std.proofs.Common.{AllPairs, subst, sym, ◌∙◌}
use Rattle.std.proofs.lemmas.List.{map-id}
use Rattle.descent_core.specs.Rows.{Precedes}
use Rattle.join_core.proofs.JoinRunLemmas.{pairs_held}
use Rattle.join_core.proofs.ProductLemmas.{memory_is_late, pairs_made}
use Rattle.join_core.proofs.box_product.box_product.Goals as goal

pub product_of_pairs-requires-clause-held : goal.product_of_pairs-requires-clause-held
product_of_pairs-requires-clause-held g c κs within = pairs_held _ _ _ _ _ c.pairs.ensures c.in_ok-outcome.ensures.pairs

pub product_of_pairs-requires-clause-order : goal.product_of_pairs-requires-clause-order
product_of_pairs-requires-clause-order g c κs within = subst (AllPairs Precedes) (sym c.pairs.ensures) c.in_ok-outcome.ensures.pairs.in_order

pub returns-clause-ok : goal.returns-clause-ok
returns-clause-ok g c = pairs_made _ _ _ _ _ c.product_of_pairs.result c.in_ok-outcome.ensures.pairs (map-id _ ∙ c.pairs.ensures) c.product_of_pairs.ensures.ok

pub returns-clause-err : goal.returns-clause-err
returns-clause-err g c = memory_is_late c.product_of_pairs.result c.product_of_pairs.ensures.err
