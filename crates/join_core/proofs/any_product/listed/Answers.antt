use Rattle.std.proofs.Common.{AllPairs, ap, subst, sym}
use Rattle.descent_core.specs.Rows.{Precedes}
use Rattle.refine_core.specs.Refinements.{pairs_of}
use Rattle.join_core.proofs.JoinRunLemmas.{matches_held}
use Rattle.join_core.proofs.ProductLemmas.{memory_is_late, plain_pairs_made}
use Rattle.join_core.proofs.any_product.listed.Goals as goal

pub plain_product-requires-clause-held : goal.plain_product-requires-clause-held
plain_product-requires-clause-held g c κs within =
    matches_held _ _ _ c.in_ok-outcome.outcome.matches.items _ c.as_slice-matches.ensures.value c.in_ok-outcome.ensures.pairs

pub plain_product-requires-clause-order : goal.plain_product-requires-clause-order
plain_product-requires-clause-order g c κs within =
    subst (λ ms. AllPairs Precedes (pairs_of ms)) (sym c.as_slice-matches.ensures.value) c.in_ok-outcome.ensures.pairs.in_order

pub returns-clause-ok : goal.returns-clause-ok
returns-clause-ok g c =
    plain_pairs_made _ _ _ (pairs_of c.in_ok-outcome.outcome.matches.items) _ c.plain_product.result c.in_ok-outcome.ensures.pairs
    (ap pairs_of c.as_slice-matches.ensures.value) c.plain_product.ensures.ok

pub returns-clause-err : goal.returns-clause-err
returns-clause-err g c = memory_is_late c.plain_product.result c.plain_product.ensures.err
